-- Steps of brief rows of a diagnostic over an input.
use Rattle.std.proofs.Common.{◌≡◌, ℕ, false, true, List, [], ◌++◌, refl, sym, subst, ap, ap₂, ◌∙◌}
use Rattle.std.proofs.lemmas.Bool.{and_from, or_right}
use Rattle.miette_lines.specs.rules.Lists.{is_nil}
use Rattle.miette_brief.specs.rules.Report as rows
use Rattle.miette_labels.specs.rules.Groups.{AreInBounds}
use Rattle.miette_protocol.specs.views.Meaning.{Meaning}
use Rattle.miette_tree.specs.rules.DiagnosticParts.{given_labels}
use Rattle.miette_tree.specs.rules.Reads.{AlwaysReads, report_in_bounds}
use Rattle.miette_tree.specs.rules.Tree.{Tree}
use Rattle.miette_tree.proofs.Readings.{none_further}
use Rattle.miette_graphical_rules.proofs.AlwaysRead.{accept_all}
use Rattle.miette_draw.specs.rules.Pictures.{over_input}

pub listed : (t : Tree) (name : List ℕ) (m : Meaning) (input : List ℕ) (s : rows.BriefSettings) (old new : List ℕ) → t
    ≡ over_input name m input → s ≡ rows.default_brief_settings → old ≡ []
    → (AlwaysReads t → new ≡ old ++ rows.brief s t rows.unlisted) → new
    ≡ rows.brief rows.default_brief_settings (over_input name m input) rows.unlisted
listed t name m input s old new same is none only =
    let over : AlwaysReads (over_input name m input) = (refl, tt, tt, none_further) in
    only (subst AlwaysReads (sym same) over) ∙ ap (λ o. o ++ rows.brief s t rows.unlisted) none
    ∙ ap₂ (λ u v. rows.brief u v rows.unlisted) is same

-- an input whose labels are accepted is never refused
over_accepted : (name : List ℕ) (m : Meaning) (input : List ℕ) → AreInBounds input (given_labels m.labels)
    → report_in_bounds (over_input name m input) ≡ true
over_accepted name m input h =
    and_from _ _ (and_from _ _ (and_from _ _ (accept_all input (given_labels m.labels) h)
    (or_right (is_nil (given_labels m.labels)) true refl)) refl) refl

pub never_refused : (t : Tree) (name : List ℕ) (m : Meaning) (input : List ℕ) → t ≡ over_input name m input
    → report_in_bounds t ≡ false → AreInBounds input (given_labels m.labels) → ⊥
never_refused t name m input same refused h =
    let no : true ≡ false = sym (ap report_in_bounds same ∙ over_accepted name m input h) ∙ refused in cc
