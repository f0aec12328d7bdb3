-- What the clauses of a picture say of a report with a fix.
use Rattle.std.proofs.Common.{◌≡◌, ℕ, Bool, List, [], ◌∷◌, ◌++◌, true, false, refl, sym, ◌∙◌, ap, subst}
use Rattle.std.proofs.Common.{encode_utf8_all, Some}
use Rattle.std.specs.List.{AllByRecursion}
use Rattle.miette_tree.specs.rules.Tree.{Tree}
use Rattle.miette_tree.specs.views.Handler.{AppendsOne}
use Rattle.miette_graphical_rules.proofs.Rows.{bytes-stand}
use Rattle.miette_graphical_rules.specs.laws.FixDiffs.{FixesAreTold, TellsChanges}
use Rattle.miette_graphical_rules.specs.laws.HeldRows.{IsHoldingText, StartsRowIn}
use Rattle.miette_graphical_rules.specs.rules.DiagnosticText.{fixes_text}
use Rattle.miette_graphical_rules.specs.rules.PrintedDiagnostics.{diagnostics_of}
use Rattle.miette_graphical_rules.specs.rules.Snippets.{drawn_fix, whole_drawing}
use Rattle.miette_graphical_rules.specs.rules.Text.{report_text}
use Rattle.miette_graphical_rules.specs.views.HandlerState.{HandlerState, draws_plain, without_highlighter}
use Rattle.callers.specs.Known.{plain}
use Rattle.callers.specs.Mended.{FixStands, TellsColon, code_file, colon, colon_tree}

pub fix_stands : {H : Type 0} (is_blank : H → Bool) (h : HandlerState H) (t : Tree) (old new : List ℕ)
    → h ≡ without_highlighter plain → t ≡ colon_tree → old ≡ []
    → AppendsOne (IsHoldingText whole_drawing h.settings (draws_plain is_blank h) t) old new → FixStands new
fix_stands is_blank h t old new p q none appended =
    let own : IsHoldingText whole_drawing plain true colon_tree appended.text =
    subst (λ u. IsHoldingText whole_drawing plain true u appended.text) q
    (subst (λ g. IsHoldingText whole_drawing g.settings (draws_plain is_blank g) t appended.text) p
    appended.is_given) in
    let text : List ℕ = report_text whole_drawing plain colon_tree own.answers in
    let whole : new ≡ encode_utf8_all text =
    appended.appended ∙ ap (λ o. o ++ appended.text) none ∙ own.text in
    let drawn : Bool → List ℕ = λ fails. fixes_text plain (drawn_fix plain (Some code_file) fails colon ∷ []) in
    let stands : StartsRowIn (drawn false) text =
    subst (λ fails. StartsRowIn (drawn fails) text) (own.are.0.fixes refl) (own.fixes [] _ refl) in
    subst (StartsRowIn (encode_utf8_all (drawn false))) (sym whole) (bytes-stand (drawn false) text stands)

pub colon_told : {H : Type 0} (h : HandlerState H) (t : Tree) → h ≡ without_highlighter plain → t ≡ colon_tree
    → AllByRecursion (FixesAreTold h.settings) (diagnostics_of h.settings t) → TellsColon
colon_told h t p q all =
    let known : AllByRecursion (FixesAreTold plain) (diagnostics_of plain colon_tree) =
    subst (λ u. AllByRecursion (FixesAreTold plain) (diagnostics_of plain u)) q
    (subst (λ g. AllByRecursion (FixesAreTold g.settings) (diagnostics_of g.settings t)) p all) in
    let told : TellsChanges plain code_file colon.edits = (known.0 refl).0 refl in
    record { rows = told.rows; frames = told.frames; before = told.before; after = told.after }
