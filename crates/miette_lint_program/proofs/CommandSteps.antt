-- Steps of telling findings as workflow commands of GitHub.
use Rattle.std.proofs.Common.{◌≡◌, ℕ, suc, zero, ◌+◌, ◌<◌, ◌≤◌, true, false, List, [], ◌∷◌, ◌++◌, length, get_or, map}
use Rattle.std.proofs.Common.{drop, Some, None, refl, sym, ap, ap₂, ◌∙◌, subst, arith, add-one, append_assoc}
use Rattle.std.proofs.Common.{append-nil}
use Rattle.std.proofs.Math.Seq.{drop-cons}
use Rattle.std.proofs.lemmas.Bool.{and_from, or_right}
use Rattle.std.proofs.lemmas.List.{drop_all}
use Rattle.miette_lines.specs.rules.Lists.{is_nil}
use Rattle.miette_protocol.specs.views.Meaning.{Label}
use Rattle.miette_protocol.specs.rules.Reading.{named_source, plain_source}
use Rattle.miette_brief.specs.rules.Report as rows
use Rattle.miette_labels.proofs.RefusedLabel.{accepted_is}
use Rattle.miette_labels.specs.rules.Groups.{AreInBounds}
use Rattle.miette_lint.proofs.AcceptedFindings.{findings_accepted}
use Rattle.miette_lint.specs.rules.FindingWithFixes.{FindingWithFixes, coded_findings}
use Rattle.miette_lint.specs.rules.Findings.{findings_of}
use Rattle.miette_protocol.specs.rules.Reading.{Source, is_in_bounds}
use Rattle.miette_tree.specs.rules.Reads.{AllAlwaysRead, AlwaysReads, accepts, reports_pass}
use Rattle.miette_tree.specs.rules.Tree.{Tree, Trees, trees}
use Rattle.miette_lint_program.specs.rules.Logs.{finding_tree, finding_trees}
use Rattle.miette_lint_program.specs.views.LintReports.{commands_of, commands_settings, label_of}

-- ---- the commands of reports, one after the other

read_at : {R : Type 0} (value : R → Tree) (rs : List R) (i : ℕ) (r : R) → i < length rs → r ≡ get_or rs i r
    → AllAlwaysRead (trees (map value rs)) → AlwaysReads (value r)
read_at value [] i r lt is h = absurd (omega (arith, lt))
read_at value (x ∷ xs) zero r lt is h = subst (λ y. AlwaysReads (value y)) (sym is) h.0
read_at value (x ∷ xs) (suc i) r lt is h = read_at value xs i r (omega (arith, lt)) is h.1

module _ {R : Type 0} (value : R → Tree) (rs : List R) (i : ℕ) where
  -- those that are left
  abbrev pub AreLeft : List ℕ → List ℕ → Type 0
  AreLeft out all = out ++ commands_of (trees (map value (drop i rs))) ≡ all

  pub told_more : (s : rows.BriefSettings) (r : R) (old new all : List ℕ) → i < length rs → r ≡ get_or rs i r
      → s ≡ commands_settings → AllAlwaysRead (trees (map value rs))
      → (AlwaysReads (value r) → new ≡ old ++ rows.brief s (value r) rows.unlisted) → AreLeft old all
      → new ++ commands_of (trees (map value (drop (i + 1) rs))) ≡ all
  told_more s r old new all lt is same reads only h =
      let later : List ℕ = commands_of (trees (map value (drop (suc i) rs))) in
      let mine : List ℕ = rows.brief commands_settings (value r) rows.unlisted in
      let put : new ≡ old ++ mine =
      only (read_at value rs i r lt is reads) ∙ ap (λ u. old ++ rows.brief u (value r) rows.unlisted) same in
      ap (λ k. new ++ commands_of (trees (map value (drop k rs)))) (add-one i) ∙ ap (λ o. o ++ later) put
      ∙ append_assoc old mine later
      ∙ ap (λ l. old ++ commands_of (trees (map value l)))
      (sym (drop-cons rs i r lt ∙ ap (λ y. y ∷ drop (suc i) rs) (sym is)))
      ∙ h

  pub told_all : (out all : List ℕ) → length rs ≤ i → AreLeft out all → out ≡ all
  told_all out all end h =
      sym (append-nil out) ∙ ap (λ l. out ++ commands_of (trees (map value l))) (sym (drop_all i rs end)) ∙ h

-- ---- no label of a finding is refused

module _ (s : Source) (reads : s.always_reads ≡ true) where
  one_accepted : (label : Label) → is_in_bounds s.bytes label.span ≡ true
      → accepts (Some s) (record label { text = None } ∷ []) ≡ true
  one_accepted label h =
      and_from _ _ (and_from _ _ h refl) (or_right (is_nil (record label { text = None } ∷ [])) s.always_reads reads)

  related_accepted : (its : List FindingWithFixes) → AreInBounds s.bytes (map label_of its)
      → reports_pass accepts (Some s) (trees (map finding_tree its)) ≡ true
  related_accepted [] h = refl
  related_accepted (it ∷ its) h =
      and_from _ _ (and_from _ _ (and_from _ _ (one_accepted it.label (accepted_is s.bytes it.label.span h.0)) refl)
      refl) (related_accepted its h.1)

trees_accepted : (name input : List ℕ) (its : List FindingWithFixes) → AreInBounds input (map label_of its)
    → reports_pass accepts None (finding_trees name input its) ≡ true
trees_accepted name input [] h = refl
trees_accepted name input (it ∷ its) h =
    let s : Source = named_source (plain_source input) name None in
    and_from _ _ (and_from _ _ (and_from _ _ (one_accepted s refl it.label (accepted_is input it.label.span h.0))
    (related_accepted s refl its h.1)) refl) refl

pub never_refused : (name input : List ℕ) (its : List FindingWithFixes) (ts : Trees) → ts ≡ finding_trees name input its
    → AreInBounds input (map label_of its) → reports_pass accepts None ts ≡ false → ⊥
never_refused name input its ts e h refused =
    let no : true ≡ false =
    sym (ap (reports_pass accepts None) e ∙ trees_accepted name input its h) ∙ refused in cc

-- ---- what is said

pub commands_told : (name input : List ℕ) (its : List FindingWithFixes) (ts : Trees) (old new : List ℕ)
    → ts ≡ finding_trees name input its → old ≡ [] → new ≡ old ++ commands_of ts
    → new ≡ commands_of (finding_trees name input its)
commands_told name input its ts old new e none put = put ∙ ap₂ (λ o l. o ++ commands_of l) none e

pub all_told : (name : List ℕ) (width : ℕ) (input bytes text : List ℕ) (its : List FindingWithFixes)
    → its ≡ coded_findings bytes width → bytes ≡ input → text ≡ commands_of (finding_trees name input its)
    → text ≡ commands_of (finding_trees name input (coded_findings input width))
all_told name width input bytes text its found same told =
    told ∙ ap (λ l. commands_of (finding_trees name input l)) (found ∙ ap (λ l. coded_findings l width) same)

pub labels_accepted : (input bytes : List ℕ) (width : ℕ) (its : List FindingWithFixes)
    → ((s : List ℕ) (w : ℕ) → map (λ (it : FindingWithFixes). it.label) (coded_findings s w) ≡ findings_of s w)
    → its ≡ coded_findings bytes width → bytes ≡ input → AreInBounds input (map label_of its)
labels_accepted input bytes width its labels found same =
    findings_accepted input width (map label_of its)
    (ap (map label_of) found ∙ labels bytes width ∙ ap (λ l. findings_of l width) same)
