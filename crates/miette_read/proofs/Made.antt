-- The parts of a report, and its lists of labels by their numbers.
use Rattle.std.proofs.Common.{◌≡◌, ℕ, zero, suc, ◌+◌, List, [], ◌∷◌, Some, Bool, true, false, arith}
use Rattle.std.proofs.Common.{map, filter, refl, ap, subst, inl, inr}
use Rattle.std.specs.Prelude.{if◌then◌else◌}
use Rattle.std.specs.List.{Any, flat_map}
use Rattle.std.proofs.lemmas.Bool.{eq-eqb}
use Rattle.std.proofs.lemmas.Option.{same_Some}
use Rattle.miette_fixes.specs.rules.Edits.{FixModel}
use Rattle.miette_protocol.specs.rules.Reading.{Source}
use Rattle.miette_protocol.specs.views.Meaning.{Label}
use Rattle.miette_read.specs.rules.SuggestedFixes.{Suggestion}
use Rattle.miette_read.specs.rules.Reports.{MessageParts, advice_of, further_files, is_listed, label_of, labels_in}
use Rattle.miette_read.specs.rules.Reports.{main_fixes, maybe_source, meaning_with, report_tree, sections_from}
use Rattle.miette_read.specs.rules.AnnotationLabels.{FileLabel, LabelLists, main_file_name}
use Rattle.miette_read.proofs.Accepted.{given_some, nth}
use Rattle.miette_tree.specs.rules.Diagnosis.{Section, plain_diagnosis}
use Rattle.miette_tree.specs.rules.Tree.{Tree, Trees, single_report, head, source_of, texts, trees, with_all_snippets}
use Rattle.miette_tree.specs.rules.Tree.{with_cause, with_fixes, with_related}
use Rattle.miette_read.specs.laws.Lists.{label_sections}
use Rattle.miette_read.specs.laws.MessageTexts.{HasMessageParts}
use Rattle.miette_read.proofs.Holding.{Has, has_any}

-- ---- its parts

abbrev over : Source → List Label → Section
over s ls = record { source = s; labels = ls }

abbrev pub made : MessageParts → LabelLists → List Source → List FixModel → Trees → Tree
made said done ss fixes more =
    with_related more (with_fixes fixes (with_all_snippets (sections_from done.marks 1 (further_files ss))
    (with_cause (texts done.texts) (maybe_source ss (single_report (plain_diagnosis (meaning_with said done.marks)))))))

abbrev pub all_fixes : LabelLists → List Suggestion → List FixModel
all_fixes done offers = flat_map (main_fixes (main_file_name done.marks)) offers

abbrev pub all_advice : LabelLists → List Suggestion → List Tree
all_advice done offers = flat_map (advice_of (main_file_name done.marks)) offers

module _ (said : MessageParts) (done : LabelLists) (fixes : List FixModel) (more : Trees) where
  pub lists_made : (ss : List Source) → label_sections (made said done ss fixes more) ≡ sections_from done.marks 0 ss
  lists_made [] = refl
  lists_made (s ∷ ss) =
      ap (λ (ls : List Label). over s ls ∷ sections_from done.marks 1 ss)
      (given_some (labels_in done.marks 0))

  pub source_made : (ss : List Source) → source_of (made said done ss fixes more) ≡ nth ss 0
  source_made [] = refl
  source_made (s ∷ ss) = refl

  pub said_made : (ss : List Source) → HasMessageParts said (head (made said done ss fixes more))
  said_made [] = (refl, refl, refl, refl, refl)
  said_made (s ∷ ss) = (refl, refl, refl, refl, refl)

  pub fixes_made : (ss : List Source) → (head (made said done ss fixes more)).fixes ≡ fixes
  fixes_made [] = refl
  fixes_made (s ∷ ss) = refl

pub report_says : (said : MessageParts) (done : LabelLists) (offers : List Suggestion)
    → HasMessageParts said (head (report_tree said done offers))
report_says said done offers =
    said_made said done (all_fixes done offers) (trees (all_advice done offers)) done.files

-- ---- the labels of a list

listed_by : (Q : Label → Type 0) (m : FileLabel) (ms : List FileLabel) (b : Bool) → b ≡ true → Q (label_of m)
    → Has Q (map label_of (if b then m ∷ ms else ms))
listed_by Q m ms true e q = inl q
listed_by Q m ms false e q = cc

listed_after : (Q : Label → Type 0) (m : FileLabel) (ms : List FileLabel) (b : Bool) → Has Q (map label_of ms)
    → Has Q (map label_of (if b then m ∷ ms else ms))
listed_after Q m ms true h = inr h
listed_after Q m ms false h = h

pub listed : (P : FileLabel → Type 0) (Q : Label → Type 0) → ((m : FileLabel) → P m → Q (label_of m))
    → (n : ℕ) (ms : List FileLabel)
    → Has (λ (m : FileLabel). P m × (m.list ≡ n)) ms → Has Q (labels_in ms n)
listed P Q each n [] h = absurd h
listed P Q each n (m ∷ ms) (inl here) =
    listed_by Q m (filter (is_listed n) ms) (is_listed n m) (eq-eqb m.list n here.1) (each m here.0)
listed P Q each n (m ∷ ms) (inr h) =
    listed_after Q m (filter (is_listed n) ms) (is_listed n m) (listed P Q each n ms h)

-- in the list of a number, which is over its file
pub sectioned : (Q : Label → Type 0) (s : Source) (ms : List FileLabel) (n : ℕ) → Has Q (labels_in ms n)
    → (k : ℕ) (ss : List Source) (j : ℕ) → nth ss j ≡ Some s → n ≡ k + j
    → Has (λ (list : Section). (list.source ≡ s) × Any Q list.labels) (sections_from ms k ss)
sectioned Q s ms n h k [] j is e = cc
sectioned Q s ms n h k (x ∷ xs) zero is e =
    let same : n ≡ k = omega (arith, e) in
    inl (same_Some x s is, has_any Q (labels_in ms k) (subst (λ (i : ℕ). Has Q (labels_in ms i)) same h))
sectioned Q s ms n h k (x ∷ xs) (suc j) is e =
    let next : n ≡ (k + 1) + j = omega (arith, e) in inr (sectioned Q s ms n h (k + 1) xs j is next)
