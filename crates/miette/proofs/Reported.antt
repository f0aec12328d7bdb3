-- Reports of a run, one after another.
use Rattle.std.proofs.Common.{◌≡◌, ◌∙◌, ◌+◌, ◌<◌, ◌≤◌, ℕ, List, [], ◌∷◌, Result, ap, drop, get_or, length, map, refl}
use Rattle.std.proofs.Common.{subst, sym}
use Rattle.std.proofs.lemmas.List.{drop_all, drop_more}
use Rattle.miette_protocol.specs.rules.Reading.{Source}
use Rattle.miette_protocol.specs.views.Meaning.{Meaning}
use Rattle.miette_tree.specs.declared.tree.Report.{Report}
use Rattle.miette_tree.specs.rules.Tree.{Tree}
use Rattle.miette_tree.specs.views.Report.{tree_of}
use Rattle.miette.specs.declared.print.PrintError.{PrintError}
use Rattle.miette.specs.rules.Counting.{with_all}
use Rattle.miette.specs.rules.Reported.{AreReported, Behaviour, IsReported}
use Rattle.miette.specs.rules.ReporterRun.{ReporterRun}
use Rattle.miette.specs.views.Severities.{counted_severity}

-- those from one on
next_one : {A : Type 0} (xs : List A) (i : ℕ) (x : A) → i < length xs → x ≡ get_or xs i x
    → x ∷ drop (i + 1) xs ≡ drop i xs
next_one xs i x inside is = sym (drop_more xs i x inside ∙ ap (λ y. y ∷ drop (i + 1) xs) (sym is))

module _ {T W F : Type 0} (how : Behaviour T W) where
  -- whatever the reports from one on make of the run that it is now, all make of the old one
  abbrev pub ReportedSoFar : {A : Type 0} → (A → Tree) → List A → ℕ → ReporterRun T W F → ReporterRun T W F → Type 0
  ReportedSoFar value xs i old now =
      (new : ReporterRun T W F) → AreReported how now (map value (drop i xs)) new
      → AreReported how old (map value xs) new

  pub reported_more : {A : Type 0} (value : A → Tree) (xs : List A) (i : ℕ) (x : A)
      (answer : Result (Unit {0}) PrintError) (old now next : ReporterRun T W F) → i < length xs → x ≡ get_or xs i x
      → ReportedSoFar value xs i old now → IsReported how answer now (value x) next
      → ReportedSoFar value xs (i + 1) old next
  reported_more value xs i x answer old now next inside is so_far one = λ new rest.
      so_far new (subst (λ ys. AreReported how now (map value ys) new) (next_one xs i x inside is)
      (answer, next, one, rest))

  pub reported_all : {A : Type 0} (value : A → Tree) (xs : List A) (i : ℕ) (old now : ReporterRun T W F) → length xs ≤ i
      → ReportedSoFar value xs i old now → AreReported how old (map value xs) now
  reported_all value xs i old now past so_far =
      so_far now (subst (λ ys. AreReported how now (map value ys) now) (sym (drop_all i xs past)) refl)

  -- each is counted by its severity
  pub counted_all : {D S : Type 0} (means : D → Meaning) (shows : S → Source) (xs : List (Report D S))
      (old new : ReporterRun T W F) → AreReported how old (map (tree_of means shows) xs) new
      → new.counts ≡ with_all old.counts (map (counted_severity means shows) xs)
  counted_all means shows [] old new same = ap (λ (it : ReporterRun T W F). it.counts) same
  counted_all means shows (x ∷ xs) old new h =
      counted_all means shows xs h.1 new h.3
      ∙ ap (λ (it : ReporterRun T W F). with_all it.counts (map (counted_severity means shows) xs)) h.2.state
