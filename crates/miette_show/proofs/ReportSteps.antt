-- Texts of reports, one after another.
use Rattle.std.proofs.Common.{◌≡◌, ℕ, ◌+◌, ◌<◌, ◌≤◌, List, [], ◌∷◌, Bool}
use Rattle.std.proofs.Common.{length, get_or, take, map, sym}
use Rattle.std.proofs.Common.{ap, subst, ◌∙◌}
use Rattle.std.specs.Prelude.{◌||◌}
use Rattle.std.proofs.lemmas.List.{map-append, take_all}
use Rattle.miette_tree.specs.rules.Tree.{Tree}
use Rattle.miette_read.proofs.Steps.{next_taken}
use Rattle.miette_highlight.specs.rules.HighlighterCalls.{Call}
use Rattle.miette_program.proofs.JobHandlerSteps.{given-before}
use Rattle.miette_program.specs.declared.job_handler.JobHandler.{JobHandler}
use Rattle.miette_program.specs.rules.JobText.{IsGiven, IsLed, JobHandlerStays}
use Rattle.miette_show.specs.views.Texts.{AreTexts, IsPushed}
use Rattle.miette_show.proofs.TextSteps.{pushed_by, texts_more}

module _ {H X : Type 0} (is_blank : H → Bool) (may_follow : H → List Call → Type 0) (h k : JobHandler H)
    (tree : X → Tree) (xs : List X) (i : ℕ) (x : X) where
  pub one_text_more : (grave error both : Bool) (old new : List ℕ) → i < length xs → x ≡ get_or xs i x
      → JobHandlerStays is_blank h k → IsLed may_follow h k
      → AreTexts (IsGiven is_blank may_follow h) (map tree (take i xs)) grave old
      → IsPushed (IsGiven is_blank may_follow k) (tree x) error old new → both ≡ (grave || error)
      → AreTexts (IsGiven is_blank may_follow h) (map tree (take (i + 1) xs)) both new
  one_text_more grave error both old new inside is stays led texts pushed either =
      let gives = IsGiven is_blank may_follow h in
      subst (λ ts. AreTexts gives ts both new)
      (sym (ap (map tree) (next_taken xs i x inside is) ∙ map-append tree (take i xs) (x ∷ [])))
      (texts_more gives (map tree (take i xs)) (tree x) grave error both old new texts
      (pushed_by (IsGiven is_blank may_follow k) gives
      (λ t text. given-before is_blank may_follow h k t text stays led) (tree x) error old new pushed) either)

pub all_texts : {X : Type 0} (gives : Tree → List ℕ → Type 0) (tree : X → Tree) (xs : List X) (i : ℕ) (grave : Bool)
    (text : List ℕ) → length xs ≤ i → AreTexts gives (map tree (take i xs)) grave text
    → AreTexts gives (map tree xs) grave text
all_texts gives tree xs i grave text end texts =
    subst (λ ys. AreTexts gives (map tree ys) grave text) (take_all i xs end) texts
