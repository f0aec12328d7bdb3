-- Results of reads and of the highlighter, which settings and labels don't determine.
use Rattle.std.specs.Prelude.{ℕ, ◌≡◌, List, [], ◌∷◌, Bool, false}
use Rattle.std.specs.List.{AllByRecursion}
use Rattle.miette_style.specs.declared.style.Style.{Style}

-- a piece of a line: its length in bytes and its style
pub record Highlight : Type 0 where
  pub bytes : ℕ
  pub style : Style

-- Whether reads fail: the one that finds the end of the source, those of the labels, of the groups that labels would
-- join (if a label has its own context lines: of all groups), and of the snippets' locations. And the highlighter's
-- pieces for each line of each snippet. A read that isn't listed succeeds. A line that isn't listed is a single plain
-- piece, which is never listed.
pub record Answers : Type 0 where
  pub end_fails : Bool
  pub label_fails : List Bool
  pub join_fails : List Bool
  pub place_fails : List Bool
  pub pieces : List (List (List Highlight))

-- whether the next read fails
abbrev pub next_answer : List Bool → Bool
next_answer [] = false
next_answer (fails ∷ more) = fails

-- the first list, or an empty one if there is none
abbrev pub first_of : {X : Type 0} → List (List X) → List X
first_of [] = []
first_of (x ∷ more) = x

-- no read fails
abbrev pub NoneFails : List Bool → Type 0
NoneFails fails = AllByRecursion (λ f. f ≡ false) fails

-- a source that always reads
pub record AlwaysReads (answers : Answers) : Type 0 where
  pub end : answers.end_fails ≡ false
  pub labels : NoneFails answers.label_fails
  pub joins : NoneFails answers.join_fails
  pub places : NoneFails answers.place_fails
