-- Changes have no line in common at their ends.
use Rattle.std.proofs.Common.{ℕ, zero, suc, ◌-◌, ◌≤◌, ◌≡◌, Bool, true, false, cond, List, [], ◌∷◌, ◌++◌}
use Rattle.std.proofs.Common.{length, take, drop, reverse, refl, sym, ap, ap₂, ◌∙◌, arith, ◌&&◌}
use Rattle.std.specs.List.{AllByRecursion}
use Rattle.std.specs.Str.{bytes_eq}
use Rattle.std.proofs.lemmas.List.{drop_at, length-drop, length-reverse, reverse-append, take-append-drop, take_at}
use Rattle.miette_lines.proofs.Cases.{by_cases}
use Rattle.miette_fixes.specs.rules.Edits.{Replacement}
use Rattle.miette_fixes.specs.rules.Applying.{by_offset}
use Rattle.miette_fix_rows.specs.laws.Whole.{IsTrimmedChange}
use Rattle.miette_fix_rows.specs.rules.Blocks.{blocks, new_lines, old_lines}
use Rattle.miette_fix_rows.specs.rules.Hunks.{Change, change_of, changes, changes_of, common, common_before}
use Rattle.miette_fix_rows.specs.rules.Hunks.{has_no_lines}
use Rattle.miette_fix_rows.specs.rules.Hunks.{common_after, onto_changes, block_diff}
use Rattle.miette_fix_rows.proofs.Commons.{common_within, common_within_other}

-- nothing is common after what is common
common_rest : (ls ms : List (List ℕ)) → common (drop (common ls ms) ls) (drop (common ls ms) ms) ≡ 0
common_rest [] ms = refl
common_rest (l ∷ ls) [] = refl
common_rest (l ∷ ls) (m ∷ ms) =
    by_cases {C = common (drop (common (l ∷ ls) (m ∷ ms)) (l ∷ ls)) (drop (common (l ∷ ls) (m ∷ ms)) (m ∷ ms)) ≡ 0}
    (bytes_eq l m)
    (λ t. rw t (common_rest ls ms))
    (λ f. rw f (rw f refl))

fewer : (x : Bool) (m n : ℕ) → m ≤ n → cond x (suc m) 0 ≤ cond x (suc n) 0
fewer true m n h = omega (arith, h)
fewer false m n h = omega arith

-- the first lines have no more in common than all
common_take : (i j : ℕ) (ls ms : List (List ℕ)) → common (take i ls) (take j ms) ≤ common ls ms
common_take zero j ls ms = omega arith
common_take (suc i) j [] ms = omega arith
common_take (suc i) zero (l ∷ ls) ms = omega arith
common_take (suc i) (suc j) (l ∷ ls) [] = omega arith
common_take (suc i) (suc j) (l ∷ ls) (m ∷ ms) =
    fewer (bytes_eq l m) (common (take i ls) (take j ms)) (common ls ms) (common_take i j ls ms)

-- from the ends

pub after_is : (k : ℕ) (ls : List (List ℕ)) → reverse ls ≡ reverse (drop k ls) ++ reverse (take k ls)
after_is k ls = ap reverse (sym (take-append-drop k ls)) ∙ reverse-append (take k ls) (drop k ls)

reverse_front : (n : ℕ) (ls : List (List ℕ)) → n ≤ length ls
    → reverse (take (length ls - n) ls) ≡ drop n (reverse ls)
reverse_front n ls h =
    let k : ℕ = length ls - n in
    let m : length (reverse (drop k ls)) ≡ n =
    omega (arith, h, length-reverse (drop k ls), length-drop k ls) in
    sym (ap (drop n) (after_is k ls) ∙ drop_at (reverse (drop k ls)) (reverse (take k ls)) n m)

reverse_after : (k : ℕ) (ls : List (List ℕ)) → reverse (drop k ls) ≡ take (length ls - k) (reverse ls)
reverse_after k ls =
    let m : length (reverse (drop k ls)) ≡ length ls - k =
    omega (arith, length-reverse (drop k ls), length-drop k ls) in
    sym (ap (take (length ls - k)) (after_is k ls)
    ∙ take_at (reverse (drop k ls)) (reverse (take k ls)) (length ls - k) m)

-- at most all lines stay after a change
pub after_within : (olds news : List (List ℕ)) → (common_after olds news ≤ length olds)
    × (common_after olds news ≤ length news)
after_within olds news = (
  omega (arith, common_within (reverse olds) (reverse news), length-reverse olds),
  omega (arith, common_within_other (reverse olds) (reverse news), length-reverse news),
)

parted_ends : (olds news : List (List ℕ)) → common (reverse (block_diff olds news).removed)
    (reverse (block_diff olds news).added) ≡ 0
parted_ends olds news =
    let n : ℕ = common_after olds news in
    let b : ℕ = common_before olds news n in
    let ls : List (List ℕ) = take (length olds - n) olds in
    let ms : List (List ℕ) = take (length news - n) news in
    let within = after_within olds news in
    let none : common (reverse ls) (reverse ms) ≡ 0 =
    ap₂ common (reverse_front n olds within.0) (reverse_front n news within.1)
    ∙ common_rest (reverse olds) (reverse news) in
    let cut : common (reverse (drop b ls)) (reverse (drop b ms))
    ≡ common (take (length ls - b) (reverse ls)) (take (length ms - b) (reverse ms)) =
    ap₂ common (reverse_after b ls) (reverse_after b ms) in
    omega (arith, cut, none, common_take (length ls - b) (length ms - b) (reverse ls) (reverse ms))

parted_front : (olds news : List (List ℕ)) → common (block_diff olds news).removed (block_diff olds news).added ≡ 0
parted_front olds news =
    let n : ℕ = common_after olds news in
    common_rest (take (length olds - n) olds) (take (length news - n) news)

block_trimmed : (source : List ℕ) (block : List Replacement) → IsTrimmedChange (change_of source block)
block_trimmed source block = record {
  front = parted_front (old_lines source block) (new_lines source block);
  ending = parted_ends (old_lines source block) (new_lines source block);
}

onto_trimmed : (change : Change) (list : List Change) → IsTrimmedChange change → AllByRecursion IsTrimmedChange list
    → AllByRecursion IsTrimmedChange (onto_changes change list)
onto_trimmed change list h k =
    by_cases {C = AllByRecursion IsTrimmedChange (onto_changes change list)}
    (has_no_lines change.removed && has_no_lines change.added)
    (λ t. rw t k)
    (λ f. rw f (h, k))

blocks_trimmed : (source : List ℕ) (list : List (List Replacement))
    → AllByRecursion IsTrimmedChange (changes_of source list)
blocks_trimmed source [] = tt
blocks_trimmed source (block ∷ list) =
    onto_trimmed (change_of source block) (changes_of source list) (block_trimmed source block)
    (blocks_trimmed source list)

pub all_trimmed : (source : List ℕ) (edits : List Replacement)
    → AllByRecursion IsTrimmedChange (changes source edits)
all_trimmed source edits = blocks_trimmed source (blocks source (by_offset edits))
