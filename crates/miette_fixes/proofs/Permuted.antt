-- Fixes of which no two conflict give one text, in whatever order they stand.
use Rattle.std.proofs.Common.{ℕ, suc, ◌+◌, ◌<◌, ◌≤◌, ◌≡◌, Bool, true, false, cond, ltb, List, [], ◌∷◌, ◌++◌}
use Rattle.std.proofs.Common.{refl, sym, ap, ◌∙◌, arith, get_or, length}
use Rattle.std.specs.List.{AllByRecursion, filter, list_any, sum_by}
use Rattle.std.specs.List.Sorted.{IsPermutation, ties}
use Rattle.std.proofs.lemmas.Bool.{ltb-false, ltb-true}
use Rattle.std.proofs.lemmas.List.{append-nil}
use Rattle.std.proofs.lemmas.List.Elements.{All-from_recursion, filter-append, recursion_from_All}
use Rattle.std.proofs.lemmas.List.Sorted.{All-permutation, sum_by-IsPermutation}
use Rattle.std.proofs.lemmas.List.Sums.{sum_by-cons}
use Rattle.miette_lines.proofs.Cases.{by_cases}
use Rattle.miette_fixes.specs.laws.Conflicts.{NoTwoConflict}
use Rattle.miette_fixes.specs.rules.Applying.{applied, text_from}
use Rattle.miette_fixes.specs.rules.ApplyingAll.{all_edits, some_conflict}
use Rattle.miette_fixes.specs.rules.Edits.{Replacement}
use Rattle.miette_fixes.proofs.Sorting.{less, same_order}
use Rattle.miette_fixes.proofs.Taking.{filter_none, meet}

-- the edits at a place of the order: of one list, and of all
abbrev placed : Replacement → List Replacement → List Replacement
placed z xs = filter (ties less z) xs

abbrev all_placed : Replacement → List (List Replacement) → List Replacement
all_placed z lists = filter (ties less z) (all_edits lists)

abbrev has : Replacement → List Replacement → Bool
has z xs = list_any (ties less z) xs

-- how many lists have one
abbrev many : Replacement → List (List Replacement) → ℕ
many z lists = sum_by (λ xs. cond (has z xs) 1 0) lists

all_placed_cons : (z : Replacement) (xs : List Replacement) (lists : List (List Replacement))
    → all_placed z (xs ∷ lists) ≡ placed z xs ++ all_placed z lists
all_placed_cons z xs lists = filter-append (ties less z) xs (all_edits lists)

many_with : (z : Replacement) (xs : List Replacement) (lists : List (List Replacement)) → has z xs ≡ true
    → many z (xs ∷ lists) ≡ 1 + many z lists
many_with z xs lists t =
    sum_by-cons (λ xs. cond (has z xs) 1 0) xs lists ∙ ap (λ (b : Bool). cond b 1 0 + many z lists) t

many_without : (z : Replacement) (xs : List Replacement) (lists : List (List Replacement)) → has z xs ≡ false
    → many z (xs ∷ lists) ≡ many z lists
many_without z xs lists f =
    let one : many z (xs ∷ lists) ≡ cond false 1 0 + many z lists =
    sum_by-cons (λ xs. cond (has z xs) 1 0) xs lists ∙ ap (λ (b : Bool). cond b 1 0 + many z lists) f in
    omega (arith, one)

none_at : (z : Replacement) (lists : List (List Replacement)) → many z lists ≡ 0 → all_placed z lists ≡ []
none_at z [] h = refl
none_at z (xs ∷ lists) h =
    by_cases {C = all_placed z (xs ∷ lists) ≡ []} (has z xs)
    (λ t. let more : many z (xs ∷ lists) ≡ 1 + many z lists = many_with z xs lists t in absurd (omega (arith, h, more)))
    (λ f. let same : many z (xs ∷ lists) ≡ many z lists = many_without z xs lists f in
    all_placed_cons z xs lists ∙ ap (λ r. r ++ all_placed z lists) (filter_none (ties less z) xs f)
    ∙ none_at z lists (omega (arith, h, same)))

-- what each list has at a place that has an edit there
abbrev Gives : Replacement → List Replacement → List Replacement → Type 0
Gives z whole xs = has z xs ≡ true → placed z xs ≡ whole

none_gives : (z : Replacement) (whole : List Replacement) (lists : List (List Replacement)) → many z lists ≡ 0
    → AllByRecursion (Gives z whole) lists
none_gives z whole [] h = tt
none_gives z whole (xs ∷ lists) h =
    by_cases {C = AllByRecursion (Gives z whole) (xs ∷ lists)} (has z xs)
    (λ t. let more : many z (xs ∷ lists) ≡ 1 + many z lists = many_with z xs lists t in absurd (omega (arith, h, more)))
    (λ f. let same : many z (xs ∷ lists) ≡ many z lists = many_without z xs lists f in
    ((λ t. let bad : true ≡ false = sym t ∙ f in cc), none_gives z whole lists (omega (arith, h, same))))

-- where at most one list has edits at a place, it has all that are there
each_gives : (z : Replacement) (whole : List Replacement) (lists : List (List Replacement)) → many z lists ≤ 1
    → all_placed z lists ≡ whole → AllByRecursion (Gives z whole) lists
each_gives z whole [] h is = tt
each_gives z whole (xs ∷ lists) h is =
    by_cases {C = AllByRecursion (Gives z whole) (xs ∷ lists)} (has z xs)
    (λ t. let more : many z (xs ∷ lists) ≡ 1 + many z lists = many_with z xs lists t in
    let rest : many z lists ≡ 0 = omega (arith, h, more) in (
      (λ _. sym (append-nil (placed z xs)) ∙ ap (λ r. placed z xs ++ r) (sym (none_at z lists rest))
          ∙ sym (all_placed_cons z xs lists) ∙ is),
      none_gives z whole lists rest,
    ))
    (λ f. let same : many z (xs ∷ lists) ≡ many z lists = many_without z xs lists f in
    let rest : all_placed z lists ≡ whole = ap (λ r. r ++ all_placed z lists) (sym (filter_none (ties less z) xs f))
    ∙ sym (all_placed_cons z xs lists) ∙ is in
    ((λ t. let bad : true ≡ false = sym t ∙ f in cc), each_gives z whole lists (omega (arith, h, same)) rest))

one_at : (z : Replacement) (whole : List Replacement) (lists : List (List Replacement))
    → AllByRecursion (Gives z whole) lists → many z lists ≡ 1 → all_placed z lists ≡ whole
one_at z whole [] each h = absurd (omega (arith, h))
one_at z whole (xs ∷ lists) each h =
    by_cases {C = all_placed z (xs ∷ lists) ≡ whole} (has z xs)
    (λ t. let more : many z (xs ∷ lists) ≡ 1 + many z lists = many_with z xs lists t in
    all_placed_cons z xs lists ∙ ap (λ r. placed z xs ++ r) (none_at z lists (omega (arith, h, more)))
    ∙ append-nil (placed z xs) ∙ each.0 t)
    (λ f. let same : many z (xs ∷ lists) ≡ many z lists = many_without z xs lists f in
    all_placed_cons z xs lists ∙ ap (λ r. r ++ all_placed z lists) (filter_none (ties less z) xs f)
    ∙ one_at z whole lists each.1 (omega (arith, h, same)))

-- ---- of lists that don't conflict at most one has edits at a place

none_beside : (z : Replacement) (xs : List Replacement) (lists : List (List Replacement)) → has z xs ≡ true
    → ((j : ℕ) → j < length lists → some_conflict xs (get_or lists j []) ≡ false) → many z lists ≡ 0
none_beside z xs [] t free = refl
none_beside z xs (ys ∷ lists) t free =
    by_cases {C = many z (ys ∷ lists) ≡ 0} (has z ys)
    (λ u. let bad : true ≡ false = sym (meet z xs ys t u) ∙ free 0 (omega arith) in cc)
    (λ f. many_without z ys lists f ∙ none_beside z xs lists t (λ j lt. free (suc j) (omega (arith, lt))))

at_most_one : (z : Replacement) (lists : List (List Replacement)) → NoTwoConflict lists → many z lists ≤ 1
at_most_one z [] free = omega arith
at_most_one z (xs ∷ lists) free =
    by_cases {C = many z (xs ∷ lists) ≤ 1} (has z xs)
    (λ t. let more : many z (xs ∷ lists) ≡ 1 + many z lists = many_with z xs lists t in
    let rest : many z lists ≡ 0 =
    none_beside z xs lists t (λ j lt. free 0 (suc j) (omega arith) (omega (arith, lt))) in omega (arith, more, rest))
    (λ f. let same : many z (xs ∷ lists) ≡ many z lists = many_without z xs lists f in
    let rest : many z lists ≤ 1 =
    at_most_one z lists (λ i j lt within. free (suc i) (suc j) (omega (arith, lt)) (omega (arith, within))) in
    omega (arith, same, rest))

-- ---- in another order

same_at : (z : Replacement) (fixes others : List (List Replacement)) → NoTwoConflict fixes
    → IsPermutation fixes others → all_placed z others ≡ all_placed z fixes
same_at z fixes others free shifted_offset =
    let count : many z others ≡ many z fixes = sum_by-IsPermutation (λ xs. cond (has z xs) 1 0) fixes others
    shifted_offset in
    let most : many z fixes ≤ 1 = at_most_one z fixes free in
    by_cases {C = all_placed z others ≡ all_placed z fixes} (ltb 0 (many z fixes))
    (λ t. let some : 0 < many z fixes = ltb-true 0 (many z fixes) t in
    one_at z (all_placed z fixes) others
    (recursion_from_All (Gives z (all_placed z fixes)) others
    (All-permutation (Gives z (all_placed z fixes)) fixes others shifted_offset
    (All-from_recursion (Gives z (all_placed z fixes)) fixes (each_gives z (all_placed z fixes) fixes most refl))))
    (omega (arith, count, most, some)))
    (λ f. let no : many z fixes ≤ 0 = ltb-false 0 (many z fixes) f in
    none_at z others (omega (arith, count, no)) ∙ sym (none_at z fixes (omega (arith, no))))

pub permuted : (source : List ℕ) (fixes others : List (List Replacement)) → NoTwoConflict fixes
    → IsPermutation fixes others → applied source (all_edits others) ≡ applied source (all_edits fixes)
permuted source fixes others free shifted_offset =
    ap (text_from source 0)
    (same_order (all_edits others) (all_edits fixes) (λ z. same_at z fixes others free shifted_offset))
