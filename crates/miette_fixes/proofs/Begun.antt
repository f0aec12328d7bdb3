-- Whether an edit conflicts with those of some lists, by what is kept of where they begin.
use Rattle.std.proofs.Common.{ℕ, ◌+◌, ◌-◌, ◌<◌, ◌≤◌, ◌≡◌, Bool, true, false, eqb, leb, ltb, ◌&&◌, ◌||◌, List, [], ◌∷◌}
use Rattle.std.proofs.Common.{refl, sym, ap, ◌∙◌, arith, drop, get_or, Option, Some, None, IsSome, length, subst}
use Rattle.std.specs.Prelude.{◌≢◌, IfSome, slice_get}
use Rattle.std.specs.BTreeMap.{BTreeMap, get}
use Rattle.std.specs.List.{list_any}
use Rattle.std.specs.Ordering.{is_gt, is_lt, nat_cmp}
use Rattle.std.proofs.lemmas.Bool.{and_from, and_parts, eq-eqb, eqb-false, eqb-true, le-leb, leb-true, lt-ltb}
use Rattle.std.proofs.lemmas.Bool.{ltb-false, ltb-true, ne_eqb, or_left, or_parts, or_right}
use Rattle.std.proofs.lemmas.Option.{same_Some}
use Rattle.std.proofs.lemmas.List.{drop_more}
use Rattle.std.proofs.lemmas.Map.Keys.{ge_from_not_lt, le_from_not_gt}
use Rattle.miette_lines.proofs.Cases.{by_cases}
use Rattle.miette_fixes.specs.declared.edit_starts.EditStart.{EditStart}
use Rattle.miette_fixes.specs.rules.ApplyingAll.{all_edits, conflict, some_conflict}
use Rattle.miette_fixes.specs.rules.Edits.{Replacement, end_of, overlap, some_overlap}
use Rattle.miette_fixes.specs.steps.EditStarts.{AreEditStarts, begins_with, is_inside, meets_from}

-- ---- one of two, and both

pub same_bool : (b c : Bool) → (b ≡ true → c ≡ true) → (c ≡ true → b ≡ true) → b ≡ c
same_bool true true h k = refl
same_bool true false h k = sym (h refl)
same_bool false true h k = k refl
same_bool false false h k = refl

or_nothing : (b : Bool) → (b || false) ≡ b
or_nothing true = refl
or_nothing false = refl

or_swap : (p q r s : Bool) → ((p || q) || (r || s)) ≡ ((p || r) || (q || s))
or_swap true q r s = refl
or_swap false true true s = refl
or_swap false true false s = refl
or_swap false false r s = refl

any_or : (p q r : Replacement → Bool) (xs : List Replacement) → ((x : Replacement) → p x ≡ (q x || r x))
    → list_any p xs ≡ (list_any q xs || list_any r xs)
any_or p q r [] h = refl
any_or p q r (x ∷ xs) h =
    ap (λ b. b || list_any p xs) (h x) ∙ ap (λ b. (q x || r x) || b) (any_or p q r xs h)
    ∙ or_swap (q x) (r x) (list_any q xs) (list_any r xs)

-- ---- a conflict, by where the other edit begins

conflict_is : (e x : Replacement) → conflict e x ≡ (meets_from e x || is_inside e x)
conflict_is e x =
    by_cases {C = conflict e x ≡ (meets_from e x || is_inside e x)} (eqb e.span.offset x.span.offset)
    (λ t. let u : eqb x.span.offset e.span.offset ≡ true =
    eq-eqb x.span.offset e.span.offset (sym (eqb-true e.span.offset x.span.offset t)) in rw (t, u) refl)
    (λ f. let u : eqb x.span.offset e.span.offset ≡ false =
    ne_eqb x.span.offset e.span.offset (λ is. eqb-false e.span.offset x.span.offset f (sym is)) in
    by_cases {C = conflict e x ≡ (meets_from e x || is_inside e x)} (ltb x.span.offset e.span.offset)
    (λ t. let before = ltb-true x.span.offset e.span.offset t in
    let v : leb e.span.offset x.span.offset ≡ false = grind (arith, before) in
    rw (f, u, t, v) (sym (or_nothing (ltb e.span.offset (end_of x)))))
    (λ g. let after = ltb-false x.span.offset e.span.offset g in
    let v : leb e.span.offset x.span.offset ≡ true = grind (arith, after) in rw (f, u, g, v) refl))

any_conflict : (e : Replacement) (xs : List Replacement)
    → list_any (conflict e) xs ≡ (list_any (meets_from e) xs || list_any (is_inside e) xs)
any_conflict e xs = any_or (conflict e) (meets_from e) (is_inside e) xs (conflict_is e)

-- ---- an edit among others, by where it begins and its length

pub itself : (x : Replacement) → begins_with x.span.offset x.span.len x ≡ true
itself x =
    and_from (eqb x.span.offset x.span.offset) (eqb x.span.len x.span.len)
    (eq-eqb x.span.offset x.span.offset refl) (eq-eqb x.span.len x.span.len refl)

any_there : (p : Replacement → Bool) (xs : List Replacement) → list_any p xs ≡ true
    → (x : Replacement) × (p x ≡ true) × (list_any (begins_with x.span.offset x.span.len) xs ≡ true)
any_there p [] h = let bad : false ≡ true = h in cc
any_there p (x ∷ xs) h =
    by_cases {C = (y : Replacement) × (p y ≡ true)
    × (list_any (begins_with y.span.offset y.span.len) (x ∷ xs) ≡ true)} (p x)
    (λ t. (
      x,
      t,
      or_left (begins_with x.span.offset x.span.len x)
          (list_any (begins_with x.span.offset x.span.len) xs) (itself x),
    ))
    (λ f. let more = any_there p xs (sym (ap (λ b. b || list_any p xs) f) ∙ h) in (
      more.0,
      more.1,
      or_right (begins_with more.0.span.offset more.0.span.len x)
          (list_any (begins_with more.0.span.offset more.0.span.len) xs) more.2,
    ))

any_from : (offset len : ℕ) (p : Replacement → Bool) (xs : List Replacement)
    → ((x : Replacement) → x.span.offset ≡ offset → x.span.len ≡ len → p x ≡ true)
    → list_any (begins_with offset len) xs ≡ true → list_any p xs ≡ true
any_from offset len p [] h there = let bad : false ≡ true = there in cc
any_from offset len p (x ∷ xs) h there =
    by_cases {C = list_any p (x ∷ xs) ≡ true} (begins_with offset len x)
    (λ t. let parts : (eqb x.span.offset offset ≡ true) × (eqb x.span.len len ≡ true) =
    and_parts (eqb x.span.offset offset) (eqb x.span.len len) t in
    or_left (p x) (list_any p xs)
    (h x (eqb-true x.span.offset offset parts.0) (eqb-true x.span.len len parts.1)))
    (λ f. or_right (p x) (list_any p xs)
    (any_from offset len p xs h (sym (ap (λ b. b || list_any (begins_with offset len) xs) f) ∙ there)))

-- of two that don't overlap the one in front ends where the other one begins, or before
apart : (x y : Replacement) → x.span.offset < y.span.offset → overlap x y ≡ false → end_of x ≤ y.span.offset
apart x y before h = grind (arith, before, h)

after_apart : (x y : Replacement) → y.span.offset < x.span.offset → overlap x y ≡ false → end_of y ≤ x.span.offset
after_apart x y before h = grind (arith, before, h)

-- where an edit that begins there overlaps none of those, it ends before
none_inside : (x : Replacement) (xs : List Replacement) (offset len : ℕ) → list_any (overlap x) xs ≡ false
    → list_any (begins_with offset len) xs ≡ true → (x.span.offset < offset → end_of x ≤ offset)
    × (offset < x.span.offset → offset + len ≤ x.span.offset)
none_inside x [] offset len h there = let bad : false ≡ true = there in cc
none_inside x (y ∷ ys) offset len h there =
    let parts : (overlap x y ≡ false) × (list_any (overlap x) ys ≡ false) =
    or_parts (overlap x y) (list_any (overlap x) ys) h in
    by_cases {C = (x.span.offset < offset → end_of x ≤ offset) × (offset < x.span.offset → offset + len
    ≤ x.span.offset)} (begins_with offset len y)
    (λ t. let is : (eqb y.span.offset offset ≡ true) × (eqb y.span.len len ≡ true) =
    and_parts (eqb y.span.offset offset) (eqb y.span.len len) t in
    let o = eqb-true y.span.offset offset is.0 in
    let l = eqb-true y.span.len len is.1 in (
      λ before. let end = apart x y (omega (arith, before, o)) parts.0 in omega (arith, end, o),
      λ after. let end = after_apart x y (omega (arith, after, o)) parts.0 in omega (arith, end, o, l),
    ))
    (λ f. none_inside x ys offset len parts.1
    (sym (ap (λ b. b || list_any (begins_with offset len) ys) f) ∙ there))

-- of edits of which no two overlap one ends before a further one begins
pair_apart : (xs : List Replacement) (a n b m : ℕ) → some_overlap xs ≡ false
    → list_any (begins_with a n) xs ≡ true → list_any (begins_with b m) xs ≡ true → a < b → a + n ≤ b
pair_apart [] a n b m h first next before = let bad : false ≡ true = first in cc
pair_apart (x ∷ xs) a n b m h first next before =
    let parts : (list_any (overlap x) xs ≡ false) × (some_overlap xs ≡ false) =
    or_parts (list_any (overlap x) xs) (some_overlap xs) h in
    by_cases {C = a + n ≤ b} (begins_with a n x)
    (λ t. let is = and_parts (eqb x.span.offset a) (eqb x.span.len n) t in
    let o = eqb-true x.span.offset a is.0 in
    let l = eqb-true x.span.len n is.1 in
    by_cases {C = a + n ≤ b} (begins_with b m x)
    (λ u. let also = eqb-true x.span.offset b (and_parts (eqb x.span.offset b) (eqb x.span.len m) u).0 in
    absurd (omega (arith, o, also, before)))
    (λ g. let end = (none_inside x xs b m parts.0
    (sym (ap (λ c. c || list_any (begins_with b m) xs) g) ∙ next)).0 (omega (arith, o, before)) in
    omega (arith, end, o, l)))
    (λ f. let later = sym (ap (λ c. c || list_any (begins_with a n) xs) f) ∙ first in
    by_cases {C = a + n ≤ b} (begins_with b m x)
    (λ u. let o = eqb-true x.span.offset b (and_parts (eqb x.span.offset b) (eqb x.span.len m) u).0 in
    let end = (none_inside x xs a n parts.0 later).1 (omega (arith, o, before)) in omega (arith, end, o))
    (λ g. pair_apart xs a n b m parts.1 later
    (sym (ap (λ c. c || list_any (begins_with b m) xs) g) ∙ next) before))

-- ---- the last beginning up to an edit's offset, and the first one from there on

-- an edit that begins at an offset, or before it and ends after it
meets_parts : (e x : Replacement) → meets_from e x ≡ true → (x.span.offset ≤ e.span.offset)
    × (eqb x.span.offset e.span.offset ≡ false → e.span.offset < end_of x)
meets_parts e x h =
    by_cases {C = (x.span.offset ≤ e.span.offset) × (eqb x.span.offset e.span.offset ≡ false → e.span.offset
    < end_of x)} (eqb x.span.offset e.span.offset)
    (λ t. let same = eqb-true x.span.offset e.span.offset t in
    (omega (arith, same), λ f. let bad : true ≡ false = sym t ∙ f in cc))
    (λ f. let both : (ltb x.span.offset e.span.offset && ltb e.span.offset (end_of x)) ≡ true =
    ap (λ b. b || (ltb x.span.offset e.span.offset && ltb e.span.offset (end_of x))) (sym f) ∙ h in
    let parts = and_parts (ltb x.span.offset e.span.offset) (ltb e.span.offset (end_of x)) both in
    let lt = ltb-true x.span.offset e.span.offset parts.0 in
    (omega (arith, lt), λ _. ltb-true e.span.offset (end_of x) parts.1))

reaches : (e x : Replacement) (k len : ℕ) → (eqb k e.span.offset || ltb (e.span.offset - k) len) ≡ true
    → x.span.offset ≡ k → x.span.len ≡ len → k ≤ e.span.offset → meets_from e x ≡ true
reaches e x k len met o l le =
    by_cases {C = meets_from e x ≡ true} (eqb k e.span.offset)
    (λ t. or_left (eqb x.span.offset e.span.offset)
    (ltb x.span.offset e.span.offset && ltb e.span.offset (end_of x))
    (eq-eqb x.span.offset e.span.offset (o ∙ eqb-true k e.span.offset t)))
    (λ f. let near : ltb (e.span.offset - k) len ≡ true =
    ap (λ b. b || ltb (e.span.offset - k) len) (sym f) ∙ met in
    let reach = ltb-true (e.span.offset - k) len near in
    let apart = eqb-false k e.span.offset f in
    let before : k < e.span.offset = omega (arith, le, apart) in
    or_right (eqb x.span.offset e.span.offset) (ltb x.span.offset e.span.offset && ltb e.span.offset (end_of x))
    (and_from (ltb x.span.offset e.span.offset) (ltb e.span.offset (end_of x))
    (lt-ltb x.span.offset e.span.offset (omega (arith, before, o)))
    (lt-ltb e.span.offset (end_of x) (omega (arith, reach, o, l, before)))))

last_meets : (begun : BTreeMap ℕ EditStart) (lists : List (List Replacement)) (e : Replacement) (k : ℕ)
    (it : EditStart) → AreEditStarts begun lists → some_overlap (all_edits lists) ≡ false → get nat_cmp begun k
    ≡ Some it
    → k ≤ e.span.offset
    → ((q : ℕ) → q ≤ e.span.offset → IsSome (get nat_cmp begun q) → q ≤ k)
    → (eqb k e.span.offset || ltb (e.span.offset - k) it.len) ≡ list_any (meets_from e) (all_edits lists)
last_meets begun lists e k it h free is le last =
    same_bool (eqb k e.span.offset || ltb (e.span.offset - k) it.len) (list_any (meets_from e) (all_edits lists))
    (λ met. any_from k it.len (meets_from e) (all_edits lists) (λ x o l. reaches e x k it.len met o l le)
    (h.one k it is))
    (λ some. let other = any_there (meets_from e) (all_edits lists) some in
    let x : Replacement = other.0 in
    let parts = meets_parts e x other.1 in
    let own = h.each x.span.offset x.span.len other.2 in
    let upto : x.span.offset ≤ e.span.offset = parts.0 in
    let below : x.span.offset ≤ k =
    last x.span.offset upto (subst (λ (o : Option EditStart). IsSome o) (sym own.1) refl) in
    by_cases {C = (eqb k e.span.offset || ltb (e.span.offset - k) it.len) ≡ true} (eqb x.span.offset k)
    (λ t. let same = eqb-true x.span.offset k t in
    let one : own.0 ≡ it = same_Some own.0 it (sym own.1 ∙ ap (get nat_cmp begun) same ∙ is) in
    let reach : x.span.len ≤ it.len = subst (λ (b : EditStart). x.span.len ≤ b.len) one own.2 in
    by_cases {C = (eqb k e.span.offset || ltb (e.span.offset - k) it.len) ≡ true} (eqb k e.span.offset)
    (λ u. or_left (eqb k e.span.offset) (ltb (e.span.offset - k) it.len) u)
    (λ g. let end : e.span.offset < end_of x =
    parts.1 (ne_eqb x.span.offset e.span.offset (λ at. eqb-false k e.span.offset g (sym same ∙ at))) in
    or_right (eqb k e.span.offset) (ltb (e.span.offset - k) it.len)
    (lt-ltb (e.span.offset - k) it.len (omega (arith, end, same, reach, upto)))))
    (λ f. let apart = eqb-false x.span.offset k f in
    let before : x.span.offset < k = omega (arith, below, apart) in
    let end : x.span.offset + x.span.len ≤ k =
    pair_apart (all_edits lists) x.span.offset x.span.len k it.len free other.2 (h.one k it is) before in
    let over : e.span.offset < end_of x =
    parts.1 (ne_eqb x.span.offset e.span.offset (λ at. omega (arith, before, le, at))) in
    absurd (omega (arith, over, end, le))))

-- no edit of the lists passes a test where none begins at the place of one that does
none_passes : (begun : BTreeMap ℕ EditStart) (lists : List (List Replacement)) (test : Replacement → Bool)
    → AreEditStarts begun lists → ((x : Replacement) → test x ≡ true → get nat_cmp begun x.span.offset ≡ None)
    → list_any test (all_edits lists) ≡ false
none_passes begun lists test h none =
    by_cases {C = list_any test (all_edits lists) ≡ false} (list_any test (all_edits lists))
    (λ some. let other = any_there test (all_edits lists) some in
    let own = h.each other.0.span.offset other.0.span.len other.2 in
    let bad : None ≡ Some own.0 = sym (none other.0 other.1) ∙ own.1 in cc)
    (λ f. f)

none_meets : (begun : BTreeMap ℕ EditStart) (lists : List (List Replacement)) (e : Replacement)
    → AreEditStarts begun lists → ((q : ℕ) → q ≤ e.span.offset → get nat_cmp begun q ≡ None)
    → list_any (meets_from e) (all_edits lists) ≡ false
none_meets begun lists e h none =
    none_passes begun lists (meets_from e) h (λ x met. none x.span.offset (grind (arith, met)))

inside_parts : (e x : Replacement) → is_inside e x ≡ true
    → (e.span.offset ≤ x.span.offset) × (x.span.offset < end_of e)
inside_parts e x h =
    let parts = and_parts (leb e.span.offset x.span.offset) (ltb x.span.offset (end_of e)) h in
    (leb-true e.span.offset x.span.offset parts.0, ltb-true x.span.offset (end_of e) parts.1)

inside_from : (e x : Replacement) → e.span.offset ≤ x.span.offset → x.span.offset < end_of e → is_inside e x ≡ true
inside_from e x le lt =
    and_from (leb e.span.offset x.span.offset) (ltb x.span.offset (end_of e))
    (le-leb e.span.offset x.span.offset le) (lt-ltb x.span.offset (end_of e) lt)

first_inside : (begun : BTreeMap ℕ EditStart) (lists : List (List Replacement)) (e : Replacement) (k : ℕ)
    (it : EditStart) → AreEditStarts begun lists → get nat_cmp begun k ≡ Some it → e.span.offset ≤ k
    → ((q : ℕ) → e.span.offset ≤ q → IsSome (get nat_cmp begun q) → k ≤ q)
    → ltb (k - e.span.offset) e.span.len ≡ list_any (is_inside e) (all_edits lists)
first_inside begun lists e k it h is le first =
    same_bool (ltb (k - e.span.offset) e.span.len) (list_any (is_inside e) (all_edits lists))
    (λ met. let near = ltb-true (k - e.span.offset) e.span.len met in
    any_from k it.len (is_inside e) (all_edits lists)
    (λ x o l. inside_from e x (omega (arith, le, o)) (omega (arith, near, le, o))) (h.one k it is))
    (λ some. let other = any_there (is_inside e) (all_edits lists) some in
    let x : Replacement = other.0 in
    let parts = inside_parts e x other.1 in
    let own = h.each x.span.offset x.span.len other.2 in
    let front : k ≤ x.span.offset =
    first x.span.offset parts.0 (subst (λ (o : Option EditStart). IsSome o) (sym own.1) refl) in
    lt-ltb (k - e.span.offset) e.span.len (omega (arith, parts.1, front, le)))

none_inside_it : (begun : BTreeMap ℕ EditStart) (lists : List (List Replacement)) (e : Replacement)
    → AreEditStarts begun lists → ((q : ℕ) → e.span.offset ≤ q → get nat_cmp begun q ≡ None)
    → list_any (is_inside e) (all_edits lists) ≡ false
none_inside_it begun lists e h none =
    none_passes begun lists (is_inside e) h (λ x inside. none x.span.offset (grind (arith, inside)))

-- ---- what a map's ranges say

abbrev IsUpTo : ℕ → ℕ → Type 0
IsUpTo a b = is_gt (nat_cmp a b) ≡ false

up_to : (a b : ℕ) → a ≤ b → IsUpTo a b
up_to a b le =
    by_cases {C = IsUpTo a b} (ltb a b) (λ t. rw t refl)
    (λ f. let from = ltb-false a b f in
    let same : eqb a b ≡ true = eq-eqb a b (omega (arith, le, from)) in rw (f, same) refl)

last_by : (begun : BTreeMap ℕ EditStart) (lists : List (List Replacement)) (e : Replacement) (at k : ℕ)
    (it : EditStart) → AreEditStarts begun lists → some_overlap (all_edits lists) ≡ false → at ≡ e.span.offset
    → get nat_cmp begun k ≡ Some it → IsUpTo k at
    → ((q : ℕ) → IsUpTo q at → IsSome (get nat_cmp begun q) → is_lt (nat_cmp k q) ≡ false)
    → (eqb k at || ltb (at - k) it.len) ≡ list_any (meets_from e) (all_edits lists)
last_by begun lists e at k it h free place is le last =
    let low : k ≤ at = le_from_not_gt k at le in
    ap (λ (a : ℕ). eqb k a || ltb (a - k) it.len) place
    ∙ last_meets begun lists e k it h free is (omega (arith, low, place))
    (λ q upto some. ge_from_not_lt k q (last q (up_to q at (omega (arith, upto, place))) some))

pub meets_there : (begun : BTreeMap ℕ EditStart) (lists : List (List Replacement)) (e : Replacement) (at k : ℕ)
    (it : EditStart) → AreEditStarts begun lists → some_overlap (all_edits lists) ≡ false → at ≡ e.span.offset
    → get nat_cmp begun k ≡ Some it → IsUpTo k at
    → ((q : ℕ) → IsUpTo q at → IsSome (get nat_cmp begun q) → is_lt (nat_cmp k q) ≡ false)
    → k ≡ at → eqb k at ≡ list_any (meets_from e) (all_edits lists)
meets_there begun lists e at k it h free place is le last same =
    let t : eqb k at ≡ true = eq-eqb k at same in
    t ∙ sym (or_left (eqb k at) (ltb (at - k) it.len) t) ∙ last_by begun lists e at k it h free place is le last

pub meets_by_length : (begun : BTreeMap ℕ EditStart) (lists : List (List Replacement)) (e : Replacement) (at k : ℕ)
    (it : EditStart) → AreEditStarts begun lists → some_overlap (all_edits lists) ≡ false → at ≡ e.span.offset
    → get nat_cmp begun k ≡ Some it → IsUpTo k at
    → ((q : ℕ) → IsUpTo q at → IsSome (get nat_cmp begun q) → is_lt (nat_cmp k q) ≡ false)
    → k ≢ at → ltb (at - k) it.len ≡ list_any (meets_from e) (all_edits lists)
meets_by_length begun lists e at k it h free place is le last apart =
    ap (λ b. b || ltb (at - k) it.len) (sym (ne_eqb k at apart))
    ∙ last_by begun lists e at k it h free place is le last

pub meets_none : (begun : BTreeMap ℕ EditStart) (lists : List (List Replacement)) (e : Replacement) (at : ℕ)
    → AreEditStarts begun lists → at ≡ e.span.offset → ((q : ℕ) → IsUpTo q at → get nat_cmp begun q ≡ None)
    → false ≡ list_any (meets_from e) (all_edits lists)
meets_none begun lists e at h place none =
    sym (none_meets begun lists e h (λ q upto. none q (up_to q at (omega (arith, upto, place)))))

-- the first of a list, by what is known of it there
pub first_entry : (P : ℕ × EditStart → Type 0) (entries rest : List (ℕ × EditStart)) (entry : ℕ × EditStart)
    → entries ≡ entry ∷ rest → IfSome (slice_get entries 0) P → P entry
first_entry P entries rest entry is h =
    subst (λ (es : List (ℕ × EditStart)). IfSome (slice_get es 0) P) is h

pub inside_by : (begun : BTreeMap ℕ EditStart) (lists : List (List Replacement)) (e : Replacement) (at k len : ℕ)
    (it : EditStart) → AreEditStarts begun lists → at ≡ e.span.offset → len ≡ e.span.len
    → get nat_cmp begun k ≡ Some it → IsUpTo at k
    → ((q : ℕ) → IsUpTo at q → IsSome (get nat_cmp begun q) → IsUpTo k q)
    → ltb (k - at) len ≡ list_any (is_inside e) (all_edits lists)
inside_by begun lists e at k len it h place long is le first =
    let low : at ≤ k = le_from_not_gt at k le in
    ap (λ (a : ℕ). ltb (k - a) len) place ∙ ap (ltb (k - e.span.offset)) long
    ∙ first_inside begun lists e k it h is (omega (arith, low, place))
    (λ q from some. le_from_not_gt k q (first q (up_to at q (omega (arith, from, place))) some))

pub inside_none : (begun : BTreeMap ℕ EditStart) (lists : List (List Replacement)) (e : Replacement) (at : ℕ)
    → AreEditStarts begun lists → at ≡ e.span.offset → ((q : ℕ) → IsUpTo at q → get nat_cmp begun q ≡ None)
    → false ≡ list_any (is_inside e) (all_edits lists)
inside_none begun lists e at h place none =
    sym (none_inside_it begun lists e h (λ q from. none q (up_to at q (omega (arith, from, place)))))

-- ---- a conflict of one edit, and of one of some

pub conflict_before : (e : Replacement) (xs : List Replacement) (b : Bool) → b ≡ list_any (meets_from e) xs → b ≡ true
    → b ≡ list_any (conflict e) xs
conflict_before e xs b is t =
    t ∙ sym (any_conflict e xs ∙ or_left (list_any (meets_from e) xs) (list_any (is_inside e) xs) (sym is ∙ t))

pub conflict_after : (e : Replacement) (xs : List Replacement) (b c : Bool) → b ≡ list_any (meets_from e) xs
    → b ≡ false → c ≡ list_any (is_inside e) xs → c ≡ list_any (conflict e) xs
conflict_after e xs b c is f also =
    also ∙ sym (any_conflict e xs ∙ ap (λ m. m || list_any (is_inside e) xs) (sym is ∙ f))

conflict_split : (edits others : List Replacement) (i : ℕ) (e : Replacement) → i < length edits → e ≡ get_or edits i e
    → some_conflict (drop i edits) others ≡ (list_any (conflict e) others || some_conflict (drop (i + 1) edits) others)
conflict_split edits others i e lt is =
    ap (λ es. some_conflict es others)
    (drop_more edits i e lt ∙ ap (λ (x : Replacement). x ∷ drop (i + 1) edits) (sym is))

pub conflict_later : (edits others : List Replacement) (i : ℕ) (e : Replacement) (b : Bool) → i < length edits
    → e ≡ get_or edits i e → list_any (conflict e) others ≡ false → some_conflict (drop i edits) others ≡ b
    → some_conflict (drop (i + 1) edits) others ≡ b
conflict_later edits others i e b lt is free h =
    ap (λ c. c || some_conflict (drop (i + 1) edits) others) (sym free)
    ∙ sym (conflict_split edits others i e lt is) ∙ h

pub conflict_here : (edits others : List Replacement) (i : ℕ) (e : Replacement) (b : Bool) → i < length edits
    → e ≡ get_or edits i e → list_any (conflict e) others ≡ true → some_conflict (drop i edits) others ≡ b
    → true ≡ b
conflict_here edits others i e b lt is met h =
    sym (conflict_split edits others i e lt is
    ∙ or_left (list_any (conflict e) others) (some_conflict (drop (i + 1) edits) others) met) ∙ h
