-- Edits that conflict with none of those that count are applied beside them, in any order of their fixes.
use Rattle.std.proofs.Common.{ℕ, zero, suc, ◌≡◌, Bool, true, false, eqb, inl, inr, take, ◌⊎◌, not}
use Rattle.std.proofs.Common.{List, [], ◌∷◌, ◌++◌, refl, sym, ap, ◌∙◌, ◌+◌, ◌<◌, ◌≤◌, arith, append_assoc, drop, get_or}
use Rattle.std.proofs.Common.{length}
use Rattle.std.specs.Prelude.{◌≢◌, Option, None, Some, is_none, slice_get}
use denote.Ref.{Bor}
use Rattle.std.specs.List.{filter, list_any}
use Rattle.std.specs.List.Sorted.{ties}
use Rattle.std.proofs.lemmas.Bool.{and_parts, eq-eqb, not-true, or_from, or_left, or_parts, or_right, true≢false}
use Rattle.std.proofs.lemmas.Option.{same_Some}
use Rattle.std.proofs.lemmas.List.{append-nil, drop_more, map-append, take_more}
use Rattle.std.proofs.lemmas.List.Elements.{filter-append}
use Rattle.std.proofs.lemmas.List.Folds.{list_any-append}
use Rattle.miette_lines.proofs.Cases.{by_cases}
use Rattle.miette_fixes.specs.rules.Applying.{applied, by_offset, edits_error, text_from}
use Rattle.miette_fixes.specs.rules.ApplyingAll.{all_edits, conflict, counted, counted_with, counts, equals_some_fix}
use Rattle.miette_fixes.specs.rules.ApplyingAll.{is_taken, edit_lists, some_conflict, taken}
use Rattle.miette_fixes.specs.declared.error.FixError.{FixError}
use Rattle.miette_fixes.specs.rules.Edits.{FixModel, Replacement, ends_after, overlap, some_overlap}
use Rattle.miette_fixes.proofs.Overlaps.{none_refused, overlap_turned, unrefused}
use Rattle.miette_fixes.proofs.Sorting.{less, not_after, same_order}

-- ---- what can be applied

-- an edit that others don't conflict with overlaps none of them, and they conflict with none of those after it
free_parts : (x : Replacement) (xs ys : List Replacement) → some_conflict ys (x ∷ xs) ≡ false
    → (list_any (overlap x) ys ≡ false) × (some_conflict ys xs ≡ false)
free_parts x xs [] h = (refl, refl)
free_parts x xs (y ∷ ys) h =
    let parts : (list_any (conflict y) (x ∷ xs) ≡ false) × (some_conflict ys (x ∷ xs) ≡ false) =
    or_parts (list_any (conflict y) (x ∷ xs)) (some_conflict ys (x ∷ xs)) h in
    let first : (conflict y x ≡ false) × (list_any (conflict y) xs ≡ false) =
    or_parts (conflict y x) (list_any (conflict y) xs) parts.0 in
    let apart : (eqb y.span.offset x.span.offset ≡ false) × (overlap y x ≡ false) =
    or_parts (eqb y.span.offset x.span.offset) (overlap y x) first.0 in
    let more : (list_any (overlap x) ys ≡ false) × (some_conflict ys xs ≡ false) = free_parts x xs ys parts.1 in (
      or_from (overlap x y) (list_any (overlap x) ys) (overlap_turned x y ∙ apart.1) more.0,
      or_from (list_any (conflict y) xs) (some_conflict ys xs) first.1 more.1,
    )

head_free : (x : Replacement) (xs ys : List Replacement) → some_conflict ys (x ∷ xs) ≡ false
    → list_any (overlap x) ys ≡ false
head_free x xs ys h = (free_parts x xs ys h).0

pub rest_free : (x : Replacement) (xs ys : List Replacement) → some_conflict ys (x ∷ xs) ≡ false
    → some_conflict ys xs ≡ false
rest_free x xs ys h = (free_parts x xs ys h).1

joined : (xs ys : List Replacement) → some_overlap xs ≡ false → some_overlap ys ≡ false
    → some_conflict ys xs ≡ false → some_overlap (xs ++ ys) ≡ false
joined [] ys h k free = k
joined (x ∷ xs) ys h k free =
    let parts : (list_any (overlap x) xs ≡ false) × (some_overlap xs ≡ false) =
    or_parts (list_any (overlap x) xs) (some_overlap xs) h in
    or_from (list_any (overlap x) (xs ++ ys)) (some_overlap (xs ++ ys))
    (list_any-append (overlap x) xs ys
    ∙ or_from (list_any (overlap x) xs) (list_any (overlap x) ys) parts.0 (head_free x xs ys free))
    (joined xs ys parts.1 k (rest_free x xs ys free))

-- all edits of the lists, and one list more
pub all_of_more : (lists : List (List Replacement)) (edits : List Replacement)
    → all_edits (lists ++ edits ∷ []) ≡ all_edits lists ++ edits
all_of_more [] edits = append-nil edits
all_of_more (xs ∷ lists) edits =
    ap (λ r. xs ++ r) (all_of_more lists edits) ∙ sym (append_assoc xs (all_edits lists) edits)

some_none : (o : Option FixError) → is_none o ≡ true → o ≡ None
some_none None h = refl
some_none (Some e) h = let bad = h in cc

-- what counts is applied beside what counts already
pub counted_fit : (n : ℕ) (others edits : List Replacement) → edits_error n others ≡ None → counts n others edits ≡ true
    → edits_error n (others ++ edits) ≡ None
counted_fit n others edits h may =
    let parts : (is_none (edits_error n edits) ≡ true) × (not (some_conflict edits others) ≡ true) =
    and_parts (is_none (edits_error n edits)) (not (some_conflict edits others)) may in
    let own : (list_any (ends_after n) edits ≡ false) × (some_overlap edits ≡ false) =
    none_refused n edits (some_none (edits_error n edits) parts.0) in
    let before : (list_any (ends_after n) others ≡ false) × (some_overlap others ≡ false) = none_refused n others h in
    unrefused n (others ++ edits)
    (list_any-append (ends_after n) others edits
    ∙ or_from (list_any (ends_after n) others) (list_any (ends_after n) edits) before.0 own.0)
    (joined others edits before.1 own.1 (not-true (some_conflict edits others) parts.1))

-- the edits of fixes from one on
pub lists_more : (fixes : List (Bor FixModel)) (i : ℕ) (fix : Bor FixModel) → i < length fixes
    → fix ≡ get_or fixes i fix → edit_lists (drop i fixes) ≡ fix.now.edits ∷ edit_lists (drop (i + 1) fixes)
lists_more fixes i fix lt is =
    ap edit_lists (drop_more fixes i fix lt)
    ∙ ap (λ (f : Bor FixModel). f.now.edits ∷ edit_lists (drop (i + 1) fixes)) (sym is)

-- all edits of fixes up to one, and it
pub taken_more : (fixes : List (Bor FixModel)) (i : ℕ) (fix : Bor FixModel) → i < length fixes
    → fix ≡ get_or fixes i fix
    → all_edits (edit_lists (take (i + 1) fixes)) ≡ all_edits (edit_lists (take i fixes)) ++ fix.now.edits
taken_more fixes i fix lt is =
    ap (λ (fs : List (Bor FixModel)). all_edits (edit_lists fs))
    (take_more fixes i fix lt ∙ ap (λ (f : Bor FixModel). take i fixes ++ f ∷ []) (sym is))
    ∙ ap all_edits (map-append (λ (f : Bor FixModel). f.now.edits) (take i fixes) (fix ∷ []))
    ∙ all_of_more (edit_lists (take i fixes)) fix.now.edits

-- ---- in any order

-- edits that stand at one place in the order begin at one offset
tied_offset : (z x : Replacement) → ties less z x ≡ true → x.span.offset ≡ z.span.offset
tied_offset z x h =
    let parts : (not (less z x) ≡ true) × (not (less x z) ≡ true) = and_parts (not (less z x)) (not (less x z)) h in
    let a : (x.span.offset ≤ z.span.offset) × (z.span.offset ≡ x.span.offset → x.span.len ≤ z.span.len) =
    not_after x z (not-true (less z x) parts.0) in
    let b : (z.span.offset ≤ x.span.offset) × (x.span.offset ≡ z.span.offset → z.span.len ≤ x.span.len) =
    not_after z x (not-true (less x z) parts.1) in
    let a0 : x.span.offset ≤ z.span.offset = a.0 in
    let b0 : z.span.offset ≤ x.span.offset = b.0 in
    omega (arith, a0, b0)

pub filter_none : (p : Replacement → Bool) (xs : List Replacement) → list_any p xs ≡ false → filter p xs ≡ []
filter_none p [] h = refl
filter_none p (x ∷ xs) h =
    let parts : (p x ≡ false) × (list_any p xs ≡ false) = or_parts (p x) (list_any p xs) h in
    let no : p x ≡ false = parts.0 in rw no (filter_none p xs parts.1)

one_meets : (z x : Replacement) (ys : List Replacement) → ties less z x ≡ true → list_any (ties less z) ys ≡ true
    → list_any (conflict x) ys ≡ true
one_meets z x [] h k = k
one_meets z x (y ∷ ys) h k =
    by_cases {C = list_any (conflict x) (y ∷ ys) ≡ true} (ties less z y)
    (λ t. let same : eqb x.span.offset y.span.offset ≡ true =
    eq-eqb x.span.offset y.span.offset (tied_offset z x h ∙ sym (tied_offset z y t)) in
    or_left (conflict x y) (list_any (conflict x) ys)
    (or_left (eqb x.span.offset y.span.offset) (overlap x y) same))
    (λ f. or_right (conflict x y) (list_any (conflict x) ys) (one_meets z x ys h (rw f at k)))

pub meet : (z : Replacement) (xs ys : List Replacement) → list_any (ties less z) xs ≡ true
    → list_any (ties less z) ys ≡ true → some_conflict xs ys ≡ true
meet z [] ys h k = h
meet z (x ∷ xs) ys h k =
    by_cases {C = some_conflict (x ∷ xs) ys ≡ true} (ties less z x)
    (λ t. or_left (list_any (conflict x) ys) (some_conflict xs ys) (one_meets z x ys t k))
    (λ f. or_right (list_any (conflict x) ys) (some_conflict xs ys) (meet z xs ys (rw f at h) k))

-- of two lists that don't conflict, one has no edit at a place
turned : (z : Replacement) (xs ys : List Replacement) → some_conflict xs ys ≡ false
    → filter (ties less z) xs ++ filter (ties less z) ys ≡ filter (ties less z) ys ++ filter (ties less z) xs
turned z xs ys free =
    by_cases {C = filter (ties less z) xs ++ filter (ties less z) ys ≡ filter (ties less z) ys
    ++ filter (ties less z) xs} (list_any (ties less z) xs)
    (λ t. by_cases {C = filter (ties less z) xs ++ filter (ties less z) ys ≡ filter (ties less z) ys
    ++ filter (ties less z) xs} (list_any (ties less z) ys)
    (λ u. let bad : true ≡ false = sym (meet z xs ys t u) ∙ free in cc)
    (λ g. let none : filter (ties less z) ys ≡ [] = filter_none (ties less z) ys g in
    ap (λ r. filter (ties less z) xs ++ r) none ∙ append-nil (filter (ties less z) xs)
    ∙ ap (λ r. r ++ filter (ties less z) xs) (sym none)))
    (λ f. let none : filter (ties less z) xs ≡ [] = filter_none (ties less z) xs f in
    ap (λ r. r ++ filter (ties less z) ys) none ∙ sym (append-nil (filter (ties less z) ys))
    ∙ ap (λ r. filter (ties less z) ys ++ r) (sym none))

turned_within : (z : Replacement) (before xs ys after : List Replacement) → some_conflict xs ys ≡ false
    → filter (ties less z) (before ++ (xs ++ (ys ++ after))) ≡ filter (ties less z) (before ++ (ys ++ (xs ++ after)))
turned_within z before xs ys after free =
    let p : Replacement → Bool = ties less z in
    let two : (us vs : List Replacement) → filter p (us ++ (vs ++ after)) ≡ (filter p us ++ filter p vs)
    ++ filter p after = λ us vs. filter-append p us (vs ++ after)
    ∙ ap (λ r. filter p us ++ r) (filter-append p vs after)
    ∙ sym (append_assoc (filter p us) (filter p vs) (filter p after)) in
    filter-append p before (xs ++ (ys ++ after))
    ∙ ap (λ r. filter p before ++ r) (two xs ys ∙ ap (λ r. r ++ filter p after) (turned z xs ys free) ∙ sym (two ys xs))
    ∙ sym (filter-append p before (ys ++ (xs ++ after)))

all_of_split : (before after : List (List Replacement)) → all_edits (before ++ after) ≡ all_edits before
    ++ all_edits after
all_of_split [] after = refl
all_of_split (xs ∷ before) after =
    ap (λ r. xs ++ r) (all_of_split before after) ∙ sym (append_assoc xs (all_edits before) (all_edits after))

-- two neighbours that don't conflict change places
pub neighbours : (source : List ℕ) (before after : List (List Replacement)) (xs ys : List Replacement)
    → some_conflict xs ys ≡ false
    → applied source (all_edits (before ++ xs ∷ ys ∷ after)) ≡ applied source (all_edits (before ++ ys ∷ xs ∷ after))
neighbours source before after xs ys free =
    let order : by_offset (all_edits before ++ (xs ++ (ys ++ all_edits after)))
    ≡ by_offset (all_edits before ++ (ys ++ (xs ++ all_edits after))) =
    same_order (all_edits before ++ (xs ++ (ys ++ all_edits after))) (all_edits before
    ++ (ys ++ (xs ++ all_edits after)))
    (λ z. turned_within z (all_edits before) xs ys (all_edits after) free) in
    ap (λ es. text_from source 0 (by_offset es)) (all_of_split before (xs ∷ ys ∷ after))
    ∙ ap (text_from source 0) order
    ∙ ap (λ es. text_from source 0 (by_offset es)) (sym (all_of_split before (ys ∷ xs ∷ after)))

-- ---- which fixes are taken

-- whether the fix at a place is taken
taken_at : (n : ℕ) (before fixes : List (List Replacement)) (k : ℕ) → k < length fixes
    → slice_get (taken n before fixes) k ≡ Some (is_taken n (counted n before (take k fixes)) (get_or fixes k []))
taken_at n before [] k lt = absurd (omega (arith, lt))
taken_at n before (f ∷ fs) zero lt = refl
taken_at n before (f ∷ fs) (suc k) lt = taken_at n (counted_with n before f) fs k (omega (arith, lt))

not_taken : (n : ℕ) (before : List (List Replacement)) (edits : List Replacement) → is_taken n before edits ≡ false
    → (edits_error n edits ≢ None) ⊎ (some_conflict edits (all_edits before) ≡ true)
not_taken n before edits h =
    let parts : (counts n (all_edits before) edits ≡ false) × (equals_some_fix edits before ≡ false) =
    or_parts (counts n (all_edits before) edits) (equals_some_fix edits before) h in
    by_cases {C = (edits_error n edits ≢ None) ⊎ (some_conflict edits (all_edits before) ≡ true)}
    (some_conflict edits (all_edits before)) (λ t. inr t)
    (λ f. inl (λ e. let none : is_none (edits_error n edits) ≡ true = ap is_none e in
    let bad : true ≡ false = rw (none, f) at parts.0 in true≢false bad))

pub maximal : (n : ℕ) (fixes : List (List Replacement)) (k : ℕ) → k < length fixes
    → slice_get (taken n [] fixes) k ≡ Some false
    → (edits_error n (get_or fixes k []) ≢ None)
    ⊎ (some_conflict (get_or fixes k []) (all_edits (counted n [] (take k fixes))) ≡ true)
maximal n fixes k lt h =
    let e : Some (is_taken n (counted n [] (take k fixes)) (get_or fixes k [])) ≡ Some false =
    sym (taken_at n [] fixes k lt) ∙ h in
    not_taken n (counted n [] (take k fixes)) (get_or fixes k [])
    (same_Some (is_taken n (counted n [] (take k fixes)) (get_or fixes k [])) false e)

-- the edits that count can be applied together
counted_together : (n : ℕ) (before fixes : List (List Replacement)) → edits_error n (all_edits before) ≡ None
    → edits_error n (all_edits (counted n before fixes)) ≡ None
counted_together n before [] h = h
counted_together n before (f ∷ fs) h =
    by_cases {C = edits_error n (all_edits (counted n before (f ∷ fs))) ≡ None} (counts n (all_edits before) f)
    (λ t. let next : counted_with n before f ≡ before ++ f ∷ [] = rw t refl in
    let fit : edits_error n (all_edits (before ++ f ∷ [])) ≡ None =
    ap (edits_error n) (all_of_more before f) ∙ counted_fit n (all_edits before) f h t in
    ap (λ b. edits_error n (all_edits (counted n b fs))) next ∙ counted_together n (before ++ f ∷ []) fs fit)
    (λ g. let next : counted_with n before f ≡ before = rw g refl in
    ap (λ b. edits_error n (all_edits (counted n b fs))) next ∙ counted_together n before fs h)

pub together : (n : ℕ) (fixes : List (List Replacement)) → edits_error n (all_edits (counted n [] fixes)) ≡ None
together n fixes = counted_together n [] fixes (unrefused n [] refl refl)
