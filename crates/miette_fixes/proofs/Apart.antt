-- No two of the fixes that count conflict, and two that are taken are one, or don't conflict.
use Rattle.std.proofs.Common.{ℕ, zero, suc, ◌<◌, ◌≡◌, ◌⊎◌, inl, inr, true, false, eqb, not, ◌&&◌, ◌||◌, List, []}
use Rattle.std.proofs.Common.{◌∷◌, ◌++◌, refl, sym, ap, ◌∙◌, arith, get_or, length, subst}
use Rattle.std.specs.Prelude.{Some, is_none, slice_get}
use Rattle.std.specs.List.{AllByRecursion, list_any}
use Rattle.std.specs.Cmp.Lexicographic.{pointwise, same_text}
use Rattle.std.proofs.lemmas.Bool.{and_parts, eq-eqb, eqb-false, eqb-true, ne_eqb, not-true, or_from, or_left, or_parts}
use Rattle.std.proofs.lemmas.Bool.{or_right}
use Rattle.std.proofs.lemmas.Option.{same_Some}
use Rattle.std.proofs.lemmas.List.Folds.{list_any-append}
use Rattle.miette_lines.proofs.Cases.{by_cases}
use Rattle.miette_protocol.specs.rules.Reading.{Span}
use Rattle.miette_fixes.specs.laws.Conflicts.{NoTwoConflict}
use Rattle.miette_fixes.specs.rules.Applying.{edits_error}
use Rattle.miette_fixes.specs.rules.ApplyingAll.{all_edits, conflict, counted, counted_with, counts, equals_some_fix}
use Rattle.miette_fixes.specs.rules.ApplyingAll.{is_taken}
use Rattle.miette_fixes.specs.rules.ApplyingAll.{same_edit, some_conflict, taken}
use Rattle.miette_fixes.specs.rules.Edits.{Replacement, overlap}
use Rattle.miette_fixes.proofs.Overlaps.{overlap_turned}
use Rattle.miette_fixes.proofs.Taking.{rest_free}

-- ---- a conflict is one of both

conflict_turned : (x y : Replacement) → conflict x y ≡ false → conflict y x ≡ false
conflict_turned x y h =
    let parts : (eqb x.span.offset y.span.offset ≡ false) × (overlap x y ≡ false) =
    or_parts (eqb x.span.offset y.span.offset) (overlap x y) h in
    or_from (eqb y.span.offset x.span.offset) (overlap y x)
    (ne_eqb y.span.offset x.span.offset (λ e. eqb-false x.span.offset y.span.offset parts.0 (sym e)))
    (overlap_turned y x ∙ parts.1)

first_free : (y : Replacement) (xs ys : List Replacement) → some_conflict xs (y ∷ ys) ≡ false
    → list_any (conflict y) xs ≡ false
first_free y [] ys h = refl
first_free y (x ∷ xs) ys h =
    let parts : (list_any (conflict x) (y ∷ ys) ≡ false) × (some_conflict xs (y ∷ ys) ≡ false) =
    or_parts (list_any (conflict x) (y ∷ ys)) (some_conflict xs (y ∷ ys)) h in
    let first : (conflict x y ≡ false) × (list_any (conflict x) ys ≡ false) =
    or_parts (conflict x y) (list_any (conflict x) ys) parts.0 in
    or_from (conflict y x) (list_any (conflict y) xs) (conflict_turned x y first.0) (first_free y xs ys parts.1)

free_turned : (xs ys : List Replacement) → some_conflict xs ys ≡ false → some_conflict ys xs ≡ false
free_turned xs [] h = refl
free_turned xs (y ∷ ys) h =
    or_from (list_any (conflict y) xs) (some_conflict ys xs) (first_free y xs ys h)
    (free_turned xs ys (rest_free y ys xs h))

-- edits that conflict with none of all conflict with none of each
free_split : (edits xs ys : List Replacement) → some_conflict edits (xs ++ ys) ≡ false
    → (some_conflict edits xs ≡ false) × (some_conflict edits ys ≡ false)
free_split [] xs ys h = (refl, refl)
free_split (e ∷ edits) xs ys h =
    let parts : (list_any (conflict e) (xs ++ ys) ≡ false) × (some_conflict edits (xs ++ ys) ≡ false) =
    or_parts (list_any (conflict e) (xs ++ ys)) (some_conflict edits (xs ++ ys)) h in
    let own : (list_any (conflict e) xs ≡ false) × (list_any (conflict e) ys ≡ false) =
    or_parts (list_any (conflict e) xs) (list_any (conflict e) ys)
    (sym (list_any-append (conflict e) xs ys) ∙ parts.0) in
    let rest : (some_conflict edits xs ≡ false) × (some_conflict edits ys ≡ false) = free_split edits xs ys parts.1 in (
      or_from (list_any (conflict e) xs) (some_conflict edits xs) own.0 rest.0,
      or_from (list_any (conflict e) ys) (some_conflict edits ys) own.1 rest.1,
    )

pub each_free : (edits : List Replacement) (lists : List (List Replacement))
    → some_conflict edits (all_edits lists) ≡ false → AllByRecursion (λ xs. some_conflict xs edits ≡ false) lists
each_free edits [] h = tt
each_free edits (xs ∷ lists) h =
    let parts : (some_conflict edits xs ≡ false) × (some_conflict edits (all_edits lists) ≡ false) =
    free_split edits xs (all_edits lists) h in
    (free_turned edits xs parts.0, each_free edits lists parts.1)

-- ---- those that count

abbrev pub AreFree : List (List Replacement) → Type 0
AreFree [] = Unit {0}
AreFree (xs ∷ lists) = AllByRecursion (λ ys. some_conflict xs ys ≡ false) lists × AreFree lists

each_more : (P : List Replacement → Type 0) (lists : List (List Replacement)) (edits : List Replacement)
    → AllByRecursion P lists → P edits → AllByRecursion P (lists ++ edits ∷ [])
each_more P [] edits h p = (p, tt)
each_more P (xs ∷ lists) edits h p = (h.0, each_more P lists edits h.1 p)

pub free_more : (lists : List (List Replacement)) (edits : List Replacement) → AreFree lists
    → AllByRecursion (λ xs. some_conflict xs edits ≡ false) lists → AreFree (lists ++ edits ∷ [])
free_more [] edits h each = (tt, tt)
free_more (xs ∷ lists) edits h each =
    (each_more (λ ys. some_conflict xs ys ≡ false) lists edits h.0 each.0, free_more lists edits h.1 each.1)

pub count_free : (n : ℕ) (before : List (List Replacement)) (edits : List Replacement)
    → counts n (all_edits before) edits ≡ true → some_conflict edits (all_edits before) ≡ false
count_free n before edits h =
    let parts : (is_none (edits_error n edits) ≡ true) × (not (some_conflict edits (all_edits before)) ≡ true) =
    and_parts (is_none (edits_error n edits)) (not (some_conflict edits (all_edits before))) h in
    not-true (some_conflict edits (all_edits before)) parts.1

counted_step : (n : ℕ) (before : List (List Replacement)) (edits : List Replacement) → AreFree before
    → AreFree (counted_with n before edits)
counted_step n before edits h =
    by_cases {C = AreFree (counted_with n before edits)} (counts n (all_edits before) edits)
    (λ t. rw t (free_more before edits h (each_free edits before (count_free n before edits t)))) (λ f. rw f h)

counted_free : (n : ℕ) (before fixes : List (List Replacement)) → AreFree before → AreFree (counted n before fixes)
counted_free n before [] h = h
counted_free n before (f ∷ fixes) h =
    counted_free n (counted_with n before f) fixes (counted_step n before f h)

list_at : (P : List Replacement → Type 0) (lists : List (List Replacement)) (j : ℕ) → AllByRecursion P lists
    → j < length lists → P (get_or lists j [])
list_at P [] j h lt = absurd (omega (arith, lt))
list_at P (xs ∷ lists) zero h lt = h.0
list_at P (xs ∷ lists) (suc j) h lt = list_at P lists j h.1 (omega (arith, lt))

pub no_two : (lists : List (List Replacement)) (i j : ℕ) → AreFree lists → i < j → j < length lists
    → some_conflict (get_or lists i []) (get_or lists j []) ≡ false
no_two [] i j h lt within = absurd (omega (arith, within))
no_two (xs ∷ lists) i zero h lt within = absurd (omega (arith, lt))
no_two (xs ∷ lists) zero (suc j) h lt within =
    list_at (λ ys. some_conflict xs ys ≡ false) lists j h.0 (omega (arith, within))
no_two (xs ∷ lists) (suc i) (suc j) h lt within =
    no_two lists i j h.1 (omega (arith, lt)) (omega (arith, within))

pub counted_apart : (n : ℕ) (fixes : List (List Replacement)) → NoTwoConflict (counted n [] fixes)
counted_apart n fixes = λ i j lt within. no_two (counted n [] fixes) i j (counted_free n [] fixes tt) lt within

-- ---- those that are taken

edit_is : (x y : Replacement) → same_edit x y ≡ true → x ≡ y
edit_is x y h =
    let parts : (eqb x.span.offset y.span.offset ≡ true)
    × ((eqb x.span.len y.span.len && pointwise eqb x.text y.text) ≡ true) =
    and_parts (eqb x.span.offset y.span.offset) (eqb x.span.len y.span.len && pointwise eqb x.text y.text) h in
    let rest : (eqb x.span.len y.span.len ≡ true) × (pointwise eqb x.text y.text ≡ true) =
    and_parts (eqb x.span.len y.span.len) (pointwise eqb x.text y.text) parts.1 in
    let o : x.span.offset ≡ y.span.offset = eqb-true x.span.offset y.span.offset parts.0 in
    let l : x.span.len ≡ y.span.len = eqb-true x.span.len y.span.len rest.0 in
    let t : x.text ≡ y.text = same_text x.text y.text (sym rest.1) in
    ap (λ (a : ℕ). let s : Span = record { offset = a; len = x.span.len } in
    let r : Replacement = record { span = s; text = x.text } in r) o
    ∙ ap (λ (a : ℕ). let s : Span = record { offset = y.span.offset; len = a } in
    let r : Replacement = record { span = s; text = x.text } in r) l
    ∙ ap (λ (a : List ℕ). let r : Replacement = record { span = y.span; text = a } in r) t

pub edits_are : (xs ys : List Replacement) → pointwise same_edit xs ys ≡ true → xs ≡ ys
edits_are [] [] h = refl
edits_are [] (y ∷ ys) h = let bad : false ≡ true = h in cc
edits_are (x ∷ xs) [] h = let bad : false ≡ true = h in cc
edits_are (x ∷ xs) (y ∷ ys) h =
    let parts : (same_edit x y ≡ true) × (pointwise same_edit xs ys ≡ true) =
    and_parts (same_edit x y) (pointwise same_edit xs ys) h in
    ap (λ (e : Replacement). e ∷ xs) (edit_is x y parts.0)
    ∙ ap (λ (es : List Replacement). y ∷ es) (edits_are xs ys parts.1)

text_itself : (xs : List ℕ) → pointwise eqb xs xs ≡ true
text_itself [] = refl
text_itself (x ∷ xs) = let same : eqb x x ≡ true = eq-eqb x x refl in rw same (text_itself xs)

pub edits_themselves : (xs : List Replacement) → pointwise same_edit xs xs ≡ true
edits_themselves [] = refl
edits_themselves (x ∷ xs) =
    let o : eqb x.span.offset x.span.offset ≡ true = eq-eqb x.span.offset x.span.offset refl in
    let l : eqb x.span.len x.span.len ≡ true = eq-eqb x.span.len x.span.len refl in
    let t : pointwise eqb x.text x.text ≡ true = text_itself x.text in
    rw (o, l, t) (edits_themselves xs)

among_has : (P : List Replacement → Type 0) (edits : List Replacement) (lists : List (List Replacement))
    → AllByRecursion P lists → equals_some_fix edits lists ≡ true → P edits
among_has P edits [] h t = let bad : false ≡ true = t in cc
among_has P edits (xs ∷ lists) h t =
    by_cases {C = P edits} (pointwise same_edit edits xs)
    (λ s. subst P (sym (edits_are edits xs s)) h.0)
    (λ f. among_has P edits lists h.1 (ap (λ b. b || equals_some_fix edits lists) (sym f) ∙ t))

among_more : (edits : List Replacement) (lists more : List (List Replacement)) → equals_some_fix edits lists ≡ true
    → equals_some_fix edits (lists ++ more) ≡ true
among_more edits lists more h =
    list_any-append (pointwise same_edit edits) lists more
    ∙ or_left (equals_some_fix edits lists) (equals_some_fix edits more) h

among_step : (n : ℕ) (before : List (List Replacement)) (edits fix : List Replacement) → equals_some_fix edits before
    ≡ true
    → equals_some_fix edits (counted_with n before fix) ≡ true
among_step n before edits fix h =
    by_cases {C = equals_some_fix edits (counted_with n before fix) ≡ true} (counts n (all_edits before) fix)
    (λ t. rw t (among_more edits before (fix ∷ []) h)) (λ f. rw f h)

-- one that is taken is among those that count then
taken_among : (n : ℕ) (before : List (List Replacement)) (edits : List Replacement) → is_taken n before edits ≡ true
    → equals_some_fix edits (counted_with n before edits) ≡ true
taken_among n before edits h =
    by_cases {C = equals_some_fix edits (counted_with n before edits) ≡ true} (counts n (all_edits before) edits)
    (λ t. rw t (list_any-append (pointwise same_edit edits) before (edits ∷ [])
    ∙ or_right (equals_some_fix edits before) (equals_some_fix edits (edits ∷ []))
    (or_left (pointwise same_edit edits edits) false (edits_themselves edits))))
    (λ f. let old : equals_some_fix edits before ≡ true =
    ap (λ b. b || equals_some_fix edits before) (sym f) ∙ h in rw f old)

-- of lists that don't conflict two are one, or don't conflict
two_among : (x y : List Replacement) (lists : List (List Replacement)) → AreFree lists → equals_some_fix x lists ≡ true
    → equals_some_fix y lists ≡ true → (x ≡ y) ⊎ (some_conflict x y ≡ false)
two_among x y [] h a b = let bad : false ≡ true = a in cc
two_among x y (xs ∷ lists) h a b =
    by_cases {C = (x ≡ y) ⊎ (some_conflict x y ≡ false)} (pointwise same_edit x xs)
    (λ s. by_cases {C = (x ≡ y) ⊎ (some_conflict x y ≡ false)} (pointwise same_edit y xs)
    (λ t. inl (edits_are x xs s ∙ sym (edits_are y xs t)))
    (λ g. inr (ap (λ (r : List Replacement). some_conflict r y) (edits_are x xs s)
    ∙ among_has (λ r. some_conflict xs r ≡ false) y lists h.0 (ap (λ c. c || equals_some_fix y lists) (sym g) ∙ b))))
    (λ f. by_cases {C = (x ≡ y) ⊎ (some_conflict x y ≡ false)} (pointwise same_edit y xs)
    (λ t. inr (ap (some_conflict x) (edits_are y xs t)
    ∙ free_turned xs x (among_has (λ r. some_conflict xs r ≡ false) x lists h.0
    (ap (λ c. c || equals_some_fix x lists) (sym f) ∙ a))))
    (λ g. two_among x y lists h.1 (ap (λ c. c || equals_some_fix x lists) (sym f) ∙ a)
    (ap (λ c. c || equals_some_fix y lists) (sym g) ∙ b)))

-- one among those that count, and one that is taken then
beside : (n : ℕ) (before : List (List Replacement)) (x y : List Replacement) → AreFree before
    → equals_some_fix x before ≡ true → is_taken n before y ≡ true → (x ≡ y) ⊎ (some_conflict x y ≡ false)
beside n before x y h a b =
    by_cases {C = (x ≡ y) ⊎ (some_conflict x y ≡ false)} (counts n (all_edits before) y)
    (λ t. inr (among_has (λ r. some_conflict r y ≡ false) x before (each_free y before (count_free n before y t)) a))
    (λ f. two_among x y before h a (ap (λ c. c || equals_some_fix y before) (sym f) ∙ b))

later : (n : ℕ) (before fixes : List (List Replacement)) (x : List Replacement) (j : ℕ) → AreFree before
    → equals_some_fix x before ≡ true → j < length fixes → slice_get (taken n before fixes) j ≡ Some true
    → (x ≡ get_or fixes j []) ⊎ (some_conflict x (get_or fixes j []) ≡ false)
later n before [] x j h a lt b = absurd (omega (arith, lt))
later n before (f ∷ fixes) x zero h a lt b =
    beside n before x f h a (same_Some (is_taken n before f) true b)
later n before (f ∷ fixes) x (suc j) h a lt b =
    later n (counted_with n before f) fixes x j (counted_step n before f h) (among_step n before x f a)
    (omega (arith, lt)) b

taken_beside : (n : ℕ) (before fixes : List (List Replacement)) (i j : ℕ) → AreFree before → i < j
    → j < length fixes → slice_get (taken n before fixes) i ≡ Some true
    → slice_get (taken n before fixes) j ≡ Some true
    → (get_or fixes i [] ≡ get_or fixes j []) ⊎ (some_conflict (get_or fixes i []) (get_or fixes j []) ≡ false)
taken_beside n before [] i j h lt within a b = absurd (omega (arith, within))
taken_beside n before (f ∷ fixes) i zero h lt within a b = absurd (omega (arith, lt))
taken_beside n before (f ∷ fixes) zero (suc j) h lt within a b =
    later n (counted_with n before f) fixes f j (counted_step n before f h)
    (taken_among n before f (same_Some (is_taken n before f) true a)) (omega (arith, within)) b
taken_beside n before (f ∷ fixes) (suc i) (suc j) h lt within a b =
    taken_beside n (counted_with n before f) fixes i j (counted_step n before f h) (omega (arith, lt))
    (omega (arith, within)) a b

pub taken_apart : (n : ℕ) (fixes : List (List Replacement)) (i j : ℕ) → i < j → j < length fixes
    → slice_get (taken n [] fixes) i ≡ Some true → slice_get (taken n [] fixes) j ≡ Some true
    → (get_or fixes i [] ≡ get_or fixes j []) ⊎ (some_conflict (get_or fixes i []) (get_or fixes j []) ≡ false)
taken_apart n fixes i j lt within a b = taken_beside n [] fixes i j tt lt within a b
