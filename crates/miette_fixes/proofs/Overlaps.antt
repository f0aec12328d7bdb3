-- Edits in their order overlap where one begins before the one before it ends.
use Rattle.std.proofs.Common.{ℕ, suc, ◌≤◌, ◌≡◌, Bool, true, false, cond, ltb, ◌||◌, List, [], ◌∷◌, length}
use Rattle.std.proofs.Common.{refl, sym, ap, ◌∙◌, arith, subst}
use Rattle.std.specs.Prelude.{Option, None, Some, is_some, position}
use Rattle.miette_fixes.specs.declared.error.FixError.{FixError}
use Rattle.miette_fixes.specs.declared.error.FixError.TheVariants.{OutOfBounds}
use Rattle.std.specs.List.{AllByRecursion, list_any, position_or_len}
use Rattle.std.proofs.lemmas.Bool.{le-ltb, lt-ltb, ltb-false, ltb-true, or_parts}
use Rattle.std.proofs.lemmas.Option.{same_Some}
use Rattle.miette_lines.proofs.Cases.{by_cases}
use Rattle.miette_fixes.specs.rules.Edits.{Replacement, end_of, ends_after, is_after, overlap, some_overlap}
use Rattle.miette_fixes.specs.rules.Applying.{put_edit, by_offset, edits_error, first_overlap, overlap_after, overlap_error}
use Rattle.miette_fixes.specs.steps.Sweeping.{crossing, crossing_after}
use Rattle.miette_fixes.specs.views.Ordered.{FitFrom}
use Rattle.miette_fixes.proofs.Sorting.{Climbs, less, less_order, not_after, by_offset_climbs}

or_swap : (p q r s : Bool) → ((p || q) || (r || s)) ≡ ((p || r) || (q || s))
or_swap true q r s = refl
or_swap false true true s = refl
or_swap false true false s = refl
or_swap false false r s = refl

or_front : (p q r : Bool) → (p || (q || r)) ≡ (q || (p || r))
or_front true true r = refl
or_front true false r = refl
or_front false true r = refl
or_front false false r = refl

-- the order of edits doesn't matter to what one of them has
any_put : (p : Replacement → Bool) (edit : Replacement) (edits : List Replacement)
    → list_any p (put_edit edit edits) ≡ (p edit || list_any p edits)
any_put p edit [] = refl
any_put p edit (next ∷ edits) =
    by_cases {C = list_any p (put_edit edit (next ∷ edits)) ≡ (p edit || list_any p (next ∷ edits))}
    (is_after edit next)
    (λ t. rw t (ap (λ r. p next || r) (any_put p edit edits) ∙ or_front (p next) (p edit) (list_any p edits)))
    (λ f. rw f refl)

pub any_by_offset : (p : Replacement → Bool) (edits : List Replacement)
    → list_any p (by_offset edits) ≡ list_any p edits
any_by_offset p [] = refl
any_by_offset p (edit ∷ edits) = any_put p edit (by_offset edits) ∙ ap (λ r. p edit || r) (any_by_offset p edits)

-- nor to whether two overlap
overlap_same : (a b : Replacement) → is_after a b ≡ false → is_after b a ≡ false → overlap a b ≡ overlap b a
overlap_same a b h k =
    let x : (a.span.offset ≤ b.span.offset) × (b.span.offset ≡ a.span.offset → a.span.len ≤ b.span.len) =
    not_after a b h in
    let y : (b.span.offset ≤ a.span.offset) × (a.span.offset ≡ b.span.offset → b.span.len ≤ a.span.len) =
    not_after b a k in
    let x0 : a.span.offset ≤ b.span.offset = x.0 in
    let y0 : b.span.offset ≤ a.span.offset = y.0 in
    let x1 : a.span.len ≤ b.span.len = x.1 (omega (arith, x0, y0)) in
    let y1 : b.span.len ≤ a.span.len = y.1 (omega (arith, x0, y0)) in
    let e : b.span.offset ≡ a.span.offset = omega (arith, x0, y0) in
    let f : end_of a ≡ end_of b = omega (arith, x0, y0, x1, y1) in
    rw (h, k) (ap (λ o. ltb o (end_of a)) e ∙ ap (ltb a.span.offset) f)

pub overlap_turned : (a b : Replacement) → overlap a b ≡ overlap b a
overlap_turned a b =
    by_cases {C = overlap a b ≡ overlap b a} (is_after a b)
    (λ t. let u : is_after b a ≡ false = less_order.one_way b a t in rw (t, u) refl)
    (λ f. by_cases {C = overlap a b ≡ overlap b a} (is_after b a) (λ t. rw (f, t) refl) (λ g. overlap_same a b f g))

overlap_put : (edit : Replacement) (edits : List Replacement)
    → some_overlap (put_edit edit edits) ≡ some_overlap (edit ∷ edits)
overlap_put edit [] = refl
overlap_put edit (next ∷ edits) =
    by_cases {C = some_overlap (put_edit edit (next ∷ edits)) ≡ some_overlap (edit ∷ next ∷ edits)}
    (is_after edit next)
    (λ t. let split : some_overlap (next ∷ put_edit edit edits) ≡ ((overlap next edit || list_any (overlap next) edits)
    || (list_any (overlap edit) edits || some_overlap edits)) =
    ap (λ r. r || some_overlap (put_edit edit edits)) (any_put (overlap next) edit edits)
    ∙ ap (λ r. (overlap next edit || list_any (overlap next) edits) || r) (overlap_put edit edits) in
    let there : put_edit edit (next ∷ edits) ≡ next ∷ put_edit edit edits = rw t refl in
    ap some_overlap there ∙ split
    ∙ or_swap (overlap next edit) (list_any (overlap next) edits) (list_any (overlap edit) edits) (some_overlap edits)
    ∙ ap (λ r. (r || list_any (overlap edit) edits) || (list_any (overlap next) edits || some_overlap edits))
    (overlap_turned next edit))
    (λ f. let there : put_edit edit (next ∷ edits) ≡ edit ∷ next ∷ edits = rw f refl in ap some_overlap there)

pub overlap_by_offset : (edits : List Replacement) → some_overlap (by_offset edits) ≡ some_overlap edits
overlap_by_offset [] = refl
overlap_by_offset (edit ∷ edits) = overlap_put edit (by_offset edits)
    ∙ ap (λ r. r || some_overlap (by_offset edits)) (any_by_offset (overlap edit) edits)
    ∙ ap (λ r. list_any (overlap edit) edits || r) (overlap_by_offset edits)

-- ---- of edits in their order

-- whether an edit begins before an offset, or before the end of the previous edit
abbrev crosses_from : ℕ → List Replacement → Bool
crosses_from at [] = false
crosses_from at (edit ∷ edits) = ltb edit.span.offset at || crosses_from (end_of edit) edits

-- an edit that ends before another one begins overlaps none after that
none_further : (a e : Replacement) (edits : List Replacement) → end_of a ≤ e.span.offset
    → AllByRecursion (λ y. less y a ≡ false) edits → AllByRecursion (λ y. less y e ≡ false) edits
    → list_any (overlap a) edits ≡ false
none_further a e [] le h k = refl
none_further a e (y ∷ ys) le h k =
    let low : (e.span.offset ≤ y.span.offset) × (y.span.offset ≡ e.span.offset → e.span.len ≤ y.span.len) =
    not_after e y k.0 in
    let off : e.span.offset ≤ y.span.offset = low.0 in
    let first : is_after a y ≡ false = h.0 in
    let no : ltb y.span.offset (end_of a) ≡ false = le-ltb y.span.offset (end_of a) (omega (arith, le, off)) in
    rw (first, no) (none_further a e ys le h.1 k.1)

crosses_after : (a : Replacement) (edits : List Replacement) → Climbs less (a ∷ edits)
    → crosses_from (end_of a) edits ≡ some_overlap (a ∷ edits)
crosses_after a [] h = refl
crosses_after a (e ∷ es) h =
    let first : is_after a e ≡ false = h.0.0 in
    let rest : crosses_from (end_of e) es ≡ some_overlap (e ∷ es) = crosses_after e es h.1 in
    by_cases {C = crosses_from (end_of a) (e ∷ es) ≡ some_overlap (a ∷ e ∷ es)} (ltb e.span.offset (end_of a))
    (λ t. rw (first, t) refl)
    (λ f. let none : list_any (overlap a) es ≡ false = none_further a e es (ltb-false e.span.offset (end_of a) f)
    h.0.1 h.1.0 in rw (first, f, none) rest)

crosses_all : (edits : List Replacement) → Climbs less edits → crosses_from 0 edits ≡ some_overlap edits
crosses_all [] h = refl
crosses_all (e ∷ es) h =
    let low : ltb e.span.offset 0 ≡ false = le-ltb e.span.offset 0 (omega arith) in
    rw low (crosses_after e es h)

-- what the sweep over sorted edits finds
pub crosses_is : (edits : List Replacement) → crosses_from 0 (by_offset edits) ≡ some_overlap edits
crosses_is edits = crosses_all (by_offset edits) (by_offset_climbs edits) ∙ overlap_by_offset edits

fit_from : (n a : ℕ) (edits : List Replacement) → a ≤ n → crosses_from a edits ≡ false
    → list_any (ends_after n) edits ≡ false → FitFrom n a edits
fit_from n a [] le h k = le
fit_from n a (e ∷ es) le h k =
    let x : (ltb e.span.offset a ≡ false) × (crosses_from (end_of e) es ≡ false) =
    or_parts (ltb e.span.offset a) (crosses_from (end_of e) es) h in
    let y : (ltb n (end_of e) ≡ false) × (list_any (ends_after n) es ≡ false) =
    or_parts (ltb n (end_of e)) (list_any (ends_after n) es) k in
    let end : end_of e ≤ n = ltb-false n (end_of e) y.0 in
    (ltb-false e.span.offset a x.0, end, fit_from n (end_of e) es end x.1 y.1)

-- of the list that a sort gives

pub sorted_inside : (n : ℕ) (edits sorted : List Replacement) → sorted ≡ by_offset edits
    → list_any (ends_after n) edits ≡ false → list_any (ends_after n) sorted ≡ false
sorted_inside n edits sorted is h = ap (list_any (ends_after n)) is ∙ any_by_offset (ends_after n) edits ∙ h

-- the error that the sweep finds
found_after : (edits : List Replacement) (a : Replacement) (sorted : List Replacement) → Climbs less (a ∷ sorted)
    → crossing_after edits a sorted ≡ overlap_after edits a sorted
found_after edits a [] h = refl
found_after edits a (e ∷ es) h =
    let first : is_after a e ≡ false = h.0.0 in
    rw first (ap (λ r. cond (ltb e.span.offset (end_of a)) (Some (overlap_error edits a e)) r)
    (found_after edits e es h.1))

found_first : (edits sorted : List Replacement) → Climbs less sorted → crossing edits sorted
    ≡ first_overlap edits sorted
found_first edits [] h = refl
found_first edits (a ∷ es) h = found_after edits a es h

some_after : (edits : List Replacement) (a : Replacement) (sorted : List Replacement)
    → is_some (crossing_after edits a sorted) ≡ crosses_from (end_of a) sorted
some_after edits a [] = refl
some_after edits a (e ∷ es) =
    by_cases {C = is_some (crossing_after edits a (e ∷ es)) ≡ crosses_from (end_of a) (e ∷ es)}
    (ltb e.span.offset (end_of a)) (λ t. rw t refl) (λ f. rw f (some_after edits e es))

some_found : (edits sorted : List Replacement) → is_some (crossing edits sorted) ≡ crosses_from 0 sorted
some_found edits [] = refl
some_found edits (e ∷ es) =
    let low : ltb e.span.offset 0 ≡ false = le-ltb e.span.offset 0 (omega arith) in rw low (some_after edits e es)

found_is : (edits : List Replacement) → crossing edits (by_offset edits) ≡ first_overlap edits (by_offset edits)
found_is edits = found_first edits (by_offset edits) (by_offset_climbs edits)

some_is : (edits : List Replacement) → is_some (first_overlap edits (by_offset edits)) ≡ some_overlap edits
some_is edits = ap is_some (sym (found_is edits)) ∙ some_found edits (by_offset edits) ∙ crosses_is edits

none_of : {X : Type 0} (o : Option X) → is_some o ≡ false → o ≡ None
none_of None h = refl
none_of (Some x) h = let bad = h in cc

pub checked : (n : ℕ) (edits sorted : List Replacement) (found : Option FixError)
    → list_any (ends_after n) edits ≡ false → sorted ≡ by_offset edits → found ≡ crossing edits sorted
    → edits_error n edits ≡ found
checked n edits sorted found inside is h =
    let same : found ≡ first_overlap edits (by_offset edits) = h ∙ ap (crossing edits) is ∙ found_is edits in
    by_cases {C = edits_error n edits ≡ found} (some_overlap edits)
    (λ t. rw (inside, t) (sym same))
    (λ f. rw (inside, f) (sym (none_of found (ap is_some same ∙ some_is edits ∙ f))))

pub unrefused : (n : ℕ) (edits : List Replacement) → list_any (ends_after n) edits ≡ false
    → some_overlap edits ≡ false → edits_error n edits ≡ None
unrefused n edits h k = rw (h, k) refl

-- the first edit that ends after the end
one_more : (k n m l : ℕ) → m ≡ suc k → l ≡ suc n → ltb k n ≡ ltb m l
one_more k n m l em el =
    by_cases {C = ltb k n ≡ ltb m l} (ltb k n)
    (λ t. let lt = ltb-true k n t in t ∙ sym (lt-ltb m l (omega (arith, lt, em, el))))
    (λ f. let le = ltb-false k n f in f ∙ sym (le-ltb m l (omega (arith, le, em, el))))

any_position : {X : Type 0} (p : X → Bool) (xs : List X) → list_any p xs ≡ ltb (position_or_len p xs) (length xs)
any_position p [] = refl
any_position p (x ∷ xs) =
    by_cases {C = list_any p (x ∷ xs) ≡ ltb (position_or_len p (x ∷ xs)) (length (x ∷ xs))} (p x)
    (λ t. let e : position_or_len p (x ∷ xs) ≡ 0 = rw t refl in
    let any : list_any p (x ∷ xs) ≡ true = rw t refl in
    any ∙ sym (lt-ltb (position_or_len p (x ∷ xs)) (length (x ∷ xs)) (omega (arith, e))))
    (λ f. let e : position_or_len p (x ∷ xs) ≡ suc (position_or_len p xs) = rw f (omega arith) in
    let any : list_any p (x ∷ xs) ≡ list_any p xs = rw f refl in
    any ∙ any_position p xs
    ∙ one_more (position_or_len p xs) (length xs) (position_or_len p (x ∷ xs)) (length (x ∷ xs)) e refl)

pub outside_found : (n : ℕ) (edits : List Replacement) (edit : ℕ) → Some edit ≡ position (ends_after n) edits
    → edits_error n edits ≡ Some (OutOfBounds edit)
outside_found n edits edit h =
    let at : ℕ = position_or_len (ends_after n) edits in
    by_cases {C = edits_error n edits ≡ Some (OutOfBounds edit)} (ltb at (length edits))
    (λ t. let is : at ≡ edit = same_Some at edit (sym (h ∙ rw t refl)) in
    let any : list_any (ends_after n) edits ≡ true = any_position (ends_after n) edits ∙ t in
    rw any (ap (λ k. Some (OutOfBounds k)) is))
    (λ f. let bad : Some edit ≡ None = h ∙ rw f refl in cc)

pub none_outside : (n : ℕ) (edits : List Replacement) → None ≡ position (ends_after n) edits
    → list_any (ends_after n) edits ≡ false
none_outside n edits h =
    let at : ℕ = position_or_len (ends_after n) edits in
    any_position (ends_after n) edits
    ∙ by_cases {C = ltb at (length edits) ≡ false} (ltb at (length edits))
    (λ t. let bad : None ≡ Some at = h ∙ rw t refl in cc) (λ f. f)

-- edits that can be applied
pub none_refused : (n : ℕ) (edits : List Replacement) → edits_error n edits ≡ None
    → (list_any (ends_after n) edits ≡ false) × (some_overlap edits ≡ false)
none_refused n edits h =
    by_cases {C = (list_any (ends_after n) edits ≡ false) × (some_overlap edits ≡ false)}
    (list_any (ends_after n) edits)
    (λ t. let bad = rw t at h in cc)
    (λ f. by_cases {C = (list_any (ends_after n) edits ≡ false) × (some_overlap edits ≡ false)} (some_overlap edits)
    (λ t. let none : first_overlap edits (by_offset edits) ≡ None = rw (f, t) at h in
    let bad : true ≡ false = sym t ∙ sym (some_is edits) ∙ ap is_some none in cc) (λ g. (f, g)))

pub fit_unrefused : (n : ℕ) (edits : List Replacement) → edits_error n edits ≡ None → FitFrom n 0 (by_offset edits)
fit_unrefused n edits h =
    let parts : (list_any (ends_after n) edits ≡ false) × (some_overlap edits ≡ false) = none_refused n edits h in
    fit_from n 0 (by_offset edits) (omega arith) (crosses_is edits ∙ parts.1)
    (sorted_inside n edits (by_offset edits) refl parts.0)

pub sorted_fit : (n : ℕ) (edits sorted : List Replacement) → sorted ≡ by_offset edits → edits_error n edits ≡ None
    → FitFrom n 0 sorted
sorted_fit n edits sorted is h =
    subst (λ (es : List Replacement). FitFrom n 0 es) (sym is) (fit_unrefused n edits h)
