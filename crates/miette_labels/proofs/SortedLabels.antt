-- A stable sort by a number gives the one list that rises and keeps ties as they were. Labels and spans, sorted so.
use Rattle.std.proofs.Common.{ℕ, zero, suc, ◌+◌, ◌<◌, ◌≤◌, ◌≡◌, Bool, true, false, cond, ltb, leb, eqb, not, ◌&&◌}
use Rattle.std.proofs.Common.{List}
use Rattle.std.proofs.Common.{[], ◌∷◌, ◌++◌, length, map, take, get_or, refl, sym, ap, ◌∙◌, arith, All, ⊎_elim, subst}
use Rattle.std.specs.List.{AllByRecursion, filter, list_all, list_any}
use Rattle.std.specs.List.Sorted.{IsNonDecreasingBy, IsStableByKey}
use Rattle.std.specs.Ordering.{nat_cmp, is_lt}
use Rattle.std.proofs.lemmas.Bool.{leb-true, leb-false, eq-eqb, ne_eqb, eqb-true, cases_lt, ltb-true, ltb-false}
use Rattle.std.proofs.lemmas.List.Elements.{filter_agree}
use Rattle.miette_protocol.specs.views.Meaning.{Label}
use Rattle.miette_protocol.specs.rules.Reading.{Span}
use Rattle.std.proofs.lemmas.List.{map-append}
use Rattle.std.proofs.lemmas.List.Elements.{All-from_recursion, All-push, recursion_from_All}
use Rattle.std.proofs.lemmas.List.Sorted.{All-permutation, IsPermutation-cons, IsPermutation-middle, IsPermutation-refl}
use Rattle.std.proofs.lemmas.List.Sorted.{IsPermutation-sym, IsPermutation-trans, length_permutation}
use Rattle.std.proofs.lemmas.List.Sorted.{list_any-IsPermutation}
use Rattle.std.proofs.Common.{IsPermutation}
use Rattle.miette_labels.specs.declared.order.OrderedLabel.{OrderedLabel}
use Rattle.miette_labels.specs.views.ProgramLabels.{label_at}
use Rattle.miette_labels.specs.rules.Groups.{put_label, in_order, spans_of, put_span, by_begin}
use Rattle.miette_lines.proofs.Cases.{by_cases}

abbrev pub put : {X : Type 0} → (X → ℕ) → X → List X → List X
put n x [] = x ∷ []
put n x (y ∷ ys) = cond (leb (n x) (n y)) (x ∷ y ∷ ys) (y ∷ put n x ys)

abbrev pub sorted : {X : Type 0} → (X → ℕ) → List X → List X
sorted n [] = []
sorted n (x ∷ xs) = put n x (sorted n xs)

-- no element is below the one before it
abbrev pub Rises : {X : Type 0} → (X → ℕ) → ℕ → List X → Type 0
Rises n from [] = Unit {0}
Rises n from (x ∷ xs) = (from ≤ n x) × Rises n (n x) xs

-- the elements with a number
abbrev pub at_key : {X : Type 0} → (X → ℕ) → ℕ → List X → List X
at_key n v xs = filter (λ x. eqb (n x) v) xs

none-at : {X : Type 0} (n : X → ℕ) (from v : ℕ) (xs : List X) → Rises n from xs → v < from → at_key n v xs ≡ []
none-at n from v [] h lt = refl
none-at n from v (x ∷ xs) h lt =
    let no : eqb (n x) v ≡ false = ne_eqb (n x) v (λ e. omega (arith, e, h.0, lt)) in
    rw no (none-at n (n x) v xs h.1 (omega (arith, h.0)))

first-at : {X : Type 0} (n : X → ℕ) (x : X) (xs : List X) → at_key n (n x) (x ∷ xs) ≡ x ∷ at_key n (n x) xs
first-at n x xs = rw (eq-eqb (n x) (n x) refl) refl

-- lists that rise, with the same elements at each number in the same order, are one
pub same_list : {X : Type 0} (n : X → ℕ) (a b : ℕ) (xs ys : List X) → Rises n a xs → Rises n b ys
    → ((z : X) → at_key n (n z) xs ≡ at_key n (n z) ys) → xs ≡ ys
same_list n a b [] [] rx ry same = refl
same_list n a b [] (y ∷ ys) rx ry same = let e = same y ∙ first-at n y ys in cc
same_list n a b (x ∷ xs) [] rx ry same = let e = sym (first-at n x xs) ∙ same x in cc
same_list {X} n a b (x ∷ xs) (y ∷ ys) rx ry same =
    let not_below : n y ≤ n x = ⊎_elim {C = n y ≤ n x}
    (λ lt. let e = sym (first-at n x xs) ∙ same x ∙ none-at n (n y) (n x) (y ∷ ys) (omega arith, ry.1) lt in cc)
    (λ ge. ge) (cases_lt (n x) (n y)) in
    let not_above : n x ≤ n y = ⊎_elim {C = n x ≤ n y}
    (λ lt. let e = sym (first-at n y ys) ∙ sym (same y) ∙ none-at n (n x) (n y) (x ∷ xs) (omega arith, rx.1) lt in cc)
    (λ ge. ge) (cases_lt (n y) (n x)) in
    let key : n x ≡ n y = omega arith in
    let heads : x ∷ at_key n (n x) xs ≡ y ∷ at_key n (n x) ys = sym (first-at n x xs) ∙ same x
    ∙ ap (λ v. at_key n v (y ∷ ys)) key ∙ first-at n y ys ∙ ap (λ v. y ∷ at_key n v ys) (sym key) in
    let head : x ≡ y = cc in
    let rest : at_key n (n x) xs ≡ at_key n (n x) ys = cc in
    let tails : (z : X) → at_key n (n z) xs ≡ at_key n (n z) ys = λ z.
    by_cases {C = at_key n (n z) xs ≡ at_key n (n z) ys} (eqb (n x) (n z))
    (λ t. let e : n x ≡ n z = eqb-true (n x) (n z) t in ap (λ w. at_key n w xs) (sym e) ∙ rest
    ∙ ap (λ w. at_key n w ys) e)
    (λ f. let g : eqb (n y) (n z) ≡ false = ap (λ k. eqb k (n z)) (sym key) ∙ f in rw (f, g) at (same z)) in
    ap (λ z. z ∷ xs) head ∙ ap (λ zs. y ∷ zs) (same_list n (n x) (n y) xs ys rx.1 ry.1 tails)

put_rises : {X : Type 0} (n : X → ℕ) (from : ℕ) (x : X) (ys : List X) → from ≤ n x → Rises n from ys
    → Rises n from (put n x ys)
put_rises n from x [] le h = (le, tt)
put_rises n from x (y ∷ ys) le h =
    by_cases {C = Rises n from (put n x (y ∷ ys))} (leb (n x) (n y))
    (λ t. rw t (le, (leb-true (n x) (n y) t, h.1)))
    (λ f. rw f (h.0, put_rises n (n y) x ys (omega (arith, leb-false (n x) (n y) f)) h.1))

pub sorted_rises : {X : Type 0} (n : X → ℕ) (xs : List X) → Rises n 0 (sorted n xs)
sorted_rises n [] = tt
sorted_rises n (x ∷ xs) = put_rises n 0 x (sorted n xs) (omega arith) (sorted_rises n xs)

put_at : {X : Type 0} (n : X → ℕ) (v : ℕ) (x : X) (ys : List X) → at_key n v (put n x ys) ≡ at_key n v (x ∷ ys)
put_at n v x [] = refl
put_at n v x (y ∷ ys) =
    by_cases {C = at_key n v (put n x (y ∷ ys)) ≡ at_key n v (x ∷ y ∷ ys)} (leb (n x) (n y))
    (λ t. rw t refl)
    (λ f. rw f (by_cases {C = at_key n v (y ∷ put n x ys) ≡ at_key n v (x ∷ y ∷ ys)} (eqb (n y) v)
    (λ t. let no : eqb (n x) v ≡ false = ne_eqb (n x) v (λ e. omega
    (arith, e, leb-false (n x) (n y) f, eqb-true (n y) v t)) in
    let later : at_key n v (put n x ys) ≡ at_key n v (x ∷ ys) = put_at n v x ys in
    rw (t, no) (ap (λ r. y ∷ r) (later ∙ rw no refl)))
    (λ g. rw g (put_at n v x ys ∙ refl))))

pub sorted_at : {X : Type 0} (n : X → ℕ) (v : ℕ) (xs : List X) → at_key n v (sorted n xs) ≡ at_key n v xs
sorted_at n v [] = refl
sorted_at n v (x ∷ xs) = put_at n v x (sorted n xs) ∙ ap (λ r. cond (eqb (n x) v) (x ∷ r) r) (sorted_at n v xs)

-- what std's sort says, in these words

rises_low : {X : Type 0} (n : X → ℕ) (from k : ℕ) (d : X) (xs : List X) → Rises n from xs → k < length xs → from
    ≤ n (get_or xs k d)
rises_low n from k d [] h lt = absurd (omega (arith, lt))
rises_low n from zero d (x ∷ xs) h lt = h.0
rises_low n from (suc k) d (x ∷ xs) h lt = omega (arith, h.0, rises_low n (n x) k d xs h.1 (omega (arith, lt)))

rises_at : {X : Type 0} (n : X → ℕ) (from i j : ℕ) (d : X) (xs : List X) → Rises n from xs → i ≤ j → j < length xs
    → n (get_or xs i d) ≤ n (get_or xs j d)
rises_at n from i j d [] h le lt = absurd (omega (arith, lt))
rises_at n from zero zero d (x ∷ xs) h le lt = omega arith
rises_at n from zero (suc j) d (x ∷ xs) h le lt = rises_low n (n x) j d xs h.1 (omega (arith, lt))
rises_at n from (suc i) zero d (x ∷ xs) h le lt = absurd (omega (arith, le))
rises_at n from (suc i) (suc j) d (x ∷ xs) h le lt = rises_at n (n x) i j d xs h.1 (omega (arith, le))
    (omega (arith, lt))

pub non_decreasing : {X : Type 0} (n : X → ℕ) (from : ℕ) (xs : List X) → Rises n from xs → IsNonDecreasingBy n xs
non_decreasing n from xs h = λ i j d le lt. rises_at n from i j d xs h le lt

pub rises_from : {X : Type 0} (n : X → ℕ) (from : ℕ) (xs : List X) → IsNonDecreasingBy n xs
    → ((d : X) → 0 < length xs → from ≤ n (get_or xs 0 d)) → Rises n from xs
rises_from n from [] h low = tt
rises_from {X} n from (x ∷ xs) h low =
    let tail : IsNonDecreasingBy n xs = λ i j d le lt. h (suc i) (suc j) d (omega arith) (omega arith) in
    let next : (d : X) → 0 < length xs → n x ≤ n (get_or xs 0 d) = λ d lt. h 0 1 d (omega arith) (omega arith) in
    (low x (omega arith), rises_from n (n x) xs tail next)

ties_at : (a b : ℕ) → (not (is_lt (nat_cmp a b)) && not (is_lt (nat_cmp b a))) ≡ eqb b a
ties_at a b =
    by_cases {C = (not (is_lt (nat_cmp a b)) && not (is_lt (nat_cmp b a))) ≡ eqb b a} (ltb a b)
    (λ t. let no : eqb b a ≡ false = ne_eqb b a (λ e. omega (arith, e, ltb-true a b t)) in rw (t, no) refl)
    (λ f. by_cases {C = (not (is_lt (nat_cmp a b)) && not (is_lt (nat_cmp b a))) ≡ eqb b a} (ltb b a)
    (λ t. let no : eqb b a ≡ false = ne_eqb b a (λ e. omega (arith, e, ltb-true b a t)) in let no' : eqb a b ≡ false =
    ne_eqb a b (λ e. omega (arith, e, ltb-true b a t)) in rw (f, t, no, no') refl)
    (λ g. let e : eqb b a ≡ true = eq-eqb b a (omega (arith, ltb-false a b f, ltb-false b a g)) in let e' : eqb a b
    ≡ true = eq-eqb a b (omega (arith, ltb-false a b f, ltb-false b a g)) in rw (f, g, e, e') refl))

stable_at : {X : Type 0} (n : X → ℕ) (xs ys : List X) → IsStableByKey n nat_cmp xs ys → (z : X) → at_key n (n z) ys
    ≡ at_key n (n z) xs
stable_at n xs ys h z =
    sym (filter_agree _ _ (λ y. ties_at (n z) (n y)) ys) ∙ h z ∙ filter_agree _ _ (λ y. ties_at (n z) (n y)) xs

pub sort_is : {X : Type 0} (n : X → ℕ) (xs ys : List X) → IsNonDecreasingBy n ys → IsStableByKey n nat_cmp xs ys → ys
    ≡ sorted n xs
sort_is n xs ys up stable =
    same_list n 0 0 ys (sorted n xs) (rises_from n 0 ys up (λ d lt. omega arith)) (sorted_rises n xs)
    (λ z. stable_at n xs ys stable z ∙ sym (sorted_at n (n z) xs))

-- ---- what doesn't depend on the order

put_permutes : {X : Type 0} (n : X → ℕ) (x : X) (ys : List X) → IsPermutation (x ∷ ys) (put n x ys)
put_permutes n x [] = IsPermutation-refl (x ∷ [])
put_permutes n x (y ∷ ys) =
    by_cases {C = IsPermutation (x ∷ y ∷ ys) (put n x (y ∷ ys))} (leb (n x) (n y))
    (λ t. rw t (IsPermutation-refl (x ∷ y ∷ ys)))
    (λ f. rw f (IsPermutation-trans (x ∷ y ∷ ys) (y ∷ x ∷ ys) (y ∷ put n x ys)
    (IsPermutation-sym (y ∷ x ∷ ys) (x ∷ y ∷ ys) (IsPermutation-middle (y ∷ []) x ys))
    (IsPermutation-cons y (x ∷ ys) (put n x ys) (put_permutes n x ys))))

sorted_permutes : {X : Type 0} (n : X → ℕ) (xs : List X) → IsPermutation xs (sorted n xs)
sorted_permutes n [] = IsPermutation-refl []
sorted_permutes n (x ∷ xs) = IsPermutation-trans (x ∷ xs) (x ∷ sorted n xs) (put n x (sorted n xs))
    (IsPermutation-cons x xs (sorted n xs) (sorted_permutes n xs)) (put_permutes n x (sorted n xs))

-- what holds of each, what some pass, what all pass, and how many there are
pub sorted_each : {X : Type 0} (n : X → ℕ) (P : X → Type 0) (xs : List X) → AllByRecursion P xs
    → AllByRecursion P (sorted n xs)
sorted_each n P xs h = recursion_from_All P (sorted n xs)
    (All-permutation P xs (sorted n xs) (sorted_permutes n xs) (All-from_recursion P xs h))

pub sorted_any : {X : Type 0} (n : X → ℕ) (p : X → Bool) (xs : List X) → list_any p (sorted n xs) ≡ list_any p xs
sorted_any n p xs = sym (list_any-IsPermutation p xs (sorted n xs) (sorted_permutes n xs))

not_any : {X : Type 0} (p : X → Bool) (xs : List X) → list_all p xs ≡ not (list_any (λ x. not (p x)) xs)
not_any p [] = refl
not_any p (x ∷ xs) =
    by_cases {C = list_all p (x ∷ xs) ≡ not (list_any (λ x. not (p x)) (x ∷ xs))} (p x)
    (λ t. rw t (not_any p xs)) (λ f. rw f refl)

pub sorted_all : {X : Type 0} (n : X → ℕ) (p : X → Bool) (xs : List X) → list_all p (sorted n xs) ≡ list_all p xs
sorted_all n p xs = not_any p (sorted n xs) ∙ ap not (sorted_any n (λ x. not (p x)) xs) ∙ sym (not_any p xs)

pub sorted_length : {X : Type 0} (n : X → ℕ) (xs : List X) → length (sorted n xs) ≡ length xs
sorted_length n xs = length_permutation xs (sorted n xs) (sorted_permutes n xs)

pub rises_lower : {X : Type 0} (n : X → ℕ) (low from : ℕ) (xs : List X) → low ≤ from → Rises n from xs
    → Rises n low xs
rises_lower n low from [] le h = tt
rises_lower n low from (x ∷ xs) le h = (omega (arith, le, h.0), h.1)

-- ---- labels by offset, and stretches by where they begin

put_label_is : (label : Label) (labels : List Label) → put (λ l. l.span.offset) label labels ≡ put_label label labels
put_label_is label [] = refl
put_label_is label (next ∷ labels) =
    by_cases {C = put (λ l. l.span.offset) label (next ∷ labels) ≡ put_label label (next ∷ labels)}
    (leb label.span.offset next.span.offset) (λ t. rw t refl)
    (λ f. rw f (ap (λ r. next ∷ r) (put_label_is label labels)))

pub in_order_is : (labels : List Label) → sorted (λ l. l.span.offset) labels ≡ in_order labels
in_order_is [] = refl
in_order_is (label ∷ labels) = put_label_is label (sorted (λ l. l.span.offset) labels)
    ∙ ap (put_label label) (in_order_is labels)

put_span_is : (span : Span) (spans : List Span) → put (λ s. s.offset) span spans ≡ put_span span spans
put_span_is span [] = refl
put_span_is span (next ∷ spans) =
    by_cases {C = put (λ s. s.offset) span (next ∷ spans) ≡ put_span span (next ∷ spans)}
    (leb span.offset next.offset) (λ t. rw t refl) (λ f. rw f (ap (λ r. next ∷ r) (put_span_is span spans)))

pub by_begin_is : (spans : List Span) → sorted (λ s. s.offset) spans ≡ by_begin spans
by_begin_is [] = refl
by_begin_is (span ∷ spans) = put_span_is span (sorted (λ s. s.offset) spans) ∙ ap (put_span span) (by_begin_is spans)

-- the offsets of spans rise
abbrev pub IsAscending : ℕ → List Span → Type 0
IsAscending from spans = Rises (λ s. s.offset) from spans

spans_rise : (from : ℕ) (labels : List Label) → Rises (λ l. l.span.offset) from labels
    → IsAscending from (spans_of labels)
spans_rise from [] h = tt
spans_rise from (label ∷ labels) h = (h.0, spans_rise label.span.offset labels h.1)

pub ordered_ascends : (labels : List Label) → IsAscending 0 (spans_of (in_order labels))
ordered_ascends labels =
    spans_rise 0 (in_order labels) (subst (λ (ls : List Label). Rises (λ l. l.span.offset) 0 ls) (in_order_is labels)
    (sorted_rises (λ l. l.span.offset) labels))

-- ---- the same order of labels

abbrev KeyIs : {X : Type 0} → (X → ℕ) → (X → Label) → List X → Type 0
KeyIs n f xs = AllByRecursion (λ x. n x ≡ (f x).span.offset) xs

put_mapped : {X : Type 0} (n : X → ℕ) (f : X → Label) (x : X) (ys : List X) → n x ≡ (f x).span.offset → KeyIs n f ys
    → map f (put n x ys) ≡ put_label (f x) (map f ys)
put_mapped n f x [] e h = refl
put_mapped n f x (y ∷ ys) e h =
    by_cases {C = map f (put n x (y ∷ ys)) ≡ put_label (f x) (map f (y ∷ ys))} (leb (n x) (n y))
    (λ t. let u : leb (f x).span.offset (f y).span.offset ≡ true = ap (λ a. leb a (f y).span.offset) (sym e)
    ∙ ap (leb (n x)) (sym h.0) ∙ t in rw (t, u) refl)
    (λ g. let u : leb (f x).span.offset (f y).span.offset ≡ false = ap (λ a. leb a (f y).span.offset) (sym e)
    ∙ ap (leb (n x)) (sym h.0) ∙ g in rw (g, u) (ap (λ r. f y ∷ r) (put_mapped n f x ys e h.1)))

pub sorted_mapped : {X : Type 0} (n : X → ℕ) (f : X → Label) (xs : List X) → KeyIs n f xs → map f (sorted n xs)
    ≡ in_order (map f xs)
sorted_mapped n f [] h = refl
sorted_mapped n f (x ∷ xs) h = put_mapped n f x (sorted n xs) h.0 (sorted_each n (λ x. n x ≡ (f x).span.offset) xs h.1)
    ∙ ap (put_label (f x)) (sorted_mapped n f xs h.1)

-- one more label of a list, as `label_at` gives it
take_label : (labels : List Label) (i : ℕ) → i < length labels → take (i + 1) labels ≡ take i labels
    ++ label_at labels i ∷ []
take_label [] i lt = absurd (omega (arith, lt))
take_label (l ∷ ls) zero lt = refl
take_label (l ∷ ls) (suc i) lt = let e : suc i + 1 ≡ suc (i + 1) = omega arith in
    rw e (ap (λ r. l ∷ r) (take_label ls i (omega (arith, lt))))

pub map_label : {X : Type 0} (f : X → Label) (xs : List X) (x : X) (labels : List Label) (i : ℕ) → map f xs
    ≡ take i labels → f x ≡ label_at labels i → i < length labels →
    map f (xs ++ x ∷ []) ≡ take (i + 1) labels
map_label f xs x labels i e h lt = map-append f xs (x ∷ []) ∙ ap (λ r. r ++ f x ∷ []) e
    ∙ ap (λ y. take i labels ++ y ∷ []) h ∙ sym (take_label labels i lt)

pub label_got : (labels : List Label) (i : ℕ) (d : Label) → i < length labels → label_at labels i ≡ get_or labels i d
label_got [] i d lt = absurd (omega (arith, lt))
label_got (l ∷ ls) zero d lt = refl
label_got (l ∷ ls) (suc i) d lt = label_got ls i d (omega (arith, lt))

-- what `order_by_offset` shows
pub ordered : {X : Type 0} (n : X → ℕ) (f : X → Label) (labels : List Label) (xs ys : List X) → map f xs ≡ labels
    → All (λ x. n x ≡ (f x).span.offset) xs →
    IsNonDecreasingBy n ys → IsStableByKey n nat_cmp xs ys → map f ys ≡ in_order labels
ordered n f labels xs ys e keys up stable =
    ap (map f) (sort_is n xs ys up stable) ∙ sorted_mapped n f xs
    (recursion_from_All (λ x. n x ≡ (f x).span.offset) xs keys)
    ∙ ap in_order e

-- One more label: what the list of turns shows afterwards.
pub record AreTurns (labels : List Label) (i : ℕ) (turns : List OrderedLabel) : Type 0 where
  pub are : map (λ turn. label_at labels turn.index) turns ≡ take i labels
  pub offsets : All (λ turn. turn.offset ≡ (label_at labels turn.index).span.offset) turns
  pub inside : All (λ turn. turn.index < length labels) turns

turns_pushed : (labels : List Label) (i offset : ℕ) (label : Label) (turns : List OrderedLabel)
    → AreTurns labels i turns → i
    < length labels → label ≡ get_or labels i label → offset ≡ label.span.offset →
    AreTurns labels (i + 1) (turns ++ record { index = i; offset = offset } ∷ [])
turns_pushed labels i offset label turns h lt is off =
    let same : label_at labels i ≡ label = label_got labels i label lt ∙ sym is in
    let at : offset ≡ (label_at labels i).span.offset = off ∙ ap (λ l. l.span.offset) (sym same) in
    record {
      are = map_label (λ turn. label_at labels turn.index) turns (record { index = i; offset = offset }) labels i h.are
          refl lt;
      offsets = All-push (λ turn. turn.offset ≡ (label_at labels turn.index).span.offset) turns
          (record { index = i; offset = offset }) h.offsets at;
      inside = All-push (λ turn. turn.index < length labels) turns (record { index = i; offset = offset }) h.inside lt;
    }

pub turns_more : (labels : List Label) (i offset : ℕ) (label : Label) (turns more : List OrderedLabel)
    → AreTurns labels i turns
    → i < length labels → label ≡ get_or labels i label → offset ≡ label.span.offset →
    more ≡ turns ++ record { index = i; offset = offset } ∷ [] → AreTurns labels (i + 1) more
turns_more labels i offset label turns more h lt is off e =
    subst (λ (xs : List OrderedLabel). AreTurns labels (i + 1) xs) (sym e)
    (turns_pushed labels i offset label turns h lt is off)
