-- A stable sort by offset and length gives the one list of the definition, and what is in order stays.
use Rattle.std.proofs.Common.{ℕ, suc, ◌+◌, ◌<◌, ◌≤◌, ◌≡◌, Bool, true, false, cond, ltb, eqb, ◌&&◌, ◌||◌}
use Rattle.std.proofs.Common.{List, [], ◌∷◌, ◌++◌, map, refl, sym, ap, ◌∙◌, arith, subst}
use Rattle.std.specs.List.{AllByRecursion, filter}
use Rattle.std.specs.List.Sorted.{IsSortedBy, IsStableBy, ties}
use Rattle.std.specs.Cmp.{IsStrictWeakOrder}
use Rattle.std.specs.declared.cmp.Ordering.{Ordering}
use Rattle.std.specs.Ordering.{nat_cmp, is_lt, then_cmp, on}
use Rattle.std.specs.List.Sorted.{IsSortedByKey, IsStableByKey}
use Rattle.std.proofs.lemmas.Bool.{eq-eqb, eqb-true, le-ltb, ltb-false, ltb-true, or_from, or_parts}
use Rattle.std.proofs.lemmas.List.{map-id}
use Rattle.std.proofs.lemmas.List.Elements.{filter-append}
use denote.Ref.{Bor}
use Rattle.miette_protocol.specs.rules.Reading.{Span}
use Rattle.miette_lines.proofs.Cases.{by_cases}
use Rattle.miette_fixes.specs.rules.Edits.{Replacement, is_after}
use Rattle.miette_fixes.specs.rules.Applying.{put_edit, by_offset}
use Rattle.miette_fixes.specs.steps.Sweeping.{ascends_after, ascends}
use Rattle.miette_fixes.specs.views.Ordered.{edits_of}

-- ---- of any order, and of what has an edit

abbrev pub put : {X : Type 0} → (X → X → Bool) → X → List X → List X
put lt x [] = x ∷ []
put lt x (y ∷ ys) = cond (lt y x) (y ∷ put lt x ys) (x ∷ y ∷ ys)

abbrev pub sorted : {X : Type 0} → (X → X → Bool) → List X → List X
sorted lt [] = []
sorted lt (x ∷ xs) = put lt x (sorted lt xs)

-- no element is less than one before it
abbrev pub Climbs : {X : Type 0} → (X → X → Bool) → List X → Type 0
Climbs lt [] = Unit {0}
Climbs lt (x ∷ xs) = AllByRecursion (λ y. lt y x ≡ false) xs × Climbs lt xs

each_further : {X : Type 0} (lt : X → X → Bool) → IsStrictWeakOrder lt → (x y : X) (ys : List X) → lt y x ≡ false
    → AllByRecursion (λ z. lt z y ≡ false) ys → AllByRecursion (λ z. lt z x ≡ false) ys
each_further lt o x y [] le h = tt
each_further lt o x y (z ∷ zs) le h = (o.chain z y x h.0 le, each_further lt o x y zs le h.1)

put_each : {X : Type 0} (lt : X → X → Bool) (P : X → Type 0) (x : X) (ys : List X) → P x → AllByRecursion P ys
    → AllByRecursion P (put lt x ys)
put_each lt P x [] p h = (p, tt)
put_each lt P x (y ∷ ys) p h =
    by_cases {C = AllByRecursion P (put lt x (y ∷ ys))} (lt y x)
    (λ t. rw t (h.0, put_each lt P x ys p h.1)) (λ f. rw f (p, h))

put_climbs : {X : Type 0} (lt : X → X → Bool) → IsStrictWeakOrder lt → (x : X) (ys : List X) → Climbs lt ys
    → Climbs lt (put lt x ys)
put_climbs lt o x [] h = (tt, tt)
put_climbs lt o x (y ∷ ys) h =
    by_cases {C = Climbs lt (put lt x (y ∷ ys))} (lt y x)
    (λ t. rw t (put_each lt (λ z. lt z y ≡ false) x ys (o.one_way y x t) h.0, put_climbs lt o x ys h.1))
    (λ f. rw f ((f, each_further lt o x y ys f h.0), h))

sorted_climbs : {X : Type 0} (lt : X → X → Bool) → IsStrictWeakOrder lt → (xs : List X) → Climbs lt (sorted lt xs)
sorted_climbs lt o [] = tt
sorted_climbs lt o (x ∷ xs) = put_climbs lt o x (sorted lt xs) (sorted_climbs lt o xs)

-- two that tie with a third tie
no_tie : {X : Type 0} (lt : X → X → Bool) → IsStrictWeakOrder lt → (z x y : X) → lt y x ≡ true
    → ties lt z y ≡ true → ties lt z x ≡ false
no_tie lt o z x y less same =
    by_cases {C = ties lt z x ≡ false} (lt x z) (λ t. by_cases {C = ties lt z x ≡ false} (lt z x)
    (λ u. rw (t, u) refl) (λ u. rw (t, u) refl))
    (λ f. by_cases {C = ties lt z x ≡ false} (lt z x) (λ u. rw (f, u) refl)
    (λ u. by_cases {C = ties lt z x ≡ false} (lt y z)
    (λ a. by_cases {C = ties lt z x ≡ false} (lt z y) (λ b. let e = rw (a, b) at same in cc)
    (λ b. let e = rw (a, b) at same in cc))
    (λ a. let e = sym less ∙ o.chain y z x a u in cc)))

put_ties : {X : Type 0} (lt : X → X → Bool) → IsStrictWeakOrder lt → (z x : X) (ys : List X)
    → filter (ties lt z) (put lt x ys) ≡ filter (ties lt z) (x ∷ ys)
put_ties lt o z x [] = refl
put_ties lt o z x (y ∷ ys) =
    by_cases {C = filter (ties lt z) (put lt x (y ∷ ys)) ≡ filter (ties lt z) (x ∷ y ∷ ys)} (lt y x)
    (λ t. rw t (ap (λ r. cond (ties lt z y) (y ∷ r) r) (put_ties lt o z x ys)
    ∙ by_cases {C = cond (ties lt z y) (y ∷ filter (ties lt z) (x ∷ ys)) (filter (ties lt z) (x ∷ ys))
    ≡ filter (ties lt z) (x ∷ y ∷ ys)} (ties lt z y)
    (λ s. let no : ties lt z x ≡ false = no_tie lt o z x y t s in rw (no, s) refl) (λ s. rw s refl)))
    (λ f. rw f refl)

sorted_ties : {X : Type 0} (lt : X → X → Bool) → IsStrictWeakOrder lt → (z : X) (xs : List X)
    → filter (ties lt z) (sorted lt xs) ≡ filter (ties lt z) xs
sorted_ties lt o z [] = refl
sorted_ties lt o z (x ∷ xs) = put_ties lt o z x (sorted lt xs)
    ∙ ap (λ r. cond (ties lt z x) (x ∷ r) r) (sorted_ties lt o z xs)

-- what a filter finds first has what each has
first_has : {X : Type 0} (p : X → Bool) (P : X → Type 0) (x : X) (ys rest : List X) → filter p ys ≡ x ∷ rest
    → AllByRecursion P ys → P x
first_has p P x [] rest e h = let bad = e in cc
first_has p P x (y ∷ ys) rest e h =
    by_cases {C = P x} (p y)
    (λ t. let s = rw t at e in let same : y ≡ x = cc in subst P same h.0)
    (λ f. first_has p P x ys rest (rw f at e) h.1)

pub ties_itself : {X : Type 0} (lt : X → X → Bool) → IsStrictWeakOrder lt → (x : X) → lt x x ≡ false
ties_itself lt o x = by_cases {C = lt x x ≡ false} (lt x x) (λ t. o.one_way x x t) (λ f. f)

ties_first : {X : Type 0} (lt : X → X → Bool) → IsStrictWeakOrder lt → (x : X) (xs : List X)
    → filter (ties lt x) (x ∷ xs) ≡ x ∷ filter (ties lt x) xs
ties_first lt o x xs = rw (ties_itself lt o x) refl

same_tail : {X : Type 0} (lt : X → X → Bool) (x y z : X) (xs ys : List X) → x ≡ y
    → filter (ties lt z) (x ∷ xs) ≡ filter (ties lt z) (y ∷ ys) → filter (ties lt z) xs ≡ filter (ties lt z) ys
same_tail lt x y z xs ys e same =
    by_cases {C = filter (ties lt z) xs ≡ filter (ties lt z) ys} (ties lt z x)
    (λ t. let u : ties lt z y ≡ true = ap (ties lt z) (sym e) ∙ t in let s = rw (t, u) at same in cc)
    (λ f. let u : ties lt z y ≡ false = ap (ties lt z) (sym e) ∙ f in rw (f, u) at same)

-- lists that climb, with the same ties in the same order, are one
same_list : {X : Type 0} (lt : X → X → Bool) → IsStrictWeakOrder lt → (xs ys : List X) → Climbs lt xs
    → Climbs lt ys → ((z : X) → filter (ties lt z) xs ≡ filter (ties lt z) ys) → xs ≡ ys
same_list lt o [] [] cx cy same = refl
same_list lt o [] (y ∷ ys) cx cy same = let e = same y ∙ ties_first lt o y ys in cc
same_list lt o (x ∷ xs) [] cx cy same = let e = sym (ties_first lt o x xs) ∙ same x in cc
same_list {X} lt o (x ∷ xs) (y ∷ ys) cx cy same =
    let up : lt x y ≡ false = first_has (ties lt x) (λ z. lt z y ≡ false) x (y ∷ ys) (filter (ties lt x) xs)
    (sym (same x) ∙ ties_first lt o x xs) (ties_itself lt o y, cy.0) in
    let down : lt y x ≡ false = first_has (ties lt y) (λ z. lt z x ≡ false) y (x ∷ xs) (filter (ties lt y) ys)
    (same y ∙ ties_first lt o y ys) (ties_itself lt o x, cx.0) in
    let tie : ties lt x y ≡ true = rw (up, down) refl in
    let here : filter (ties lt x) (y ∷ ys) ≡ y ∷ filter (ties lt x) ys = rw tie refl in
    let heads : x ∷ filter (ties lt x) xs ≡ y ∷ filter (ties lt x) ys = sym (ties_first lt o x xs) ∙ same x ∙ here in
    let head : x ≡ y = cc in
    let tails : (z : X) → filter (ties lt z) xs ≡ filter (ties lt z) ys = λ z. same_tail lt x y z xs ys head (same z) in
    ap (λ z. z ∷ xs) head ∙ ap (λ zs. y ∷ zs) (same_list lt o xs ys cx.1 cy.1 tails)

-- what std's sort says, in these words
climbs_from : {X : Type 0} (lt : X → X → Bool) → IsStrictWeakOrder lt → (xs : List X) → IsSortedBy lt xs
    → Climbs lt xs
climbs_from lt o [] h = tt
climbs_from lt o (x ∷ []) h = (tt, tt)
climbs_from {X} lt o (x ∷ y ∷ ys) h =
    let tail : IsSortedBy lt (y ∷ ys) = λ k d le l. let e : suc k + 1 ≡ suc (k + 1) = omega arith in
    rw e at (h (suc k) d (omega arith) (omega (arith, l))) in
    let rest : Climbs lt (y ∷ ys) = climbs_from lt o (y ∷ ys) tail in
    let next : lt y x ≡ false = h 0 x (omega arith) (omega arith) in
    ((next, each_further lt o x y ys next rest.0), rest)

sort_is : {X : Type 0} (lt : X → X → Bool) → IsStrictWeakOrder lt → (xs ys : List X) → IsSortedBy lt ys
    → IsStableBy lt xs ys → ys ≡ sorted lt xs
sort_is lt o xs ys up stable =
    same_list lt o ys (sorted lt xs) (climbs_from lt o ys up) (sorted_climbs lt o xs)
    (λ z. stable z ∙ sym (sorted_ties lt o z xs))

-- ---- edits by offset

put_mapped : {X : Type 0} (f : X → Replacement) (lt : X → X → Bool) → ((x y : X) → lt x y ≡ is_after (f y) (f x))
    → (x : X) (ys : List X) → map f (put lt x ys) ≡ put_edit (f x) (map f ys)
put_mapped f lt is x [] = refl
put_mapped f lt is x (y ∷ ys) =
    by_cases {C = map f (put lt x (y ∷ ys)) ≡ put_edit (f x) (map f (y ∷ ys))} (lt y x)
    (λ t. let u : is_after (f x) (f y) ≡ true = sym (is y x) ∙ t in
    rw (t, u) (ap (λ r. f y ∷ r) (put_mapped f lt is x ys)))
    (λ g. let u : is_after (f x) (f y) ≡ false = sym (is y x) ∙ g in rw (g, u) refl)

sorted_mapped : {X : Type 0} (f : X → Replacement) (lt : X → X → Bool) → ((x y : X) → lt x y ≡ is_after (f y) (f x))
    → (xs : List X) → map f (sorted lt xs) ≡ by_offset (map f xs)
sorted_mapped f lt is [] = refl
sorted_mapped f lt is (x ∷ xs) = put_mapped f lt is x (sorted lt xs) ∙ ap (put_edit (f x)) (sorted_mapped f lt is xs)

-- whether one place comes before another, by offset and then by length
abbrev below : ℕ → ℕ → ℕ → ℕ → Bool
below a b c d = ltb a c || (eqb a c && ltb b d)

from_false : (a b c d : ℕ) → below a b c d ≡ false → (c ≤ a) × (a ≡ c → d ≤ b)
from_false a b c d h =
    let parts : (ltb a c ≡ false) × ((eqb a c && ltb b d) ≡ false) = or_parts (ltb a c) (eqb a c && ltb b d) h in
    (ltb-false a c parts.0, λ e. let same = eq-eqb a c e in ltb-false b d (rw same at parts.1))

to_false : (a b c d : ℕ) → c ≤ a → (a ≡ c → d ≤ b) → below a b c d ≡ false
to_false a b c d le same =
    or_from (ltb a c) (eqb a c && ltb b d) (le-ltb a c le)
    (by_cases {C = (eqb a c && ltb b d) ≡ false} (eqb a c)
    (λ t. rw t (le-ltb b d (same (eqb-true a c t)))) (λ f. rw f refl))

below_one_way : (a b c d : ℕ) → below a b c d ≡ true → below c d a b ≡ false
below_one_way a b c d h =
    by_cases {C = below c d a b ≡ false} (ltb a c)
    (λ t. let lt : a < c = ltb-true a c t in to_false c d a b (omega (arith, lt)) (λ e. omega (arith, lt, e)))
    (λ f. by_cases {C = below c d a b ≡ false} (eqb a c)
    (λ t. let l : ltb b d ≡ true = rw (f, t) at h in let e : a ≡ c = eqb-true a c t in
    let lt : b < d = ltb-true b d l in to_false c d a b (omega (arith, e)) (λ _. omega (arith, lt)))
    (λ g. let bad : false ≡ true = rw (f, g) at h in cc))

below_chain : (a b c d e f : ℕ) → below a b c d ≡ false → below c d e f ≡ false → below a b e f ≡ false
below_chain a b c d e f h k =
    let x : (c ≤ a) × (a ≡ c → d ≤ b) = from_false a b c d h in
    let y : (e ≤ c) × (c ≡ e → f ≤ d) = from_false c d e f k in
    let up : c ≤ a = x.0 in let up' : e ≤ c = y.0 in
    to_false a b e f (omega (arith, up, up'))
    (λ same. let s : a ≡ c = omega (arith, up, up', same) in let s' : c ≡ e = omega (arith, up, up', same) in
    let u : d ≤ b = x.1 s in let u' : f ≤ d = y.1 s' in omega (arith, u, u'))

-- an edit that comes before another one
abbrev pub less : Replacement → Replacement → Bool
less edit other = is_after other edit

-- an order that goes by the edits of its elements
pub order_of : {X : Type 0} (f : X → Replacement) (lt : X → X → Bool) → ((x y : X) → lt x y ≡ less (f x) (f y))
    → IsStrictWeakOrder lt
order_of f lt is = record {
  one_way = λ x y h. is y x ∙ below_one_way (f x).span.offset (f x).span.len (f y).span.offset (f y).span.len
      (sym (is x y) ∙ h);
  chain = λ x y z h k. is x z ∙ below_chain (f x).span.offset (f x).span.len (f y).span.offset (f y).span.len
      (f z).span.offset (f z).span.len (sym (is x y) ∙ h) (sym (is y z) ∙ k);
}

pub less_order : IsStrictWeakOrder less
less_order = order_of (λ edit. edit) less (λ x y. refl)

-- An edit that isn't after another one doesn't begin after it, and isn't longer where they begin at one offset.
pub not_after : (edit other : Replacement) → is_after edit other ≡ false
    → (edit.span.offset ≤ other.span.offset) × (other.span.offset ≡ edit.span.offset → edit.span.len ≤ other.span.len)
not_after edit other h = from_false other.span.offset other.span.len edit.span.offset edit.span.len h

pub sorted_is : (edits : List Replacement) → sorted less edits ≡ by_offset edits
sorted_is edits = sym (map-id (sorted less edits)) ∙ sorted_mapped (λ edit. edit) less (λ x y. refl) edits
    ∙ ap by_offset (map-id edits)

pub by_offset_climbs : (edits : List Replacement) → Climbs less (by_offset edits)
by_offset_climbs edits =
    subst (λ (es : List Replacement). Climbs less es) (sorted_is edits) (sorted_climbs less less_order edits)

-- lists with the same ties in the same order have one order
pub same_order : (xs ys : List Replacement) → ((z : Replacement) → filter (ties less z) xs ≡ filter (ties less z) ys)
    → by_offset xs ≡ by_offset ys
same_order xs ys same = sym (sorted_is xs)
    ∙ same_list less less_order (sorted less xs) (sorted less ys) (sorted_climbs less less_order xs)
    (sorted_climbs less less_order ys)
    (λ z. sorted_ties less less_order z xs ∙ same z ∙ sym (sorted_ties less less_order z ys))
    ∙ sorted_is ys

-- ---- the sort of a program

abbrev span_cmp : Span → Span → Ordering
span_cmp = then_cmp (on (λ it. it.offset) nat_cmp) (on (λ it. it.len) nat_cmp)

cmp_at : (b d : ℕ) → is_lt (nat_cmp b d) ≡ ltb b d
cmp_at b d = by_cases {C = is_lt (nat_cmp b d) ≡ ltb b d} (ltb b d) (λ t. rw t refl)
    (λ f. by_cases {C = is_lt (nat_cmp b d) ≡ ltb b d} (eqb b d) (λ t. rw (f, t) refl) (λ g. rw (f, g) refl))

cmp_is : (x y : Replacement) → is_lt (span_cmp x.span y.span) ≡ less x y
cmp_is x y =
    by_cases {C = is_lt (span_cmp x.span y.span) ≡ less x y} (ltb x.span.offset y.span.offset)
    (λ t. rw t refl)
    (λ f. by_cases {C = is_lt (span_cmp x.span y.span) ≡ less x y} (eqb x.span.offset y.span.offset)
    (λ t. rw (f, t) (cmp_at x.span.len y.span.len)) (λ g. rw (f, g) refl))

-- what it shows
pub sort_by_offset : (xs ys : List (Bor Replacement))
    → IsSortedByKey (λ (edit : Bor Replacement). edit.now.span) span_cmp ys
    → IsStableByKey (λ (edit : Bor Replacement). edit.now.span) span_cmp xs ys → edits_of ys ≡ by_offset (edits_of xs)
sort_by_offset xs ys up stable =
    let now : Bor Replacement → Replacement = λ edit. edit.now in
    let lt : Bor Replacement → Bor Replacement → Bool = λ x y. is_lt (span_cmp x.now.span y.now.span) in
    let is : (x y : Bor Replacement) → lt x y ≡ less x.now y.now = λ x y. cmp_is x.now y.now in
    ap (map now) (sort_is lt (order_of now lt is) xs ys up stable) ∙ sorted_mapped now lt is xs

-- what is in order stays
put_ascending : (edit : Replacement) (edits : List Replacement) → ascends_after edit edits ≡ true
    → put_edit edit edits ≡ edit ∷ edits
put_ascending edit [] h = refl
put_ascending edit (next ∷ edits) h =
    by_cases {C = put_edit edit (next ∷ edits) ≡ edit ∷ next ∷ edits} (is_after edit next)
    (λ t. let e = rw t at h in cc) (λ f. rw f refl)

rest_ascends : (edit next : Replacement) (edits : List Replacement) → ascends_after edit (next ∷ edits) ≡ true
    → ascends_after next edits ≡ true
rest_ascends edit next edits h =
    by_cases {C = ascends_after next edits ≡ true} (is_after edit next)
    (λ t. let e = rw t at h in cc) (λ f. rw f at h)

stays_after : (edit : Replacement) (edits : List Replacement) → ascends_after edit edits ≡ true
    → by_offset (edit ∷ edits) ≡ edit ∷ edits
stays_after edit [] h = refl
stays_after edit (next ∷ edits) h =
    ap (put_edit edit) (stays_after next edits (rest_ascends edit next edits h)) ∙ put_ascending edit (next ∷ edits) h

pub in_order_stays : (edits : List Replacement) → ascends edits ≡ true → by_offset edits ≡ edits
in_order_stays [] h = refl
in_order_stays (edit ∷ edits) h = stays_after edit edits h
