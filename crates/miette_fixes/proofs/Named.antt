-- The indices in an error are those of edits that are wrong.
use Rattle.std.proofs.Common.{ℕ, zero, suc, ◌+◌, ◌≤◌, ◌≡◌, Bool, true, false, cond, ltb, eqb, not, ◌&&◌, ◌||◌}
use Rattle.std.proofs.Common.{List, [], ◌∷◌, ◌++◌, refl, sym, ap, ap₂, ◌∙◌, arith, subst, take, drop}
use Rattle.std.specs.Prelude.{◌≢◌, Option, None, Some, slice_get}
use Rattle.std.specs.List.{AllByRecursion, list_any, position_or_len}
use Rattle.std.proofs.lemmas.Bool.{and_parts, cond-false, cond-true, eq-eqb, eqb-true, true≢false}
use Rattle.std.proofs.lemmas.Option.{same_Some}
use Rattle.miette_lines.proofs.Cases.{by_cases}
use Rattle.miette_protocol.specs.rules.Reading.{Span}
use Rattle.miette_fixes.specs.declared.error.FixError.{FixError}
use Rattle.miette_fixes.specs.declared.error.FixError.TheVariants.{OutOfBounds, Overlap, Memory}
use Rattle.miette_fixes.specs.laws.Errors.{AreOverlapping, EndsOutside}
use Rattle.miette_fixes.specs.rules.Applying.{by_offset, edits_error, first_overlap, index_from, overlap_after}
use Rattle.miette_fixes.specs.rules.Applying.{overlap_error, put_edit}
use Rattle.miette_fixes.specs.rules.Edits.{Replacement, ends_after, is_after, overlap, same_span, some_overlap}
use Rattle.miette_fixes.proofs.Overlaps.{any_by_offset}
use Rattle.miette_fixes.proofs.Sorting.{Climbs, less, by_offset_climbs}

-- ---- the first element that passes a test

record IsFirst {X : Type 0} (p : X → Bool) (xs : List X) (i : ℕ) : Type 0 where
  it : X
  at : slice_get xs i ≡ Some it
  passes : p it ≡ true
  before : list_any p (take i xs) ≡ false

position_first : {X : Type 0} (p : X → Bool) (xs : List X) → list_any p xs ≡ true
    → IsFirst p xs (position_or_len p xs)
position_first p [] h = let bad = h in cc
position_first {X} p (x ∷ xs) h =
    by_cases {C = IsFirst p (x ∷ xs) (position_or_len p (x ∷ xs))} (p x)
    (λ t. let e : position_or_len p (x ∷ xs) ≡ 0 = rw t refl in
    subst (IsFirst p (x ∷ xs)) (sym e) (record { it = x; at = refl; passes = t; before = refl }))
    (λ f. let more : IsFirst p xs (position_or_len p xs) = position_first p xs (rw f at h) in
    let e : position_or_len p (x ∷ xs) ≡ suc (position_or_len p xs) = rw f (omega arith) in
    subst (IsFirst p (x ∷ xs)) (sym e)
    (record { it = more.it; at = more.at; passes = more.passes; before = rw f more.before }))

any_in : {X : Type 0} (p : X → Bool) (before : List X) (x : X) (rest : List X) → p x ≡ true
    → list_any p (before ++ x ∷ rest) ≡ true
any_in p [] x rest t = rw t refl
any_in p (b ∷ bs) x rest t =
    by_cases {C = list_any p ((b ∷ bs) ++ x ∷ rest) ≡ true} (p b) (λ u. rw u refl) (λ u. rw u (any_in p bs x rest t))

any_after : {X : Type 0} (p : X → Bool) (before : List X) (x y : X) (rest : List X) → p y ≡ true
    → list_any p (before ++ x ∷ y ∷ rest) ≡ true
any_after p [] x y rest t = by_cases {C = list_any p (x ∷ y ∷ rest) ≡ true} (p x) (λ u. rw u refl) (λ u. rw (u, t) refl)
any_after p (b ∷ bs) x y rest t =
    by_cases {C = list_any p ((b ∷ bs) ++ x ∷ y ∷ rest) ≡ true} (p b) (λ u. rw u refl)
    (λ u. rw u (any_after p bs x y rest t))

-- ---- how many pass a test, and the second that does

abbrev many : {X : Type 0} → (X → Bool) → List X → ℕ
many p [] = 0
many p (x ∷ xs) = cond (p x) (suc (many p xs)) (many p xs)

turned : (a b : Bool) (m : ℕ) → cond a (suc (cond b (suc m) m)) (cond b (suc m) m)
    ≡ cond b (suc (cond a (suc m) m)) (cond a (suc m) m)
turned true true m = refl
turned true false m = refl
turned false true m = refl
turned false false m = refl

many_put : (p : Replacement → Bool) (edit : Replacement) (edits : List Replacement)
    → many p (put_edit edit edits) ≡ many p (edit ∷ edits)
many_put p edit [] = refl
many_put p edit (next ∷ edits) =
    by_cases {C = many p (put_edit edit (next ∷ edits)) ≡ many p (edit ∷ next ∷ edits)} (is_after edit next)
    (λ t. rw t (ap (λ r. cond (p next) (suc r) r) (many_put p edit edits) ∙ turned (p next) (p edit) (many p edits)))
    (λ f. rw f refl)

many_by : (p : Replacement → Bool) (edits : List Replacement) → many p (by_offset edits) ≡ many p edits
many_by p [] = refl
many_by p (edit ∷ edits) =
    many_put p edit (by_offset edits) ∙ ap (λ r. cond (p edit) (suc r) r) (many_by p edits)

many_pair : {X : Type 0} (p : X → Bool) (before : List X) (x y : X) (rest : List X) → p x ≡ true → p y ≡ true
    → 2 ≤ many p (before ++ x ∷ y ∷ rest)
many_pair p [] x y rest t u = rw (t, u) (omega arith)
many_pair p (b ∷ bs) x y rest t u =
    let more : 2 ≤ many p (bs ++ x ∷ y ∷ rest) = many_pair p bs x y rest t u in
    by_cases {C = 2 ≤ many p ((b ∷ bs) ++ x ∷ y ∷ rest)} (p b) (λ v. rw v (omega (arith, more))) (λ v. rw v more)

any_of : {X : Type 0} (p : X → Bool) (xs : List X) → 1 ≤ many p xs → list_any p xs ≡ true
any_of p [] h = absurd (let none : 1 ≤ 0 = h in omega (arith, none))
any_of p (x ∷ xs) h =
    by_cases {C = list_any p (x ∷ xs) ≡ true} (p x) (λ t. rw t refl) (λ f. rw f (any_of p xs (rw f at h)))

again : {X : Type 0} (p : X → Bool) (xs : List X) → 2 ≤ many p xs
    → list_any p (drop (position_or_len p xs + 1) xs) ≡ true
again p [] h = absurd (let none : 2 ≤ 0 = h in omega (arith, none))
again p (x ∷ xs) h =
    by_cases {C = list_any p (drop (position_or_len p (x ∷ xs) + 1) (x ∷ xs)) ≡ true} (p x)
    (λ t. let e : position_or_len p (x ∷ xs) + 1 ≡ 1 = rw t refl in
    let some : 2 ≤ suc (many p xs) = rw t at h in
    ap (λ k. list_any p (drop k (x ∷ xs))) e ∙ any_of p xs (omega (arith, some)))
    (λ f. let e : position_or_len p (x ∷ xs) + 1 ≡ suc (position_or_len p xs + 1) = rw f (omega arith) in
    ap (λ k. list_any p (drop k (x ∷ xs))) e ∙ again p xs (rw f at h))

get_drop : {X : Type 0} (n : ℕ) (xs : List X) (k : ℕ) → slice_get (drop n xs) k ≡ slice_get xs (n + k)
get_drop zero xs k = ap (slice_get xs) (omega arith)
get_drop (suc n) [] k = refl
get_drop (suc n) (x ∷ xs) k =
    let e : suc (n + k) ≡ suc n + k = omega arith in get_drop n xs k ∙ ap (slice_get (x ∷ xs)) e

-- ---- edits with the same span

abbrev edit_at : Span → Replacement
edit_at span = record { span = span; text = [] }

same_parts : (edit other : Replacement) → same_span edit other ≡ true → edit.span ≡ other.span
same_parts edit other h =
    let parts = and_parts (eqb edit.span.offset other.span.offset) (eqb edit.span.len other.span.len) h in
    let made : ℕ → ℕ → Span = λ offset len. record { offset = offset; len = len } in
    ap₂ made (eqb-true edit.span.offset other.span.offset parts.0) (eqb-true edit.span.len other.span.len parts.1)

same_as_itself : (edit : Replacement) → same_span edit edit ≡ true
same_as_itself edit =
    let a : eqb edit.span.offset edit.span.offset ≡ true = eq-eqb edit.span.offset edit.span.offset refl in
    let b : eqb edit.span.len edit.span.len ≡ true = eq-eqb edit.span.len edit.span.len refl in
    rw (a, b) refl

same_test : (edit other : Replacement) → edit.span ≡ other.span → same_span edit other ≡ true
same_test edit other e = ap (λ span. same_span edit (edit_at span)) (sym e) ∙ same_as_itself edit

-- ---- the pair that an error names

record IsPair (edits sorted : List Replacement) (first second : ℕ) : Type 0 where
  before : List Replacement
  edit : Replacement
  next : Replacement
  rest : List Replacement
  is : sorted ≡ before ++ edit ∷ next ∷ rest
  order : is_after edit next ≡ false
  meet : overlap edit next ≡ true
  error : overlap_error edits edit next ≡ Overlap first second

pair_after : (edits : List Replacement) (a : Replacement) (sorted : List Replacement) (first second : ℕ)
    → Climbs less (a ∷ sorted) → overlap_after edits a sorted ≡ Some (Overlap first second)
    → IsPair edits (a ∷ sorted) first second
pair_after edits a [] first second h e = let bad = e in cc
pair_after edits a (b ∷ sorted) first second h e =
    let found : Option FixError = Some (overlap_error edits a b) in
    let further : Option FixError = overlap_after edits b sorted in
    by_cases {C = IsPair edits (a ∷ b ∷ sorted) first second} (overlap a b)
    (λ t. record {
      before = [];
      edit = a;
      next = b;
      rest = sorted;
      is = refl;
      order = h.0.0;
      meet = t;
      error = same_Some (overlap_error edits a b) (Overlap first second)
          (sym (cond-true (overlap a b) found further t) ∙ e);
    })
    (λ f. let more : IsPair edits (b ∷ sorted) first second = pair_after edits b sorted first second h.1
    (sym (cond-false (overlap a b) found further f) ∙ e) in
    record {
      before = a ∷ more.before;
      edit = more.edit;
      next = more.next;
      rest = more.rest;
      is = ap (λ es. a ∷ es) more.is;
      order = more.order;
      meet = more.meet;
      error = more.error;
    })

pair_first : (edits sorted : List Replacement) (first second : ℕ) → Climbs less sorted
    → first_overlap edits sorted ≡ Some (Overlap first second) → IsPair edits sorted first second
pair_first edits [] first second h e = let bad = e in cc
pair_first edits (a ∷ sorted) first second h e = pair_after edits a sorted first second h e

-- ---- the error of edits

overlaps : (n : ℕ) (edits : List Replacement) (first second : ℕ) → edits_error n edits ≡ Some (Overlap first second)
    → first_overlap edits (by_offset edits) ≡ Some (Overlap first second)
overlaps n edits first second h =
    let goal : Type 0 = first_overlap edits (by_offset edits) ≡ Some (Overlap first second) in
    by_cases {C = goal} (list_any (ends_after n) edits)
    (λ t. let bad = rw t at h in cc)
    (λ f. by_cases {C = goal} (some_overlap edits) (λ t. rw (f, t) at h) (λ g. let bad = rw (f, g) at h in cc))

abbrev first_of : FixError → ℕ
first_of (OutOfBounds edit) = edit
first_of (Overlap first second) = first
first_of Memory = 0

abbrev second_of : FixError → ℕ
second_of (OutOfBounds edit) = edit
second_of (Overlap first second) = second
second_of Memory = 0

index_whole : (edit : Replacement) (edits : List Replacement) → index_from 0 edit edits
    ≡ position_or_len (same_span edit) edits
index_whole edit edits = omega arith

-- two indices of edits with the spans of two that overlap
both : (edits : List Replacement) (edit next : Replacement) (i j first second : ℕ) → is_after edit next ≡ false
    → overlap edit next ≡ true → (a : Replacement) → slice_get edits i ≡ Some a → same_span edit a ≡ true
    → (b : Replacement) → slice_get edits j ≡ Some b → same_span next b ≡ true → i ≢ j → i ≡ first → j ≡ second
    → AreOverlapping edits first second
both edits edit next i j first second order meet a ia sa b jb sb apart ei ej =
    let ea : edit.span ≡ a.span = same_parts edit a sa in
    let eb : next.span ≡ b.span = same_parts next b sb in
    record {
      edit = a;
      next = b;
      at_first = ap (slice_get edits) (sym ei) ∙ ia;
      at_second = ap (slice_get edits) (sym ej) ∙ jb;
      different = λ e. apart (ei ∙ e ∙ sym ej);
      order = sym (ap₂ (λ s t. is_after (edit_at s) (edit_at t)) ea eb) ∙ order;
      meet = sym (ap₂ (λ s t. overlap (edit_at s) (edit_at t)) ea eb) ∙ meet;
    }

one_edit : (edits : List Replacement) (edit next a b : Replacement) (i j : ℕ) → slice_get edits i ≡ Some a
    → same_span edit a ≡ true → slice_get edits j ≡ Some b → same_span next b ≡ true → i ≡ j
    → same_span edit next ≡ true
one_edit edits edit next a b i j ia sa jb sb e =
    let same : a ≡ b = same_Some a b (sym ia ∙ ap (slice_get edits) e ∙ jb) in
    same_test edit next (same_parts edit a sa ∙ ap (λ (it : Replacement). it.span) same
    ∙ sym (same_parts next b sb))

pub named : (n : ℕ) (edits : List Replacement) (first second : ℕ) → edits_error n edits ≡ Some (Overlap first second)
    → AreOverlapping edits first second
named n edits first second h =
    let p : IsPair edits (by_offset edits) first second =
    pair_first edits (by_offset edits) first second (by_offset_climbs edits) (overlaps n edits first second h) in
    let own : list_any (same_span p.edit) edits ≡ true = sym (any_by_offset (same_span p.edit) edits)
    ∙ ap (list_any (same_span p.edit)) p.is
    ∙ any_in (same_span p.edit) p.before p.edit (p.next ∷ p.rest) (same_as_itself p.edit) in
    let i : ℕ = position_or_len (same_span p.edit) edits in
    let a : IsFirst (same_span p.edit) edits i = position_first (same_span p.edit) edits own in
    let ei : i ≡ first = sym (index_whole p.edit edits) ∙ ap first_of p.error in
    by_cases {C = AreOverlapping edits first second} (same_span p.edit p.next)
    (λ t. let spans : p.edit.span ≡ p.next.span = same_parts p.edit p.next t in
    let two : 2 ≤ many (same_span p.edit) edits =
    subst (λ m. 2 ≤ m) (ap (many (same_span p.edit)) (sym p.is) ∙ many_by (same_span p.edit) edits)
    (many_pair (same_span p.edit) p.before p.edit p.next p.rest (same_as_itself p.edit) t) in
    let some : list_any (same_span p.next) (drop (i + 1) edits) ≡ true =
    ap (λ s. list_any (same_span (edit_at s)) (drop (i + 1) edits)) (sym spans) ∙ again (same_span p.edit) edits two in
    let k : ℕ = position_or_len (same_span p.next) (drop (i + 1) edits) in
    let b : IsFirst (same_span p.next) (drop (i + 1) edits) k =
    position_first (same_span p.next) (drop (i + 1) edits) some in
    let from : cond (same_span p.edit p.next) (index_from 0 p.edit edits + 1) 0 ≡ i + 1 =
    cond-true (same_span p.edit p.next) (index_from 0 p.edit edits + 1) 0 t
    ∙ ap (λ x. x + 1) (index_whole p.edit edits) in
    both edits p.edit p.next i (i + 1 + k) first second p.order p.meet a.it a.at a.passes b.it
    (sym (get_drop (i + 1) edits k) ∙ b.at) b.passes (λ e. omega (arith, e)) ei
    (sym (ap (λ x. index_from x p.next edits) from) ∙ ap second_of p.error))
    (λ f. let other : list_any (same_span p.next) edits ≡ true = sym (any_by_offset (same_span p.next) edits)
    ∙ ap (list_any (same_span p.next)) p.is
    ∙ any_after (same_span p.next) p.before p.edit p.next p.rest (same_as_itself p.next) in
    let j : ℕ = position_or_len (same_span p.next) edits in
    let b : IsFirst (same_span p.next) edits j = position_first (same_span p.next) edits other in
    let from : cond (same_span p.edit p.next) (index_from 0 p.edit edits + 1) 0 ≡ 0 =
    cond-false (same_span p.edit p.next) (index_from 0 p.edit edits + 1) 0 f in
    both edits p.edit p.next i j first second p.order p.meet a.it a.at a.passes b.it b.at b.passes
    (λ e. true≢false (sym (one_edit edits p.edit p.next a.it b.it i j a.at a.passes b.at b.passes e) ∙ f)) ei
    (sym (index_whole p.next edits) ∙ sym (ap (λ x. index_from x p.next edits) from) ∙ ap second_of p.error))

never_outside : (edits : List Replacement) (a : Replacement) (sorted : List Replacement) (edit : ℕ)
    → overlap_after edits a sorted ≡ Some (OutOfBounds edit) → ⊥
never_outside edits a [] edit e = let bad = e in cc
never_outside edits a (b ∷ sorted) edit e =
    let found : Option FixError = Some (overlap_error edits a b) in
    let further : Option FixError = overlap_after edits b sorted in
    by_cases {C = ⊥} (overlap a b)
    (λ t. let bad : found ≡ Some (OutOfBounds edit) = sym (cond-true (overlap a b) found further t) ∙ e in cc)
    (λ f. never_outside edits b sorted edit (sym (cond-false (overlap a b) found further f) ∙ e))

never_first : (edits sorted : List Replacement) (edit : ℕ) → first_overlap edits sorted ≡ Some (OutOfBounds edit) → ⊥
never_first edits [] edit e = let bad = e in cc
never_first edits (a ∷ sorted) edit e = never_outside edits a sorted edit e

pub outside_named : (n : ℕ) (edits : List Replacement) (edit : ℕ) → edits_error n edits ≡ Some (OutOfBounds edit)
    → EndsOutside n edits edit
outside_named n edits edit h =
    by_cases {C = EndsOutside n edits edit} (list_any (ends_after n) edits)
    (λ t. let at : ℕ = position_or_len (ends_after n) edits in
    let found : Some (OutOfBounds at) ≡ Some (OutOfBounds edit) = rw t at h in
    let is : at ≡ edit = ap first_of (same_Some (OutOfBounds at) (OutOfBounds edit) found) in
    let first : IsFirst (ends_after n) edits at = position_first (ends_after n) edits t in
    subst (EndsOutside n edits) is
    (record { edit = first.it; at = first.at; outside = first.passes; before = first.before }))
    (λ f. by_cases {C = EndsOutside n edits edit} (some_overlap edits)
    (λ t. absurd (never_first edits (by_offset edits) edit (rw (f, t) at h)))
    (λ g. let bad = rw (f, g) at h in cc))
