-- What is kept of where edits begin, as lists of them come one by one.
use Rattle.std.proofs.Common.{ℕ, zero, suc, ◌+◌, ◌<◌, ◌≤◌, ◌≡◌, Bool, true, false, eqb, ltb, max, ◌||◌, List, []}
use Rattle.std.proofs.Common.{◌∷◌, ◌++◌, refl, sym, ap, ◌∙◌, arith, append_assoc, Option, Some, None, length, get_or}
use Rattle.std.proofs.Common.{subst, take}
use Rattle.std.specs.BTreeMap.{BTreeMap, IsEmpty, Updates, get, is_at}
use Rattle.std.specs.List.{list_any}
use Rattle.std.specs.Map.{lookup}
use Rattle.std.specs.Ordering.{nat_cmp}
use Rattle.std.proofs.lemmas.Bool.{and_from, and_parts, eq-eqb, eqb-true, ltb-false, ltb-true}
use Rattle.std.proofs.lemmas.Bool.{or_left, or_right}
use Rattle.std.proofs.lemmas.Option.{same_Some}
use Rattle.std.proofs.lemmas.List.{append-nil, length-append, take_more}
use Rattle.std.proofs.lemmas.List.Folds.{list_any-append}
use Rattle.miette_lines.proofs.Cases.{by_cases}
use Rattle.miette_fixes.specs.declared.edit_starts.EditStart.{EditStart}
use Rattle.miette_fixes.specs.rules.ApplyingAll.{all_edits}
use Rattle.miette_fixes.specs.rules.Edits.{Replacement}
use Rattle.miette_fixes.specs.steps.EditStarts.{AreEditStarts, begins_at, begins_with}
use Rattle.miette_fixes.proofs.Taking.{all_of_more}

-- ---- one edit more in the last list

abbrev pub with_last : List (List Replacement) → List Replacement → List (List Replacement)
with_last lists edits = lists ++ edits ∷ []

-- what one of the edits has, one of those before has or the last one
any_last : (p : Replacement → Bool) (lists : List (List Replacement)) (front : List Replacement) (e : Replacement)
    → list_any p (all_edits (with_last lists (front ++ e ∷ [])))
    ≡ (list_any p (all_edits (with_last lists front)) || (p e || false))
any_last p lists front e =
    ap (list_any p) (all_of_more lists (front ++ e ∷ []) ∙ sym (append_assoc (all_edits lists) front (e ∷ []))
    ∙ ap (λ es. es ++ e ∷ []) (sym (all_of_more lists front)))
    ∙ list_any-append p (all_edits (with_last lists front)) (e ∷ [])

any_before : (p : Replacement → Bool) (lists : List (List Replacement)) (front : List Replacement) (e : Replacement)
    → list_any p (all_edits (with_last lists front)) ≡ true
    → list_any p (all_edits (with_last lists (front ++ e ∷ []))) ≡ true
any_before p lists front e h =
    any_last p lists front e ∙ or_left (list_any p (all_edits (with_last lists front))) (p e || false) h

any_of_last : (p : Replacement → Bool) (lists : List (List Replacement)) (front : List Replacement) (e : Replacement)
    → p e ≡ true → list_any p (all_edits (with_last lists (front ++ e ∷ []))) ≡ true
any_of_last p lists front e h =
    any_last p lists front e
    ∙ or_right (list_any p (all_edits (with_last lists front))) (p e || false) (or_left (p e) false h)

-- an edit begins at an offset, and has a length
begins_so : (offset len : ℕ) (e : Replacement) → e.span.offset ≡ offset → e.span.len ≡ len
    → begins_with offset len e ≡ true
begins_so offset len e o l =
    and_from (eqb e.span.offset offset) (eqb e.span.len len) (eq-eqb e.span.offset offset o) (eq-eqb e.span.len len l)

-- which of the lists has a number: those before stay, and the last one grows
before_stays : (lists : List (List Replacement)) (xs ys : List Replacement) (i : ℕ) → i < length lists
    → get_or (with_last lists xs) i [] ≡ get_or (with_last lists ys) i []
before_stays [] xs ys i lt = absurd (omega (arith, lt))
before_stays (l ∷ lists) xs ys zero lt = refl
before_stays (l ∷ lists) xs ys (suc i) lt = before_stays lists xs ys i (omega (arith, lt))

last_is : (lists : List (List Replacement)) (xs : List Replacement)
    → get_or (with_last lists xs) (length lists) [] ≡ xs
last_is [] xs = refl
last_is (l ∷ lists) xs = last_is lists xs

last_at : (lists : List (List Replacement)) (xs : List Replacement) (i : ℕ) → i ≡ length lists
    → get_or (with_last lists xs) i [] ≡ xs
last_at lists xs i is = ap (λ (k : ℕ). get_or (with_last lists xs) k []) is ∙ last_is lists xs

in_front : (lists : List (List Replacement)) (xs : List Replacement) (i : ℕ) → i < length lists
    → get_or (with_last lists xs) i [] ≡ get_or lists i []
in_front [] xs i lt = absurd (omega (arith, lt))
in_front (l ∷ lists) xs zero lt = refl
in_front (l ∷ lists) xs (suc i) lt = in_front lists xs i (omega (arith, lt))

many_with : (lists : List (List Replacement)) (xs : List Replacement) → length (with_last lists xs) ≡ length lists + 1
many_with lists xs = length-append lists (xs ∷ [])

-- ---- no list, and an empty list more

pub begun_none : (begun : BTreeMap ℕ EditStart) → IsEmpty begun → AreEditStarts begun []
begun_none begun empty =
    let none : (offset : ℕ) → get nat_cmp begun offset ≡ None =
    λ offset. ap (λ es. lookup (is_at (nat_cmp offset)) es) empty in
    record {
      one = λ offset it h. let bad : None ≡ Some it = sym (none offset) ∙ h in cc;
      each = λ offset len h. let bad : false ≡ true = h in cc;
      whose = λ offset it h. let bad : None ≡ Some it = sym (none offset) ∙ h in cc;
    }

pub begun_start : (begun : BTreeMap ℕ EditStart) (lists : List (List Replacement)) → AreEditStarts begun lists
    → AreEditStarts begun (with_last lists [])
begun_start begun lists h =
    let same : all_edits (with_last lists []) ≡ all_edits lists = all_of_more lists [] ∙ append-nil (all_edits lists) in
    record {
      one = λ offset it is. ap (list_any (begins_with offset it.len)) same ∙ h.one offset it is;
      each = λ offset len there. h.each offset len (ap (list_any (begins_with offset len)) (sym same) ∙ there);
      whose = λ offset it is. let old = h.whose offset it is in (
        omega (arith, old.0, many_with lists []),
        ap (list_any (begins_at offset)) (in_front lists [] it.list old.0) ∙ old.1,
      );
    }

-- ---- one edit more

-- what is kept of an edit's offset then: the greatest length of edits that begin there, and its list's number
record IsPut (begun new : BTreeMap ℕ EditStart) (list : ℕ) (e : Replacement) (it : EditStart) : Type 0 where
  fresh : get nat_cmp begun e.span.offset ≡ None → it.len ≡ e.span.len
  again : (old : EditStart) → get nat_cmp begun e.span.offset ≡ Some old → it.len ≡ max old.len e.span.len
  number : it.list ≡ list
  there : get nat_cmp new e.span.offset ≡ Some it
  others : (q : ℕ) → eqb e.span.offset q ≡ false → get nat_cmp new q ≡ get nat_cmp begun q

greater : (a b c : ℕ) → c ≡ max a b → a ≤ c × b ≤ c
greater a b c is = (omega (arith, is), omega (arith, is))

one_of_both : (a b c : ℕ) → c ≡ max a b → ltb b a ≡ false → c ≡ b
one_of_both a b c is f = let le = ltb-false b a f in omega (arith, is, le)

the_other : (a b c : ℕ) → c ≡ max a b → ltb b a ≡ true → c ≡ a
the_other a b c is t = let lt = ltb-true b a t in omega (arith, is, lt)

long_enough : (begun new : BTreeMap ℕ EditStart) (list : ℕ) (e : Replacement) (it : EditStart)
    → IsPut begun new list e it → (o : Option EditStart) → get nat_cmp begun e.span.offset ≡ o → e.span.len ≤ it.len
long_enough begun new list e it put None is = let l = put.fresh is in omega (arith, l)
long_enough begun new list e it put (Some old) is = (greater old.len e.span.len it.len (put.again old is)).1

-- an edit that begins there has the length
has_one : (begun new : BTreeMap ℕ EditStart) (lists : List (List Replacement)) (front : List Replacement)
    (e : Replacement) (it : EditStart) → AreEditStarts begun (with_last lists front)
    → IsPut begun new (length lists) e it
    → (o : Option EditStart) → get nat_cmp begun e.span.offset ≡ o
    → list_any (begins_with e.span.offset it.len) (all_edits (with_last lists (front ++ e ∷ []))) ≡ true
has_one begun new lists front e it h put None is =
    any_of_last (begins_with e.span.offset it.len) lists front e
    (begins_so e.span.offset it.len e refl (sym (put.fresh is)))
has_one begun new lists front e it h put (Some old) is =
    let most : it.len ≡ max old.len e.span.len = put.again old is in
    by_cases {C = list_any (begins_with e.span.offset it.len) (all_edits (with_last lists (front ++ e ∷ []))) ≡ true}
    (ltb e.span.len old.len)
    (λ t. any_before (begins_with e.span.offset it.len) lists front e
    (ap (λ (l : ℕ). list_any (begins_with e.span.offset l) (all_edits (with_last lists front)))
    (the_other old.len e.span.len it.len most t) ∙ h.one e.span.offset old is))
    (λ f. any_of_last (begins_with e.span.offset it.len) lists front e
    (begins_so e.span.offset it.len e refl (sym (one_of_both old.len e.span.len it.len most f))))

begun_one : (begun new : BTreeMap ℕ EditStart) (lists : List (List Replacement)) (front : List Replacement)
    (e : Replacement) (it : EditStart) → AreEditStarts begun (with_last lists front)
    → IsPut begun new (length lists) e it
    → (offset : ℕ) (b : EditStart) → get nat_cmp new offset ≡ Some b
    → list_any (begins_with offset b.len) (all_edits (with_last lists (front ++ e ∷ []))) ≡ true
begun_one begun new lists front e it h put offset b is =
    by_cases {C = list_any (begins_with offset b.len) (all_edits (with_last lists (front ++ e ∷ []))) ≡ true}
    (eqb e.span.offset offset)
    (λ t. let same : e.span.offset ≡ offset = eqb-true e.span.offset offset t in
    let own : b ≡ it = same_Some b it (sym is ∙ ap (get nat_cmp new) (sym same) ∙ put.there) in
    ap (λ (o : ℕ). list_any (begins_with o b.len) (all_edits (with_last lists (front ++ e ∷ [])))) (sym same)
    ∙ ap (λ (c : EditStart). list_any (begins_with e.span.offset c.len) (all_edits (with_last lists (front ++ e ∷ []))))
    own ∙ has_one begun new lists front e it h put (get nat_cmp begun e.span.offset) refl)
    (λ f. any_before (begins_with offset b.len) lists front e (h.one offset b (sym (put.others offset f) ∙ is)))

begun_each : (begun new : BTreeMap ℕ EditStart) (lists : List (List Replacement)) (front : List Replacement)
    (e : Replacement) (it : EditStart) → AreEditStarts begun (with_last lists front)
    → IsPut begun new (length lists) e it
    → (offset len : ℕ) → list_any (begins_with offset len) (all_edits (with_last lists (front ++ e ∷ []))) ≡ true
    → (b : EditStart) × (get nat_cmp new offset ≡ Some b) × (len ≤ b.len)
begun_each begun new lists front e it h put offset len there =
    let long = long_enough begun new (length lists) e it put (get nat_cmp begun e.span.offset) refl in
    by_cases {C = (b : EditStart) × (get nat_cmp new offset ≡ Some b) × (len ≤ b.len)}
    (list_any (begins_with offset len) (all_edits (with_last lists front)))
    (λ t. let own = h.each offset len t in
    by_cases {C = (b : EditStart) × (get nat_cmp new offset ≡ Some b) × (len ≤ b.len)} (eqb e.span.offset offset)
    (λ u. let same : e.span.offset ≡ offset = eqb-true e.span.offset offset u in
    let most = greater own.0.len e.span.len it.len (put.again own.0 (ap (get nat_cmp begun) same ∙ own.1)) in
    (it, ap (get nat_cmp new) (sym same) ∙ put.there, omega (arith, own.2, most.0)))
    (λ f. (own.0, put.others offset f ∙ own.1, own.2)))
    (λ g. let last : (begins_with offset len e || false) ≡ true =
    ap (λ b. b || (begins_with offset len e || false)) (sym g) ∙ sym (any_last (begins_with offset len) lists front e)
    ∙ there in
    by_cases {C = (b : EditStart) × (get nat_cmp new offset ≡ Some b) × (len ≤ b.len)} (begins_with offset len e)
    (λ t. let parts : (eqb e.span.offset offset ≡ true) × (eqb e.span.len len ≡ true) =
    and_parts (eqb e.span.offset offset) (eqb e.span.len len) t in
    let same : e.span.offset ≡ offset = eqb-true e.span.offset offset parts.0 in
    let long_as : e.span.len ≡ len = eqb-true e.span.len len parts.1 in
    (it, ap (get nat_cmp new) (sym same) ∙ put.there, omega (arith, long, long_as)))
    (λ f. let bad : false ≡ true = ap (λ b. b || false) (sym f) ∙ last in cc))

begun_whose : (begun new : BTreeMap ℕ EditStart) (lists : List (List Replacement)) (front : List Replacement)
    (e : Replacement) (it : EditStart) → AreEditStarts begun (with_last lists front)
    → IsPut begun new (length lists) e it
    → (offset : ℕ) (b : EditStart) → get nat_cmp new offset ≡ Some b
    → (b.list < length (with_last lists (front ++ e ∷ [])))
    × (list_any (begins_at offset) (get_or (with_last lists (front ++ e ∷ [])) b.list []) ≡ true)
begun_whose begun new lists front e it h put offset b is =
    let more : length (with_last lists (front ++ e ∷ [])) ≡ length lists + 1 = many_with lists (front ++ e ∷ []) in
    let grown : list_any (begins_at offset) (front ++ e ∷ []) ≡ (list_any (begins_at offset) front
    || (begins_at offset e || false)) = list_any-append (begins_at offset) front (e ∷ []) in
    by_cases {C = (b.list < length (with_last lists (front ++ e ∷ [])))
    × (list_any (begins_at offset) (get_or (with_last lists (front ++ e ∷ [])) b.list []) ≡ true)}
    (eqb e.span.offset offset)
    (λ t. let same : e.span.offset ≡ offset = eqb-true e.span.offset offset t in
    let own : b ≡ it = same_Some b it (sym is ∙ ap (get nat_cmp new) (sym same) ∙ put.there) in
    let number : b.list ≡ length lists = ap (λ (c : EditStart). c.list) own ∙ put.number in (
      omega (arith, more, number),
      ap (list_any (begins_at offset)) (last_at lists (front ++ e ∷ []) b.list number) ∙ grown
          ∙ or_right (list_any (begins_at offset) front) (begins_at offset e || false)
          (or_left (begins_at offset e) false t),
    ))
    (λ f. let old = h.whose offset b (sym (put.others offset f) ∙ is) in
    let within : b.list < length lists + 1 = omega (arith, old.0, many_with lists front) in (
      omega (arith, more, within),
      by_cases {C = list_any (begins_at offset) (get_or (with_last lists (front ++ e ∷ [])) b.list []) ≡ true}
          (ltb b.list (length lists))
          (λ t. ap (list_any (begins_at offset))
          (before_stays lists (front ++ e ∷ []) front b.list (ltb-true b.list (length lists) t)) ∙ old.1)
          (λ g. let from = ltb-false b.list (length lists) g in
          let number : b.list ≡ length lists = omega (arith, from, within) in
          let was : list_any (begins_at offset) front ≡ true =
          ap (list_any (begins_at offset)) (sym (last_at lists front b.list number)) ∙ old.1 in
          ap (list_any (begins_at offset)) (last_at lists (front ++ e ∷ []) b.list number) ∙ grown
          ∙ or_left (list_any (begins_at offset) front) (begins_at offset e || false) was),
    ))

begun_more : (begun new : BTreeMap ℕ EditStart) (lists : List (List Replacement)) (front : List Replacement)
    (e : Replacement) (it : EditStart) → AreEditStarts begun (with_last lists front)
    → IsPut begun new (length lists) e it
    → AreEditStarts new (with_last lists (front ++ e ∷ []))
begun_more begun new lists front e it h put = record {
  one = begun_one begun new lists front e it h put;
  each = begun_each begun new lists front e it h put;
  whose = begun_whose begun new lists front e it h put;
}

not_at : (a b : ℕ) → eqb a b ≡ false → is_at (nat_cmp a) b ≡ false
not_at a b f =
    by_cases {C = is_at (nat_cmp a) b ≡ false} (ltb a b) (λ t. rw t refl) (λ g. rw (g, f) refl)

-- a loop's step: one more of the last list's edits
pub begun_step : (begun new : BTreeMap ℕ EditStart) (lists : List (List Replacement)) (edits : List Replacement)
    (i list at : ℕ) (e : Replacement) (it : EditStart) → AreEditStarts begun (with_last lists (take i edits))
    → list ≡ length lists → i < length edits → e ≡ get_or edits i e → at ≡ e.span.offset
    → (get nat_cmp begun e.span.offset ≡ None → it.len ≡ e.span.len)
    → ((old : EditStart) → get nat_cmp begun e.span.offset ≡ Some old → it.len ≡ max old.len e.span.len)
    → it.list ≡ list → Updates nat_cmp begun new at (Some it)
    → AreEditStarts new (with_last lists (take (i + 1) edits))
begun_step begun new lists edits i list at e it h number lt is place fresh again own updates =
    let next : take (i + 1) edits ≡ take i edits ++ e ∷ [] =
    take_more edits i e lt ∙ ap (λ (x : Replacement). take i edits ++ x ∷ []) (sym is) in
    let put : IsPut begun new (length lists) e it = record {
      fresh = fresh;
      again = again;
      number = own ∙ number;
      there = ap (λ (k : ℕ). get nat_cmp new k) (sym place) ∙ updates.1;
      others = λ q apart. updates.2 q (ap (λ (k : ℕ). is_at (nat_cmp k) q) place ∙ not_at e.span.offset q apart);
    } in
    subst (λ (es : List Replacement). AreEditStarts new (with_last lists es)) (sym next)
    (begun_more begun new lists (take i edits) e it h put)
