-- Whether edits are those of one of the fixes that count, by the fix that has an edit where the first one begins.
use Rattle.std.proofs.Common.{ℕ, zero, suc, ◌<◌, ◌≡◌, Bool, true, false, eqb, ltb, ◌||◌, List, [], ◌∷◌, refl, sym, ap}
use Rattle.std.proofs.Common.{◌∙◌, arith, Option, Some, None, length, get_or}
use Rattle.std.specs.Prelude.{slice_get}
use Rattle.std.specs.BTreeMap.{BTreeMap, get}
use Rattle.std.specs.Cmp.Lexicographic.{pointwise}
use Rattle.std.specs.List.{list_any}
use Rattle.std.specs.Ordering.{nat_cmp}
use Rattle.std.proofs.lemmas.Bool.{eq-eqb, eqb-true, ltb-false, ltb-true, or_left, or_right, true≢false}
use Rattle.std.proofs.lemmas.Option.{same_Some}
use Rattle.std.proofs.lemmas.List.Folds.{list_any-append}
use Rattle.miette_lines.proofs.Cases.{by_cases}
use Rattle.miette_fixes.specs.declared.edit_starts.EditStart.{EditStart}
use Rattle.miette_fixes.specs.laws.Conflicts.{NoTwoConflict}
use Rattle.miette_fixes.specs.rules.ApplyingAll.{all_edits, conflict, equals_some_fix, edit_lists, same_edit}
use Rattle.miette_fixes.specs.rules.ApplyingAll.{some_conflict}
use Rattle.miette_fixes.specs.rules.Edits.{FixModel, Replacement, overlap}
use Rattle.miette_fixes.specs.steps.EditStarts.{AreEditStarts, begins_at, begins_with}
use Rattle.miette_fixes.proofs.Apart.{edits_are, edits_themselves}
use Rattle.miette_fixes.proofs.Begun.{itself, same_bool}
use denote.Ref.{Bor}

-- ---- two lists with an edit at one offset conflict

one_begins : (offset : ℕ) (x : Replacement) (ys : List Replacement) → x.span.offset ≡ offset
    → list_any (begins_at offset) ys ≡ true → list_any (conflict x) ys ≡ true
one_begins offset x [] is h = let bad : false ≡ true = h in cc
one_begins offset x (y ∷ ys) is h =
    by_cases {C = list_any (conflict x) (y ∷ ys) ≡ true} (begins_at offset y)
    (λ t. or_left (conflict x y) (list_any (conflict x) ys)
    (or_left (eqb x.span.offset y.span.offset) (overlap x y)
    (eq-eqb x.span.offset y.span.offset (is ∙ sym (eqb-true y.span.offset offset t)))))
    (λ f. or_right (conflict x y) (list_any (conflict x) ys)
    (one_begins offset x ys is (sym (ap (λ b. b || list_any (begins_at offset) ys) f) ∙ h)))

both_begin : (offset : ℕ) (xs ys : List Replacement) → list_any (begins_at offset) xs ≡ true
    → list_any (begins_at offset) ys ≡ true → some_conflict xs ys ≡ true
both_begin offset [] ys h k = let bad : false ≡ true = h in cc
both_begin offset (x ∷ xs) ys h k =
    by_cases {C = some_conflict (x ∷ xs) ys ≡ true} (begins_at offset x)
    (λ t. or_left (list_any (conflict x) ys) (some_conflict xs ys)
    (one_begins offset x ys (eqb-true x.span.offset offset t) k))
    (λ f. or_right (list_any (conflict x) ys) (some_conflict xs ys)
    (both_begin offset xs ys (sym (ap (λ b. b || list_any (begins_at offset) xs) f) ∙ h) k))

-- ---- the edits of one of some lists

among_at : (edits : List Replacement) (lists : List (List Replacement)) → equals_some_fix edits lists ≡ true
    → (i : ℕ) × (i < length lists) × (get_or lists i [] ≡ edits)
among_at edits [] h = let bad : false ≡ true = h in cc
among_at edits (xs ∷ lists) h =
    by_cases {C = (i : ℕ) × (i < length (xs ∷ lists)) × (get_or (xs ∷ lists) i [] ≡ edits)}
    (pointwise same_edit edits xs)
    (λ t. (0, omega arith, sym (edits_are edits xs t)))
    (λ f. let more = among_at edits lists (sym (ap (λ b. b || equals_some_fix edits lists) f) ∙ h) in
    (suc more.0, omega (arith, more.1), more.2))

at_among : (edits : List Replacement) (lists : List (List Replacement)) (i : ℕ) → i < length lists
    → pointwise same_edit edits (get_or lists i []) ≡ true → equals_some_fix edits lists ≡ true
at_among edits [] i lt h = absurd (omega (arith, lt))
at_among edits (xs ∷ lists) zero lt h = or_left (pointwise same_edit edits xs) (equals_some_fix edits lists) h
at_among edits (xs ∷ lists) (suc i) lt h =
    or_right (pointwise same_edit edits xs) (equals_some_fix edits lists) (at_among edits lists i (omega (arith, lt)) h)

all_have : (p : Replacement → Bool) (lists : List (List Replacement)) (i : ℕ) → i < length lists
    → list_any p (get_or lists i []) ≡ true → list_any p (all_edits lists) ≡ true
all_have p [] i lt h = absurd (omega (arith, lt))
all_have p (xs ∷ lists) zero lt h =
    list_any-append p xs (all_edits lists) ∙ or_left (list_any p xs) (list_any p (all_edits lists)) h
all_have p (xs ∷ lists) (suc i) lt h =
    list_any-append p xs (all_edits lists)
    ∙ or_right (list_any p xs) (list_any p (all_edits lists)) (all_have p lists i (omega (arith, lt)) h)

-- ---- by the first edit

first_has : (p : Replacement → Bool) (edits : List Replacement) (e : Replacement) → slice_get edits 0 ≡ Some e
    → p e ≡ true → list_any p edits ≡ true
first_has p [] e first h = let bad : None ≡ Some e = first in cc
first_has p (x ∷ xs) e first h = or_left (p x) (list_any p xs) (ap p (same_Some x e first) ∙ h)

-- where none that counts begins where the first edit does, none has these edits
pub not_among : (begun : BTreeMap ℕ EditStart) (lists : List (List Replacement)) (edits : List Replacement)
    (e : Replacement) → AreEditStarts begun lists → slice_get edits 0 ≡ Some e → get nat_cmp begun e.span.offset ≡ None
    → equals_some_fix edits lists ≡ false
not_among begun lists edits e h first none =
    by_cases {C = equals_some_fix edits lists ≡ false} (equals_some_fix edits lists)
    (λ t. let place = among_at edits lists t in
    let there : list_any (begins_with e.span.offset e.span.len) (all_edits lists) ≡ true =
    all_have (begins_with e.span.offset e.span.len) lists place.0 place.1
    (ap (list_any (begins_with e.span.offset e.span.len)) place.2
    ∙ first_has (begins_with e.span.offset e.span.len) edits e first (itself e)) in
    let own = h.each e.span.offset e.span.len there in
    let bad : None ≡ Some own.0 = sym none ∙ own.1 in cc)
    (λ f. f)

-- of fixes that don't conflict one alone has an edit there
only_one : (lists : List (List Replacement)) (offset i j : ℕ) → NoTwoConflict lists → i < length lists
    → j < length lists → list_any (begins_at offset) (get_or lists i []) ≡ true
    → list_any (begins_at offset) (get_or lists j []) ≡ true → i ≡ j
only_one lists offset i j free within also h k =
    by_cases {C = i ≡ j} (ltb i j)
    (λ t. let bad : true ≡ false = sym (both_begin offset (get_or lists i []) (get_or lists j []) h k)
    ∙ free i j (ltb-true i j t) also in absurd (true≢false bad))
    (λ f. by_cases {C = i ≡ j} (ltb j i)
    (λ t. let bad : true ≡ false = sym (both_begin offset (get_or lists j []) (get_or lists i []) k h)
    ∙ free j i (ltb-true j i t) within in absurd (true≢false bad))
    (λ g. let low = ltb-false i j f in let high = ltb-false j i g in omega (arith, low, high)))

pub among_is : (begun : BTreeMap ℕ EditStart) (lists : List (List Replacement)) (edits : List Replacement)
    (e : Replacement) (it : EditStart) → AreEditStarts begun lists → NoTwoConflict lists → slice_get edits 0 ≡ Some e
    → get nat_cmp begun e.span.offset ≡ Some it
    → pointwise same_edit edits (get_or lists it.list []) ≡ equals_some_fix edits lists
among_is begun lists edits e it h free first kept =
    let own = h.whose e.span.offset it kept in
    same_bool (pointwise same_edit edits (get_or lists it.list [])) (equals_some_fix edits lists)
    (λ same. at_among edits lists it.list own.0 same)
    (λ some. let place = among_at edits lists some in
    let mine : list_any (begins_at e.span.offset) (get_or lists place.0 []) ≡ true =
    ap (list_any (begins_at e.span.offset)) place.2
    ∙ first_has (begins_at e.span.offset) edits e first (eq-eqb e.span.offset e.span.offset refl) in
    let one : it.list ≡ place.0 =
    only_one lists e.span.offset it.list place.0 free own.0 place.1 own.1 mine in
    ap (pointwise same_edit edits) (ap (λ (k : ℕ). get_or lists k []) one ∙ place.2) ∙ edits_themselves edits)

-- the fix of a number
pub fix_at : (fixes : List (Bor FixModel)) (i : ℕ) (fix : Bor FixModel) → i < length fixes
    → fix ≡ get_or fixes i fix → get_or (edit_lists fixes) i [] ≡ fix.now.edits
fix_at [] i fix lt h = absurd (omega (arith, lt))
fix_at (x ∷ fixes) zero fix lt h = ap (λ (f : Bor FixModel). f.now.edits) (sym h)
fix_at (x ∷ fixes) (suc i) fix lt h = fix_at fixes i fix (omega (arith, lt)) h
