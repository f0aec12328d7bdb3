-- Fixes of one edit each, one after another: all are taken, and the text after them is made from front to back.
use Rattle.std.proofs.Common.{◌≡◌, ℕ, ◌+◌, ◌-◌, ◌<◌, ◌≤◌, max, Bool, true, false, cond, eqb, ltb, ◌&&◌, ◌||◌, List}
use Rattle.std.proofs.Common.{[], ◌∷◌, ◌++◌, length, take, drop, map, refl, sym, ap, ◌∙◌, arith, subst, append_assoc}
use Rattle.std.proofs.Common.{append-nil}
use Rattle.std.specs.Prelude.{slice_range}
use Rattle.std.specs.List.{AllByRecursion, list_any}
use Rattle.std.proofs.lemmas.Bool.{le-ltb, lt-ltb, ne_eqb, or_from, or_left}
use Rattle.std.proofs.lemmas.Grind.{flat_map-append}
use Rattle.std.proofs.lemmas.List.{drop-drop, take-append-drop, take-take, drop-take}
use Rattle.std.proofs.lemmas.List.Folds.{drop_split}
use Rattle.miette_fixes.specs.rules.Applying.{by_offset, put_edit, text_from}
use Rattle.miette_fixes.specs.rules.ApplyingAll.{all_applied, all_edits, conflict, counted, counted_with, counts}
use Rattle.miette_fixes.specs.rules.ApplyingAll.{equals_some_fix, is_taken, taken}
use Rattle.miette_fixes.specs.rules.Edits.{FixModel, Replacement, end_of, ends_after, is_after, overlap}
use Rattle.miette_lint.specs.rules.Fixes.{proposal}

-- the edits of each fix, and all of them
abbrev pub lists_in : List FixModel → List (List Replacement)
lists_in fixes = map (λ (fix : FixModel). fix.edits) fixes

abbrev pub edits_in : List FixModel → List Replacement
edits_in fixes = all_edits (lists_in fixes)

-- after an edit, where the next one may begin
abbrev pub next_at : Replacement → ℕ
next_at edit = max (end_of edit) (edit.span.offset + 1)

-- a fix has one edit, which begins at `low` or later, in a source of `n` bytes
pub record LiesAt (n low : ℕ) (edits : List Replacement) (edit : Replacement) : Type 0 where
  pub one : edits ≡ edit ∷ []
  pub from : low ≤ edit.span.offset
  pub within : end_of edit ≤ n

abbrev pub AreApart : ℕ → ℕ → List FixModel → Type 0
AreApart n low [] = Unit {0}
AreApart n low (fix ∷ fixes) =
    (edit : Replacement) × LiesAt n low fix.edits edit × AreApart n (next_at edit) fixes

-- ---- which count

-- edits before a place
abbrev LiesBelow : ℕ → Replacement → Type 0
LiesBelow low x = (x.span.offset < low) × (end_of x ≤ low)

free_of_one : (e x : Replacement) → x.span.offset < e.span.offset → end_of x ≤ e.span.offset → conflict e x ≡ false
free_of_one e x lt le =
    let apart : eqb e.span.offset x.span.offset ≡ false =
    ne_eqb e.span.offset x.span.offset (λ same. omega (arith, lt, same)) in
    let after : is_after e x ≡ true = or_left (ltb x.span.offset e.span.offset)
    (eqb x.span.offset e.span.offset && ltb x.span.len e.span.len) (lt-ltb x.span.offset e.span.offset lt) in
    let free : overlap e x ≡ false = rw after (le-ltb e.span.offset (end_of x) le) in
    or_from (eqb e.span.offset x.span.offset) (overlap e x) apart free

free_of_all : (low : ℕ) (e : Replacement) (others : List Replacement) → low ≤ e.span.offset
    → AllByRecursion (LiesBelow low) others → list_any (conflict e) others ≡ false
free_of_all low e [] le h = refl
free_of_all low e (x ∷ xs) le h =
    let lt : x.span.offset < low = h.0.0 in
    let end : end_of x ≤ low = h.0.1 in
    or_from (conflict e x) (list_any (conflict e) xs)
    (free_of_one e x (omega (arith, lt, le)) (omega (arith, end, le))) (free_of_all low e xs le h.1)

one_counts : (n low : ℕ) (e : Replacement) (others : List Replacement) → low ≤ e.span.offset → end_of e ≤ n
    → AllByRecursion (LiesBelow low) others → counts n others (e ∷ []) ≡ true
one_counts n low e others le within h =
    let inside : ends_after n e ≡ false = le-ltb n (end_of e) within in
    let free : list_any (conflict e) others ≡ false = free_of_all low e others le h in
    rw (inside, free) refl

below_more : (low : ℕ) (e : Replacement) (others : List Replacement) → low ≤ e.span.offset
    → AllByRecursion (LiesBelow low) others → AllByRecursion (LiesBelow (next_at e)) (others ++ e ∷ [])
below_more low e [] le h = ((omega arith, omega arith), tt)
below_more low e (x ∷ xs) le h =
    let lt : x.span.offset < low = h.0.0 in
    let end : end_of x ≤ low = h.0.1 in
    ((omega (arith, lt, le), omega (arith, end, le)), below_more low e xs le h.1)

all_more : (before : List (List Replacement)) (e : Replacement) → all_edits (before ++ (e ∷ []) ∷ [])
    ≡ all_edits before ++ e ∷ []
all_more before e = flat_map-append (λ (edits : List Replacement). edits) before ((e ∷ []) ∷ [])

-- an edit after others counts, and then lies before the next one
record CountsFirst (n : ℕ) (e : Replacement) (before : List (List Replacement)) : Type 0 where
  yes : counts n (all_edits before) (e ∷ []) ≡ true
  next : counted_with n before (e ∷ []) ≡ before ++ (e ∷ []) ∷ []
  below : AllByRecursion (LiesBelow (next_at e)) (all_edits (before ++ (e ∷ []) ∷ []))

counts_first : (n low : ℕ) (e : Replacement) (before : List (List Replacement)) → low ≤ e.span.offset → end_of e ≤ n
    → AllByRecursion (LiesBelow low) (all_edits before) → CountsFirst n e before
counts_first n low e before from within h =
    let yes : counts n (all_edits before) (e ∷ []) ≡ true = one_counts n low e (all_edits before) from within h in
    let more : List (List Replacement) = before ++ (e ∷ []) ∷ [] in
    record {
      yes = yes;
      next = ap (λ b. cond b more before) yes;
      below = subst (AllByRecursion (LiesBelow (next_at e))) (sym (all_more before e))
          (below_more low e (all_edits before) from h);
    }

pub all_count : (n low : ℕ) (before : List (List Replacement)) (fixes : List FixModel)
    → AllByRecursion (LiesBelow low) (all_edits before) → AreApart n low fixes
    → counted n before (lists_in fixes) ≡ before ++ lists_in fixes
all_count n low before [] h apart = sym (append-nil before)
all_count n low before (fix ∷ fixes) h apart =
    let e : Replacement = apart.0 in
    let one : fix.edits ≡ e ∷ [] = apart.1.one in
    let first = counts_first n low e before apart.1.from apart.1.within h in
    ap (λ es. counted n (counted_with n before es) (lists_in fixes)) one
    ∙ ap (λ b. counted n b (lists_in fixes)) first.next
    ∙ all_count n (next_at e) (before ++ (e ∷ []) ∷ []) fixes first.below apart.2
    ∙ append_assoc before ((e ∷ []) ∷ []) (lists_in fixes)
    ∙ ap (λ es. before ++ es ∷ lists_in fixes) (sym one)

-- and so all are taken
pub all_are_taken : (n low : ℕ) (before : List (List Replacement)) (fixes : List FixModel)
    → AllByRecursion (LiesBelow low) (all_edits before) → AreApart n low fixes
    → taken n before (lists_in fixes) ≡ map (λ (fix : FixModel). true) fixes
all_are_taken n low before [] h apart = refl
all_are_taken n low before (fix ∷ fixes) h apart =
    let e : Replacement = apart.0 in
    let one : fix.edits ≡ e ∷ [] = apart.1.one in
    let first = counts_first n low e before apart.1.from apart.1.within h in
    ap (λ es. is_taken n before es ∷ taken n (counted_with n before es) (lists_in fixes)) one
    ∙ ap (λ b. (b || equals_some_fix (e ∷ []) before) ∷ taken n (counted_with n before (e ∷ [])) (lists_in fixes))
    first.yes
    ∙ ap (λ bs. true ∷ taken n bs (lists_in fixes)) first.next
    ∙ ap (λ (ts : List Bool). true ∷ ts)
    (all_are_taken n (next_at e) (before ++ (e ∷ []) ∷ []) fixes first.below apart.2)

-- ---- in which order

put_first : (n low : ℕ) (e : Replacement) (fixes : List FixModel) → next_at e ≤ low → AreApart n low fixes
    → put_edit e (edits_in fixes) ≡ e ∷ edits_in fixes
put_first n low e [] le apart = refl
put_first n low e (fix ∷ fixes) le apart =
    let x : Replacement = apart.0 in
    let one : fix.edits ≡ x ∷ [] = apart.1.one in
    let from : low ≤ x.span.offset = apart.1.from in
    let first : is_after e x ≡ false =
    or_from (ltb x.span.offset e.span.offset) (eqb x.span.offset e.span.offset && ltb x.span.len e.span.len)
    (le-ltb x.span.offset e.span.offset (omega (arith, from, le)))
    (ap (λ b. b && ltb x.span.len e.span.len)
    (ne_eqb x.span.offset e.span.offset (λ same. omega (arith, from, le, same)))) in
    let put : put_edit e (x ∷ edits_in fixes) ≡ e ∷ x ∷ edits_in fixes =
    ap (λ b. cond b (x ∷ put_edit e (edits_in fixes)) (e ∷ x ∷ edits_in fixes)) first in
    ap (λ es. put_edit e (es ++ edits_in fixes)) one ∙ put ∙ ap (λ es. e ∷ (es ++ edits_in fixes)) (sym one)

pub in_order : (n low : ℕ) (fixes : List FixModel) → AreApart n low fixes → by_offset (edits_in fixes) ≡ edits_in fixes
in_order n low [] apart = refl
in_order n low (fix ∷ fixes) apart =
    let e : Replacement = apart.0 in
    let one : fix.edits ≡ e ∷ [] = apart.1.one in
    ap (λ es. by_offset (es ++ edits_in fixes)) one
    ∙ ap (put_edit e) (in_order n (next_at e) fixes apart.2)
    ∙ put_first n (next_at e) e fixes (omega arith) apart.2
    ∙ ap (λ es. es ++ edits_in fixes) (sym one)

-- ---- the text

pub applied_apart : (source : List ℕ) (fixes : List FixModel) → AreApart (length source) 0 fixes
    → all_applied source (lists_in fixes) ≡ text_from source 0 (edits_in fixes)
applied_apart source fixes apart =
    ap (λ ls. text_from source 0 (by_offset (all_edits ls))) (all_count (length source) 0 [] fixes tt apart)
    ∙ ap (text_from source 0) (in_order (length source) 0 fixes apart)

-- what begins further on begins here too
pub earlier : (n low high : ℕ) (fixes : List FixModel) → low ≤ high → AreApart n high fixes → AreApart n low fixes
earlier n low high [] le apart = tt
earlier n low high (fix ∷ fixes) le apart = (
  apart.0,
  record {
    one = apart.1.one;
    from = let from : high ≤ apart.0.span.offset = apart.1.from in omega (arith, from, le);
    within = apart.1.within;
  },
  apart.2,
)

-- parts of a text
pub parts_join : (source : List ℕ) (a b c : ℕ) → a ≤ b → b ≤ c
    → slice_range source a b ++ slice_range source b c ≡ slice_range source a c
parts_join source a b c le more =
    let m : ℕ = b - a in
    let k : ℕ = c - b in
    let rest : List ℕ = drop a source in
    let sum : c - a ≡ m + k = omega (arith, le, more) in
    let at : a + m ≡ b = omega (arith, le) in
    let front : take m (take (m + k) rest) ≡ take m rest = take-take m (m + k) rest (omega arith) in
    let back : drop m (take (m + k) rest) ≡ take k (drop b source) =
    drop-take m k rest ∙ ap (take k) (drop-drop m a source ∙ ap (λ n. drop n source) at) in
    ap (λ xs. xs ++ take k (drop b source)) (sym front) ∙ ap (λ xs. take m (take (m + k) rest) ++ xs) (sym back)
    ∙ take-append-drop m (take (m + k) rest) ∙ ap (λ n. take n rest) (sym sum)

-- up to where the first edit may begin the text is the source's
pub goes_on : (source : List ℕ) (n a c : ℕ) (fixes : List FixModel) → a ≤ c → AreApart n c fixes
    → text_from source a (edits_in fixes) ≡ slice_range source a c ++ text_from source c (edits_in fixes)
goes_on source n a c [] le apart = drop_split source a c le
goes_on source n a c (fix ∷ fixes) le apart =
    let e : Replacement = apart.0 in
    let one : fix.edits ≡ e ∷ [] = apart.1.one in
    let later : List ℕ = text_from source (end_of e) (edits_in fixes) in
    let front : List ℕ = slice_range source c e.span.offset in
    ap (λ es. text_from source a (es ++ edits_in fixes)) one
    ∙ append_assoc (slice_range source a e.span.offset) e.text later
    ∙ ap (λ xs. xs ++ (e.text ++ later)) (sym (parts_join source a c e.span.offset le apart.1.from))
    ∙ append_assoc (slice_range source a c) front (e.text ++ later)
    ∙ ap (λ xs. slice_range source a c ++ xs) (sym (append_assoc front e.text later))
    ∙ ap (λ es. slice_range source a c ++ text_from source c (es ++ edits_in fixes)) (sym one)

-- ---- a fix that is there or not

abbrev pub unless : Bool → List ℕ → ℕ → ℕ → List ℕ → List FixModel
unless none message offset len text = cond none [] (proposal message offset len text ∷ [])

pub apart_unless : (n low high : ℕ) (none : Bool) (message : List ℕ) (offset len : ℕ) (text : List ℕ)
    (fixes : List FixModel) → low ≤ offset → offset + len ≤ high → offset + len ≤ n
    → (none ≡ false → offset < high) → AreApart n high fixes
    → AreApart n low (unless none message offset len text ++ fixes)
apart_unless n low high true message offset len text fixes from to within some apart =
    earlier n low high fixes (omega (arith, from, to)) apart
apart_unless n low high false message offset len text fixes from to within some apart =
    let lt : offset < high = some refl in (
      record { span = record { offset = offset; len = len }; text = text },
      record { one = refl; from = from; within = within },
      earlier n (max (offset + len) (offset + 1)) high fixes (omega (arith, lt, to)) apart,
    )

pub nothing_there : (source : List ℕ) (at : ℕ) → slice_range source at at ≡ []
nothing_there source at = let z : at - at ≡ 0 = omega arith in ap (λ n. take n (drop at source)) z

pub text_unless : (source : List ℕ) (n : ℕ) (none : Bool) (message : List ℕ) (offset len : ℕ) (text : List ℕ)
    (fixes : List FixModel) → AreApart n (offset + len) fixes
    → text_from source offset (edits_in (unless none message offset len text ++ fixes))
    ≡ cond none (slice_range source offset (offset + len)) text ++ text_from source (offset + len) (edits_in fixes)
text_unless source n true message offset len text fixes apart =
    goes_on source n offset (offset + len) fixes (omega arith) apart
text_unless source n false message offset len text fixes apart =
    ap (λ xs. (xs ++ text) ++ text_from source (offset + len) (edits_in fixes)) (nothing_there source offset)
