-- Walks over stops of printable ASCII characters.
use Rattle.std.proofs.Common.{ℕ, zero, suc, ◌+◌, ◌<◌, ◌≤◌, ◌≡◌, Bool, true, false, cond, eqb, ◌&&◌, List, [], ◌∷◌}
use Rattle.std.proofs.Common.{length, drop, take, refl, sym, ap, ap₂, ◌∙◌, arith, subst}
use Rattle.std.specs.List.{list_all}
use Rattle.std.proofs.lemmas.Bool.{and_parts, lt-ltb, ne_eqb}
use Rattle.std.proofs.lemmas.List.{drop-drop, length-drop}
use Rattle.bstr.specs.Utf8.{or_replacement}
use Rattle.miette_columns.specs.rules.Cells.{characters}
use Rattle.miette_columns.specs.views.Printable.{is_printable}
use Rattle.miette_columns.proofs.Plaining.{ascii_decoded, plain_byte}
use Rattle.miette_columns.proofs.Stepping.{IsFirst, made}
use Rattle.miette_positions.specs.declared.position.PositionEncoding.{PositionEncoding}
use Rattle.miette_positions.specs.declared.position.PositionEncoding.TheVariants.{Utf8, Utf16, Utf32}
use Rattle.miette_positions.specs.declared.position.Stop.{Stop}
use Rattle.miette_positions.specs.rules.Regions.{first_stop, last_stop}
use Rattle.miette_positions.specs.rules.Stops.{begins_with_lf, stop_past, stops_from, units}
use Rattle.miette_positions.specs.steps.Samples.{IsSample, IsWithin}
use Rattle.miette_positions.specs.steps.Onward.{IsOnward, onward}
use Rattle.miette_positions.proofs.Finding.{first_on, last_on, mark_on}
use Rattle.miette_positions.proofs.Stepping.{Later, later_one, stops_one, within_one}

-- ---- the stop after one of them

units_one : (e : PositionEncoding) (b : ℕ) → b < 127 → units e (made b 1) ≡ 1
units_one Utf8 b h = refl
units_one Utf16 b h = rw (lt-ltb b 0x10000 (omega (arith, h))) refl
units_one Utf32 b h = refl

after_one : (e : PositionEncoding) (s : Stop) (b : ℕ) → 32 ≤ b → b < 127 → stop_past e s (made b 1) ≡ onward 1 s
after_one e s b lo hi =
    rw (ne_eqb b 10 (omega (arith, lo)), ne_eqb b 13 (omega (arith, lo)), units_one e b hi) refl

no_pair : (b : ℕ) (bs : List ℕ) → 32 ≤ b → (eqb b 13 && begins_with_lf (characters bs)) ≡ false
no_pair b bs lo = rw (ne_eqb b 13 (omega (arith, lo))) refl

-- a walk from a stop, of whose next characters the first is printable and so are others
record Starts (e : PositionEncoding) (source : List ℕ) (n : ℕ) (s : Stop) : Type 0 where
  next : stops_from e source s ≡ onward 1 s ∷ stops_from e source (onward 1 s)
  later : Later s (onward 1 s)
  within : IsWithin source s → IsWithin source (onward 1 s)
  others : list_all is_printable (take n (drop (s.offset + 1) source)) ≡ true

starts_with : (e : PositionEncoding) (source bytes : List ℕ) (n : ℕ) (s : Stop) → bytes ≡ drop s.offset source →
    suc n ≤ length bytes → s.offset + 1 ≤ length source → list_all is_printable (take (suc n) bytes) ≡ true →
    Starts e source n s
starts_with e source [] n s r le within h = absurd (omega (arith, le))
starts_with e source (b ∷ bs) n s r le within h =
    let parts = and_parts (is_printable b) (list_all is_printable (take n bs)) h in
    let p = plain_byte b parts.0 in
    let is = ascii_decoded b bs (omega (arith, p.high)) in
    let first : IsFirst (b ∷ bs) bs b 1 = record {
      some = omega arith;
      left_is = refl;
      code_is = sym (ap (λ d. or_replacement d.char) is);
      size_is = sym (ap (λ d. d.size) is);
    } in
    let left : bs ≡ drop (s.offset + 1) source = ap (drop 1) r ∙ drop-drop 1 s.offset source in
    let after : stop_past e s (made b 1) ≡ onward 1 s = after_one e s b p.low p.high in
    record {
      next = stops_one e source (b ∷ bs) bs s b 1 r left first (no_pair b bs p.low)
          ∙ ap (λ (t : Stop). t ∷ stops_from e source t) after;
      later = subst (Later s) after (later_one e s (made b 1) (omega arith));
      within = λ w. subst (IsWithin source) after (within_one e source s (made b 1) (omega arith) within w);
      others = ap (λ l. list_all is_printable (take n l)) (sym left) ∙ parts.1;
    }

starts : (e : PositionEncoding) (source : List ℕ) (n : ℕ) (s : Stop) → s.offset + suc n ≤ length source →
    list_all is_printable (take (suc n) (drop s.offset source)) ≡ true → Starts e source n s
starts e source n s le h =
    starts_with e source (drop s.offset source) n s refl (omega (arith, le, length-drop s.offset source))
    (omega (arith, le)) h

-- ---- the stop after many

abbrev stop_on : ℕ → ℕ → ℕ → Stop
stop_on line offset column = record { offset = offset; position = record { line = line; column = column } }

onward_none : (s : Stop) → s ≡ onward 0 s
onward_none s =
    let offset : s.offset ≡ s.offset + 0 = omega arith in
    let column : s.position.column ≡ s.position.column + 0 = omega arith in
    ap₂ (stop_on s.position.line) offset column

onward_more : (n : ℕ) (s : Stop) → onward n (onward 1 s) ≡ onward (suc n) s
onward_more n s =
    let offset : s.offset + 1 + n ≡ s.offset + suc n = omega arith in
    let column : s.position.column + 1 + n ≡ s.position.column + suc n = omega arith in
    ap₂ (stop_on s.position.line) offset column

mark_many : (e : PositionEncoding) (source : List ℕ) (n : ℕ) (s : Stop) → s.offset + n ≤ length source →
    list_all is_printable (take n (drop s.offset source)) ≡ true → IsSample e source s → IsSample e source (onward n s)
mark_many e source zero s le h m = subst (IsSample e source) (onward_none s) m
mark_many e source (suc n) s le h m =
    let it = starts e source n s le h in
    subst (IsSample e source) (onward_more n s)
    (mark_many e source n (onward 1 s) (omega (arith, le)) it.others
    (mark_on e source s (onward 1 s) m it.next (it.within m.within) it.later))

last_many : (e : PositionEncoding) (source : List ℕ) (test : Stop → Bool) (n : ℕ) (s : Stop) →
    s.offset + n ≤ length source → list_all is_printable (take n (drop s.offset source)) ≡ true →
    ((k : ℕ) → k ≤ n → test (onward k s) ≡ true) → last_stop test s (stops_from e source s)
    ≡ last_stop test (onward n s) (stops_from e source (onward n s))
last_many e source test zero s le h each =
    ap (λ (t : Stop). last_stop test t (stops_from e source t)) (onward_none s)
last_many e source test (suc n) s le h each =
    let it = starts e source n s le h in
    last_on test s (onward 1 s) (stops_from e source s) (stops_from e source (onward 1 s)) it.next
    (each 1 (omega arith))
    ∙ last_many e source test n (onward 1 s) (omega (arith, le)) it.others
    (λ k few. ap test (onward_more k s) ∙ each (suc k) (omega (arith, few)))
    ∙ ap (λ (t : Stop). last_stop test t (stops_from e source t)) (onward_more n s)

first_many : (e : PositionEncoding) (source : List ℕ) (test : Stop → Bool) (n : ℕ) (s : Stop) →
    s.offset + n ≤ length source → list_all is_printable (take n (drop s.offset source)) ≡ true →
    ((k : ℕ) → k < n → test (onward k s) ≡ false) → first_stop test s (stops_from e source s)
    ≡ first_stop test (onward n s) (stops_from e source (onward n s))
first_many e source test zero s le h each =
    ap (λ (t : Stop). first_stop test t (stops_from e source t)) (onward_none s)
first_many e source test (suc n) s le h each =
    let it = starts e source n s le h in
    first_on test s (onward 1 s) (stops_from e source s) (stops_from e source (onward 1 s)) it.next
    (ap test (onward_none s) ∙ each 0 (omega arith))
    ∙ first_many e source test n (onward 1 s) (omega (arith, le)) it.others
    (λ k few. ap test (onward_more k s) ∙ each (suc k) (omega (arith, few)))
    ∙ ap (λ (t : Stop). first_stop test t (stops_from e source t)) (onward_more n s)

-- ---- walks

-- a walk from after them finds what one from before them does
pub mark_after : (e : PositionEncoding) (source : List ℕ) (most : ℕ) (m s t : Stop) → IsSample e source m →
    stops_from e source m ≡ s ∷ stops_from e source s → IsWithin source s → Later m s → IsOnward source most s t →
    IsSample e source t
mark_after e source most m s t mark next within later p =
    subst (IsSample e source) (sym p.is)
    (mark_many e source p.many s p.within p.printable (mark_on e source m s mark next within later))

pub last_passed : (e : PositionEncoding) (source : List ℕ) (test : Stop → Bool) (most : ℕ) (s t : Stop) →
    IsOnward source most s t → ((k : ℕ) → k ≤ most → test (onward k s) ≡ true) →
    last_stop test s (stops_from e source s) ≡ last_stop test t (stops_from e source t)
last_passed e source test most s t p each =
    let few : p.many ≤ most = p.few in
    last_many e source test p.many s p.within p.printable (λ k le. each k (omega (arith, le, few)))
    ∙ ap (λ (x : Stop). last_stop test x (stops_from e source x)) (sym p.is)

pub first_passed : (e : PositionEncoding) (source : List ℕ) (test : Stop → Bool) (most : ℕ) (s t : Stop) →
    IsOnward source most s t → ((k : ℕ) → k < most → test (onward k s) ≡ false) →
    first_stop test s (stops_from e source s) ≡ first_stop test t (stops_from e source t)
first_passed e source test most s t p each =
    let few : p.many ≤ most = p.few in
    first_many e source test p.many s p.within p.printable (λ k le. each k (omega (arith, le, few)))
    ∙ ap (λ (x : Stop). first_stop test x (stops_from e source x)) (sym p.is)
