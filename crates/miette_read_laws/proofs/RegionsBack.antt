-- The lines and columns of stretches that we wrote are read as their offsets.
use Rattle.std.proofs.Common.{◌≡◌, ℕ, zero, suc, ◌<◌, ◌≤◌, Bool, true, false, cond, leb, ltb, List, [], ◌∷◌}
use Rattle.std.proofs.Common.{length, get_or, Some, None, refl, ap₂, arith, subst}
use Rattle.std.specs.Prelude.{slice_get}
use Rattle.std.specs.List.{AllByRecursion, Contains}
use Rattle.std.proofs.lemmas.Bool.{leb-false, leb-true}
use Rattle.miette_columns.specs.rules.Cells.{Character}
use Rattle.miette_protocol.specs.rules.Reading.{Span, is_in_bounds}
use Rattle.miette_positions.specs.declared.position.PositionEncoding.TheVariants.{Utf16}
use Rattle.miette_positions.specs.declared.position.Stop.{Stop}
use Rattle.miette_positions.specs.declared.position.Stretch.{Stretch}
use Rattle.miette_positions.specs.rules.Regions.{clamped_end, first_stop, last_stop, stop_after, stop_before, stretch}
use Rattle.miette_positions.specs.rules.Regions.{stretch_of}
use Rattle.miette_positions.specs.rules.Stops.{start, stops_from, stops_of, units}
use Rattle.miette_positions.proofs.Rising.{stops_rise}
use Rattle.miette_read.specs.rules.Rustc.{range_from_offsets}
use Rattle.miette_read_laws.specs.laws.RegionsBack.{IsIn, IsStop, lines_back, offset_back, offsets_of}
use Rattle.miette_read_laws.proofs.RegionsWalk.{Back, all_back}

-- ---- a stop

wide_by : (b : Bool) → 0 < cond b 1 2
wide_by true = omega arith
wide_by false = omega arith

wide : (c : Character) → 0 < units Utf16 c
wide c = wide_by (ltb c.code 0x10000)

each : (P : Stop → Type 0) (xs : List Stop) (k : ℕ) (x d : Stop) → AllByRecursion P xs → k < length xs
    → get_or xs k d ≡ x → P x
each P [] k x d all h is = absurd (omega (arith, h))
each P (y ∷ ys) zero x d all h is = subst P is all.0
each P (y ∷ ys) (suc k) x d all h is = each P ys k x d all.1 (omega (arith, h)) is

pub stop_back : (bytes : List ℕ) (s : Stop) → IsStop bytes s → offset_back bytes s ≡ Some s.offset
stop_back bytes s h =
    each (Back Utf16 bytes) (stops_of Utf16 bytes) h.0 s s (all_back Utf16 wide bytes) h.1 h.2

-- ---- what is found is a stop

abbrev Found : List Stop → Stop → Type 0
Found xs x = Contains xs x

one_more : (x y : Stop) (xs : List Stop) → Found xs x → Found (y ∷ xs) x
one_more x y xs h = (suc h.0, omega (arith, h.1), h.2)

found_by : (b : Bool) (xs : List Stop) (x y : Stop) → Found xs x → Found xs y → Found xs (cond b x y)
found_by true xs x y h g = h
found_by false xs x y h g = g

last_found : (test : Stop → Bool) (s : Stop) (ts : List Stop) → Found (s ∷ ts) (last_stop test s ts)
last_found test s [] = (0, omega arith, refl)
last_found test s (t ∷ ts) =
    found_by (test t) (s ∷ (t ∷ ts)) (last_stop test t ts) s
    (one_more (last_stop test t ts) s (t ∷ ts) (last_found test t ts)) (0, omega arith, refl)

first_found : (test : Stop → Bool) (s : Stop) (ts : List Stop) → Found (s ∷ ts) (first_stop test s ts)
first_found test s [] = (0, omega arith, refl)
first_found test s (t ∷ ts) =
    found_by (test s) (s ∷ (t ∷ ts)) s (first_stop test t ts) (0, omega arith, refl)
    (one_more (first_stop test t ts) s (t ∷ ts) (first_found test t ts))

pub before_is_stop : (bytes : List ℕ) (at : ℕ) → IsStop bytes (stop_before Utf16 bytes at)
before_is_stop bytes at = last_found (λ s. leb s.offset at) start (stops_from Utf16 bytes start)

pub after_is_stop : (bytes : List ℕ) (at : ℕ) → IsStop bytes (stop_after Utf16 bytes at)
after_is_stop bytes at = first_found (λ s. leb at s.offset) start (stops_from Utf16 bytes start)

-- ---- the order of two that are found

abbrev Rising : Stop → List Stop → Type 0
Rising s [] = true ≡ true
Rising s (t ∷ ts) = (s.offset < t.offset) × Rising t ts

rising_from : (s : Stop) (ts : List Stop)
    → ((i j : ℕ) (x y : Stop) → i < j → slice_get (s ∷ ts) i ≡ Some x → slice_get (s ∷ ts) j ≡ Some y
    → x.offset < y.offset) → Rising s ts
rising_from s [] h = refl
rising_from s (t ∷ ts) h = (
  h 0 1 s t (omega arith) refl refl,
  rising_from t ts (λ i j x y lt e g. h (suc i) (suc j) x y (omega (arith, lt)) e g),
)

later_first : (test : Stop → Bool) (at : ℕ) (s : Stop) (ts : List Stop) → at ≤ s.offset → Rising s ts
    → at ≤ (first_stop test s ts).offset
later_first test at s [] h r = h
later_first test at s (t ∷ ts) h r =
    by_test (test s) (later_first test at t ts (omega (arith, h, r.0)) r.1)
  where
    by_test : (b : Bool) → at ≤ (first_stop test t ts).offset → at ≤ (cond b s (first_stop test t ts)).offset
    by_test true g = h
    by_test false g = g

apart : (from to : ℕ) (s : Stop) (ts : List Stop) → from ≤ to → Rising s ts
    → (last_stop (λ x. leb x.offset from) s ts).offset ≤ (first_stop (λ x. leb to x.offset) s ts).offset
apart from to s [] le r = omega arith
apart from to s (t ∷ ts) le r =
    by_tests (leb t.offset from) (leb to s.offset) refl refl (apart from to t ts le r.1)
    (later_first (λ x. leb to x.offset) s.offset t ts (omega (arith, r.0)) r.1)
  where
    by_tests : (a b : Bool) → leb t.offset from ≡ a → leb to s.offset ≡ b
        → (last_stop (λ x. leb x.offset from) t ts).offset ≤ (first_stop (λ x. leb to x.offset) t ts).offset
        → s.offset ≤ (first_stop (λ x. leb to x.offset) t ts).offset
        → (cond a (last_stop (λ x. leb x.offset from) t ts) s).offset
        ≤ (cond b s (first_stop (λ x. leb to x.offset) t ts)).offset
    by_tests true true e f h g =
        absurd (omega (arith, leb-true t.offset from e, leb-true to s.offset f, le, r.0))
    by_tests true false e f h g = h
    by_tests false true e f h g = omega arith
    by_tests false false e f h g = g

pub ends_apart : (bytes : List ℕ) (from to : ℕ) → from ≤ to
    → (stop_before Utf16 bytes from).offset ≤ (stop_after Utf16 bytes to).offset
ends_apart bytes from to le =
    apart from to start (stops_from Utf16 bytes start) le
    (rising_from start (stops_from Utf16 bytes start)
    (λ i j x y lt e g. (stops_rise Utf16 bytes i j x y lt e g).offset))

-- ---- stretches

pub in_back : (bytes : List ℕ) (s : Stretch) → IsIn bytes s → lines_back bytes s ≡ Some (offsets_of s)
in_back bytes s h = ap₂ range_from_offsets (stop_back bytes s.start h.start) (stop_back bytes s.end h.end)

pub widened_in : (bytes : List ℕ) (from to : ℕ) → from ≤ to
    → IsIn bytes (record { start = stop_before Utf16 bytes from; end = stop_after Utf16 bytes to })
widened_in bytes from to le = record {
  start = before_is_stop bytes from;
  end = after_is_stop bytes to;
  order = ends_apart bytes from to le;
}

stretch_by : (b : Bool) (bytes : List ℕ) (from to : ℕ) → leb to from ≡ b
    → IsIn bytes (record {
      start = stop_before Utf16 bytes from;
      end = cond b (stop_before Utf16 bytes from) (stop_after Utf16 bytes to);
    })
stretch_by true bytes from to h = record {
  start = before_is_stop bytes from;
  end = before_is_stop bytes from;
  order = omega arith;
}
stretch_by false bytes from to h = widened_in bytes from to (omega (arith, leb-false to from h))

accepted_is : (b : Bool) (x s : Stretch) → cond b (Some x) None ≡ Some s → x ≡ s
accepted_is true x s e = cc
accepted_is false x s e = absurd (cc)

pub span_in : (bytes : List ℕ) (span : Span) (s : Stretch) → stretch_of Utf16 bytes span ≡ Some s → IsIn bytes s
span_in bytes span s e =
    subst (IsIn bytes) (accepted_is (is_in_bounds bytes span) (stretch Utf16 bytes span) s e)
    (stretch_by (leb (clamped_end bytes span) span.offset) bytes span.offset (clamped_end bytes span) refl)

pub span_back : (bytes : List ℕ) (span : Span) (s : Stretch) → stretch_of Utf16 bytes span ≡ Some s
    → lines_back bytes s ≡ Some (offsets_of s)
span_back bytes span s e = in_back bytes s (span_in bytes span s e)
