-- From one stop to the next.
use Rattle.std.proofs.Common.{ℕ, ◌+◌, ◌*◌, ◌<◌, ◌≤◌, ◌≡◌, Bool, true, false, cond, eqb, ltb, leb, ◌&&◌, ◌||◌, List}
use Rattle.std.proofs.Common.{[], ◌∷◌}
use Rattle.std.proofs.Common.{length, drop, refl, sym, ap, ◌∙◌, arith, subst}
use Rattle.std.proofs.lemmas.Bool.Decides.{nat_tests}
use Rattle.std.proofs.lemmas.Bool.{and_parts, eqb-true}
use Rattle.std.proofs.lemmas.List.{drop-drop}
use Rattle.bstr.specs.Utf8.{decoded, or_replacement}
use Rattle.miette_columns.specs.rules.Cells.{Character, characters}
use Rattle.miette_columns.proofs.Stepping.{IsFirst, characters_end, characters_step, made}
use Rattle.miette_positions.specs.declared.position.Position.{Position}
use Rattle.miette_positions.specs.declared.position.PositionEncoding.{PositionEncoding}
use Rattle.miette_positions.specs.declared.position.PositionEncoding.TheVariants.{Utf8, Utf16, Utf32}
use Rattle.miette_positions.specs.declared.position.Stop.{Stop}
use Rattle.miette_positions.specs.rules.Stops.{begins_with_lf, is_newline, is_until, moved_by, position_after}
use Rattle.miette_positions.specs.rules.Stops.{stop_past, stops_after, stops_from, units}
use Rattle.miette_positions.specs.steps.Samples.{IsWithin}

-- ---- an LF in front

pub no_lf : (bytes : List ℕ) → bytes ≡ [] → false ≡ begins_with_lf (characters bytes)
no_lf bytes e = sym (ap begins_with_lf (characters_end bytes e))

pub lf_first : (bytes left : List ℕ) (code size : ℕ) → IsFirst bytes left code size →
    eqb code 10 ≡ begins_with_lf (characters bytes)
lf_first bytes left code size f = sym (ap begins_with_lf (characters_step bytes left code size f))

pub lf_some : (bytes : List ℕ) → begins_with_lf (characters bytes) ≡ true → 0 < length bytes
lf_some [] h = absurd (differ (no_lf [] refl ∙ h))
  where
    differ : false ≡ true → ⊥
    differ e = cc
lf_some (b ∷ bs) h = omega arith

-- ---- units

units_in : (b : Bool) → (0 < cond b 1 2) × (cond b 1 2 ≤ 2)
units_in true = (omega arith, omega arith)
units_in false = (omega arith, omega arith)

pub units_bounds : (e : PositionEncoding) (c : Character) → 0 < c.bytes → (0 < units e c) × (units e c ≤ 2 * c.bytes)
units_bounds Utf8 c h = (h, omega arith)
units_bounds Utf16 c h = let b = units_in (ltb c.code 0x10000) in (b.0, omega (arith, h, b.1))
units_bounds Utf32 c h = (omega arith, omega (arith, h))

-- ---- the stop after a character

-- a stop stands after another one, and so does its position
pub record Later (s t : Stop) : Type 0 where
  pub offset : s.offset < t.offset
  pub position : is_until t.position s.position ≡ false

later_position : (b : Bool) (line column many : ℕ) (p : Position) → 0 < many →
    p ≡ (cond b (record { line = line + 1; column = 0 }) (record { line = line; column = column + many })) →
    is_until p (record { line = line; column = column }) ≡ false
later_position true line column many p h e =
    subst (λ q. is_until q (record { line = line; column = column }) ≡ false) (sym e) (grind (arith, nat_tests))
later_position false line column many p h e =
    subst (λ q. is_until q (record { line = line; column = column }) ≡ false) (sym e) (grind (arith, nat_tests))

pub later_one : (e : PositionEncoding) (s : Stop) (c : Character) → 0 < c.bytes → Later s (stop_past e s c)
later_one e s c h =
    record {
      offset = omega (arith, h);
      position = later_position (is_newline c) s.position.line s.position.column (units e c)
          (position_after e s.position c) (units_bounds e c h).0 refl;
    }

pub later_trans : (s t u : Stop) → Later s t → Later t u → Later s u
later_trans s t u h g =
    record {
      offset = omega (arith, h.offset, g.offset);
      position = positions s.position.line s.position.column t.position.line t.position.column u.position.line
          u.position.column h.position g.position;
    }
  where
    positions : (l c m d n f : ℕ) → (ltb m l || (eqb m l && leb d c)) ≡ false →
        (ltb n m || (eqb n m && leb f d)) ≡ false → (ltb n l || (eqb n l && leb f c)) ≡ false
    positions l c m d n f h g = grind (arith, nat_tests)

pub later_moved : (n : ℕ) (s t : Stop) → Later (moved_by n s) t → Later s t
later_moved n s t h = record { offset = omega (arith, h.offset); position = h.position }

within_position : (b : Bool) (line column many size at : ℕ) (p : Position) → 0 < size → many ≤ 2 * size →
    line ≤ at → column ≤ 2 * at →
    p ≡ (cond b (record { line = line + 1; column = 0 }) (record { line = line; column = column + many })) →
    (p.line ≤ at + size) × (p.column ≤ 2 * (at + size))
within_position true line column many size at p h m l c e =
    subst (λ q. (q.line ≤ at + size) × (q.column ≤ 2 * (at + size))) (sym e) (omega (arith, h, l), omega arith)
within_position false line column many size at p h m l c e =
    subst (λ q. (q.line ≤ at + size) × (q.column ≤ 2 * (at + size))) (sym e)
    (omega (arith, h, l), omega (arith, h, m, c))

pub within_one : (e : PositionEncoding) (source : List ℕ) (s : Stop) (c : Character) → 0 < c.bytes →
    s.offset + c.bytes ≤ length source → IsWithin source s → IsWithin source (stop_past e s c)
within_one e source s c h le w =
    let p = within_position (is_newline c) s.position.line s.position.column (units e c) c.bytes s.offset
    (position_after e s.position c) h (units_bounds e c h).1 w.line w.column refl in
    record { offset = le; line = p.0; column = p.1 }

pub within_moved : (source : List ℕ) (n : ℕ) (s : Stop) → s.offset + n ≤ length source → IsWithin source s →
    IsWithin source (moved_by n s)
within_moved source n s le w = record { offset = le; line = omega (arith, w.line); column = omega (arith, w.column) }

-- ---- the stops of a source

-- the first character from an offset on
pub first_at : (source rest left : List ℕ) (at code size : ℕ) → rest ≡ drop at source →
    left ≡ drop (at + size) source → 0 < length rest → code ≡ or_replacement (decoded rest).char →
    size ≡ (decoded rest).size → IsFirst rest left code size
first_at source rest left at code size r l some c z =
    record {
      some = some;
      left_is = l ∙ sym (drop-drop size at source) ∙ ap (drop size) (sym r);
      code_is = c;
      size_is = z;
    }

pub stops_end : (e : PositionEncoding) (source : List ℕ) (s : Stop) → drop s.offset source ≡ [] →
    stops_from e source s ≡ []
stops_end e source s h = ap (stops_after e s) (characters_end (drop s.offset source) h)

-- after a character that is no CR of a CRLF
pub stops_one : (e : PositionEncoding) (source rest left : List ℕ) (s : Stop) (code size : ℕ) →
    rest ≡ drop s.offset source → left ≡ drop (s.offset + size) source → IsFirst rest left code size →
    (eqb code 13 && begins_with_lf (characters left)) ≡ false → stops_from e source s
    ≡ stop_past e s (made code size) ∷ stops_from e source (stop_past e s (made code size))
stops_one e source rest left s code size r l f p =
    ap (λ bytes. stops_after e s (characters bytes)) (sym r)
    ∙ ap (stops_after e s) (characters_step rest left code size f)
    ∙ ap (λ b. cond b (stops_after e (moved_by size s) (characters left))
    (stop_past e s (made code size) ∷ stops_after e (stop_past e s (made code size)) (characters left))) p
    ∙ ap (λ bytes. stop_past e s (made code size)
    ∷ stops_after e (stop_past e s (made code size)) (characters bytes)) l

-- after a CR and an LF
crlf : (e : PositionEncoding) (s : Stop) (code size newline more : ℕ) (cs : List Character) → code ≡ 13 →
    newline ≡ 10 → stops_after e s (made code size ∷ made newline more ∷ cs)
    ≡ stop_past e (moved_by size s) (made newline more)
    ∷ stops_after e (stop_past e (moved_by size s) (made newline more)) cs
crlf e s code size newline more cs c n = rw (c, n) refl

pub pair_parts : (code : ℕ) (left : List ℕ) → (eqb code 13 && begins_with_lf (characters left)) ≡ true →
    (code ≡ 13) × (0 < length left) × (begins_with_lf (characters left) ≡ true)
pair_parts code left h =
    let parts = and_parts (eqb code 13) (begins_with_lf (characters left)) h in
    (eqb-true code 13 parts.0, lf_some left parts.1, parts.1)

pub lf_is : (left more : List ℕ) (newline size : ℕ) → IsFirst left more newline size →
    begins_with_lf (characters left) ≡ true → newline ≡ 10
lf_is left more newline size f h = eqb-true newline 10 (lf_first left more newline size f ∙ h)

pub stops_two : (e : PositionEncoding) (source rest left end : List ℕ) (s : Stop) (code size newline more : ℕ) →
    rest ≡ drop s.offset source → end ≡ drop (s.offset + size + more) source → IsFirst rest left code size →
    IsFirst left end newline more → code ≡ 13 → newline ≡ 10 → stops_from e source s
    ≡ stop_past e (moved_by size s) (made newline more)
    ∷ stops_from e source (stop_past e (moved_by size s) (made newline more))
stops_two e source rest left end s code size newline more r d f g c n =
    ap (λ bytes. stops_after e s (characters bytes)) (sym r)
    ∙ ap (stops_after e s) (characters_step rest left code size f
    ∙ ap (λ cs. made code size ∷ cs) (characters_step left end newline more g))
    ∙ crlf e s code size newline more (characters end) c n
    ∙ ap (λ bytes. stop_past e (moved_by size s) (made newline more)
    ∷ stops_after e (stop_past e (moved_by size s) (made newline more)) (characters bytes)) d
