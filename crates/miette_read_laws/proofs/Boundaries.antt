-- The ends of characters are stops.
use Rattle.std.proofs.Common.{◌≡◌, ℕ, suc, ◌+◌, Bool, true, false, not, ◌&&◌, if◌then◌else◌, List, [], ◌∷◌, ◌++◌}
use Rattle.std.proofs.Common.{Some, refl, ap, ◌∙◌, arith, slice_get, eqb}
use Rattle.std.specs.List.{list_any}
use Rattle.std.proofs.lemmas.Bool.{and_left, and_right, or_parts}
use Rattle.miette_lines.proofs.Cases.{by_cases}
use Rattle.miette_lines.specs.rules.Lines.{CR, LF}
use Rattle.miette_columns.specs.rules.Cells.{Character, characters}
use Rattle.miette_positions.specs.declared.position.PositionEncoding.{PositionEncoding}
use Rattle.miette_positions.specs.declared.position.Stop.{Stop}
use Rattle.miette_positions.specs.rules.Stops.{begins_with_lf, is_newline, is_pair, moved_by, start, stop_past, stops_after}
use Rattle.miette_positions.specs.rules.Stops.{stops_of, units}
use Rattle.miette_read_laws.specs.laws.Boundaries.{AreStops, HasStop, bytes_of, end_line, ended_lines, parts_pair}
use Rattle.miette_read_laws.specs.laws.Boundaries.{units_of}

-- the stop after characters that follow one; between CR and LF, where the CR is
abbrev pub step : PositionEncoding → Stop → Character → List Character → Stop
step e s c cs = if is_pair c cs then moved_by c.bytes s else stop_past e s c

abbrev pub advance : PositionEncoding → Stop → List Character → Stop
advance e s [] = s
advance e s (c ∷ cs) = advance e (step e s c cs) cs

-- ---- it is among the stops

abbrev pub IsAmong : List Stop → Stop → Type 0
IsAmong stops s = (k : ℕ) × (slice_get stops k ≡ Some s)

later : (s : Stop) (stops : List Stop) (t : Stop) → IsAmong stops t → IsAmong (s ∷ stops) t
later s stops t h = (suc h.0, h.1)

pub no_pair_end : (c : Character) → is_pair c [] ≡ false
no_pair_end c = and_right (eqb c.code CR) false refl

reached : (e : PositionEncoding) (s : Stop) (c : Character) (cs back : List Character)
    → parts_pair (c ∷ cs) back ≡ false → IsAmong (stops_after e s (c ∷ (cs ++ back))) (advance e s (c ∷ cs))
reached e s c [] back h = rw (h, no_pair_end c) (0, refl)
reached e s c (d ∷ ds) back h =
    by_cases {C = IsAmong (stops_after e s (c ∷ ((d ∷ ds) ++ back))) (advance e s (c ∷ d ∷ ds))} (is_pair c (d ∷ ds))
    (λ y. rw y (reached e (moved_by c.bytes s) d ds back h))
    (λ n. rw n (later (stop_past e s c) (stops_after e (stop_past e s c) ((d ∷ ds) ++ back))
    (advance e (stop_past e s c) (d ∷ ds)) (reached e (stop_past e s c) d ds back h)))

pub among : (e : PositionEncoding) (front back : List Character) → parts_pair front back ≡ false
    → IsAmong (start ∷ stops_after e start (front ++ back)) (advance e start front)
among e [] back h = (0, refl)
among e (c ∷ cs) back h =
    later start (stops_after e start (c ∷ (cs ++ back))) (advance e start (c ∷ cs)) (reached e start c cs back h)

-- ---- its offset and its line

step_offset : (b : Bool) (e : PositionEncoding) (s : Stop) (c : Character)
    → (if b then moved_by c.bytes s else stop_past e s c).offset ≡ s.offset + c.bytes
step_offset true e s c = refl
step_offset false e s c = refl

pub offset_is : (e : PositionEncoding) (s : Stop) (cs : List Character) → (advance e s cs).offset ≡ s.offset + bytes_of cs
offset_is e s [] = omega arith
offset_is e s (c ∷ cs) =
    let below = offset_is e (step e s c cs) cs in
    let own = step_offset (is_pair c cs) e s c in omega (arith, below, own)

step_line : (b n : Bool) (e : PositionEncoding) (s : Stop) (c : Character) → is_newline c ≡ n → (n ≡ false → b ≡ false)
    → (if b then moved_by c.bytes s else stop_past e s c).position.line
    ≡ s.position.line + (if n && not b then 1 else 0)
step_line true true e s c is pair = omega arith
step_line true false e s c is pair = let no : true ≡ false = pair refl in absurd (cc)
step_line false true e s c is pair = rw is refl
step_line false false e s c is pair = rw is (omega arith)

no_pair : (c : Character) (cs : List Character) → is_newline c ≡ false → is_pair c cs ≡ false
no_pair c cs h = and_left (eqb c.code CR) (begins_with_lf cs) (or_parts (eqb c.code LF) (eqb c.code CR) h).1

line_is : (e : PositionEncoding) (s : Stop) (cs : List Character)
    → (advance e s cs).position.line ≡ s.position.line + ended_lines cs
line_is e s [] = omega arith
line_is e s (c ∷ cs) =
    let below = line_is e (step e s c cs) cs in
    let own = step_line (is_pair c cs) (is_newline c) e s c refl (no_pair c cs) in omega (arith, below, own)

-- ---- its column

no_lf : (text : List Character) → list_any is_newline text ≡ false → begins_with_lf text ≡ false
no_lf [] h = refl
no_lf (c ∷ cs) h =
    (or_parts (eqb c.code LF) (eqb c.code CR) (or_parts (is_newline c) (list_any is_newline cs) h).0).0

begins_alike : (cs text : List Character) → begins_with_lf text ≡ false → begins_with_lf (cs ++ text)
    ≡ begins_with_lf cs
begins_alike [] text h = h
begins_alike (c ∷ cs) text h = refl

advance_both : (e : PositionEncoding) (s : Stop) (before text : List Character) → begins_with_lf text ≡ false
    → advance e s (before ++ text) ≡ advance e (advance e s before) text
advance_both e s [] text h = refl
advance_both e s (c ∷ cs) text h =
    ap (λ b. advance e (if eqb c.code CR && b then moved_by c.bytes s else stop_past e s c) (cs ++ text))
    (begins_alike cs text h)
    ∙ advance_both e (step e s c cs) cs text h

along : (e : PositionEncoding) (s : Stop) (text : List Character) → list_any is_newline text ≡ false
    → (advance e s text).position.column ≡ s.position.column + units_of e text
along e s [] h = omega arith
along e s (c ∷ cs) h =
    let parts = or_parts (is_newline c) (list_any is_newline cs) h in
    let plain : is_newline c ≡ false = parts.0 in
    let apart : is_pair c cs ≡ false = no_pair c cs plain in
    let own : (step e s c cs).position.column ≡ s.position.column + units e c = rw (apart, plain) refl in
    let below = along e (step e s c cs) cs parts.1 in omega (arith, own, below)

ended_column : (e : PositionEncoding) (s : Stop) (c : Character) (cs : List Character) → end_line (c ∷ cs) ≡ true
    → (advance e s (c ∷ cs)).position.column ≡ 0
ended_column e s c [] h =
    let apart : is_pair c [] ≡ false = no_pair_end c in rw (apart, h) refl
ended_column e s c (d ∷ ds) h = ended_column e (step e s c (d ∷ ds)) d ds h

first_column : (e : PositionEncoding) (before : List Character) → end_line before ≡ true
    → (advance e start before).position.column ≡ 0
first_column e [] h = refl
first_column e (c ∷ cs) h = ended_column e start c cs h

column_is : (e : PositionEncoding) (before text : List Character) → end_line before ≡ true
    → list_any is_newline text ≡ false → (advance e start (before ++ text)).position.column ≡ units_of e text
column_is e before text ends plain =
    ap (λ (s : Stop). s.position.column) (advance_both e start before text (no_lf text plain))
    ∙ along e (advance e start before) text plain
    ∙ omega (arith, first_column e before ends)

pub are_stops : (e : PositionEncoding) (source : List ℕ) → AreStops e source
are_stops e source front back whole whole_pairs =
    let found = among e front back whole_pairs in
    record {
      stop = advance e start front;
      index = found.0;
      there = ap (λ (cs : List Character). slice_get (start ∷ stops_after e start cs) found.0) whole ∙ found.1;
      offset = offset_is e start front ∙ omega arith;
      line = line_is e start front ∙ omega arith;
      column = λ before text same ends plain.
          ap (λ (cs : List Character). (advance e start cs).position.column) same ∙ column_is e before text ends plain;
    }
