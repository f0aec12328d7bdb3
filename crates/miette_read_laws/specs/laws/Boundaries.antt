-- Each end of a character is a stop, but between CR and LF.
use Rattle.std.specs.Prelude.{◌≡◌, ℕ, ◌+◌, List, [], ◌∷◌, ◌++◌, Bool, true, false, ◌&&◌, not, Some, slice_get}
use Rattle.std.specs.Prelude.{if◌then◌else◌}
use Rattle.std.specs.List.{list_any}
use Rattle.miette_columns.specs.rules.Cells.{Character, characters}
use Rattle.miette_positions.specs.declared.position.PositionEncoding.{PositionEncoding}
use Rattle.miette_positions.specs.declared.position.Stop.{Stop}
use Rattle.miette_positions.specs.rules.Stops.{begins_with_lf, is_newline, is_pair, stops_of, units}

-- how many bytes and code units characters have
abbrev pub bytes_of : List Character → ℕ
bytes_of [] = 0
bytes_of (c ∷ cs) = c.bytes + bytes_of cs

abbrev pub units_of : PositionEncoding → List Character → ℕ
units_of e [] = 0
units_of e (c ∷ cs) = units e c + units_of e cs

-- how many lines end in them
abbrev pub ended_lines : List Character → ℕ
ended_lines [] = 0
ended_lines (c ∷ cs) = (if is_newline c && not (is_pair c cs) then 1 else 0) + ended_lines cs

-- whether a cut would part a CR from its LF
abbrev pub parts_pair : List Character → List Character → Bool
parts_pair [] back = false
parts_pair (c ∷ []) back = is_pair c back
parts_pair (c ∷ next ∷ front) back = parts_pair (next ∷ front) back

-- characters after which a line begins: none, or the last one ends a line
abbrev pub end_line : List Character → Bool
end_line [] = true
end_line (c ∷ []) = is_newline c
end_line (c ∷ next ∷ front) = end_line (next ∷ front)

-- The end of the characters in front is a stop: its offset counts their bytes, its line their line ends, and its column
-- the code units of those after the last line end.
pub record HasStop (e : PositionEncoding) (source : List ℕ) (front : List Character) : Type 0 where
  pub stop : Stop
  pub index : ℕ
  pub there : slice_get (stops_of e source) index ≡ Some stop
  pub offset : stop.offset ≡ bytes_of front
  pub line : stop.position.line ≡ ended_lines front
  pub column : (before text : List Character) → front ≡ before ++ text → end_line before ≡ true →
      list_any is_newline text ≡ false → stop.position.column ≡ units_of e text

-- each end of a character of a source, but between CR and LF
abbrev pub AreStops : PositionEncoding → List ℕ → Type 0
AreStops e source = (front back : List Character) → characters source ≡ front ++ back →
    parts_pair front back ≡ false → HasStop e source front
