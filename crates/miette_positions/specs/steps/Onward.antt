-- Stops after printable ASCII characters.
use Rattle.std.specs.Prelude.{◌≡◌, ℕ, ◌+◌, ◌≤◌, List, drop, length, take, true}
use Rattle.std.specs.List.{list_all}
use Rattle.miette_columns.specs.views.Printable.{is_printable}
use Rattle.miette_positions.specs.declared.position.Stop.{Stop}

-- `n` bytes and as many columns further
abbrev pub onward : ℕ → Stop → Stop
onward n s = record {
  offset = s.offset + n;
  position = record { line = s.position.line; column = s.position.column + n };
}

-- `t` is the stop after at most `most` printable ASCII characters that follow `s`
pub record IsOnward (source : List ℕ) (most : ℕ) (s t : Stop) : Type 0 where
  pub many : ℕ
  pub few : many ≤ most
  pub within : s.offset + many ≤ length source
  pub printable : list_all is_printable (take many (drop s.offset source)) ≡ true
  pub is : t ≡ onward many s
