-- The states after printable ASCII, as rows of the table.
use Rattle.std.specs.Prelude.{ℕ, ◌-◌, false, nat_le, if◌then◌else◌, slice_index_or}
use Rattle.ucd_breaks.specs.declared.LineBreak.TheVariants.{Ambiguous}
use Rattle.miette_line_breaks.specs.declared.characters.Character.{Character}
use Rattle.miette_line_breaks.specs.declared.ascii_state.TheConstants.{KIND_CLASSES}
use Rattle.miette_line_breaks.specs.declared.state.BreakState.{BreakState}

-- a character of one of these classes
abbrev pub kind_character : ℕ → Character
kind_character k = record { class = slice_index_or KIND_CLASSES k Ambiguous; is_wide = false; is_future_emoji = false }

-- after a character of such a class; in the second half of the rows, also after spaces
abbrev pub row_state : ℕ → BreakState
row_state n = record {
  base = kind_character (if nat_le 14 n then n - 14 else n);
  is_spaced = nat_le 14 n;
  is_joined = false;
  follows_hebrew = false;
  has_half_flag = false;
}
