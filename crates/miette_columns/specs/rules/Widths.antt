-- The widths of characters.
use Rattle.std.specs.Prelude.{ℕ, false, unwrap_or}
use Rattle.unicode_width.specs.Width.{char_width}

-- the width of a character in columns; 0 if it has none
abbrev pub width_of : ℕ → ℕ
width_of code = unwrap_or (char_width false code) 0
