-- The columns of the bytes of a line's text.
use Rattle.std.specs.Prelude.{ℕ, ◌+◌, ◌-◌, ◌==◌, List, [], ◌∷◌, Bool, true, false, if◌then◌else◌, nat_lt}
use Rattle.unicode_width.specs.Width.{str_width}
use Rattle.miette_columns.specs.rules.Cells.{Character}
use Rattle.miette_columns.specs.rules.Widths.{width_of}

-- the characters that begin within the first `bytes` bytes
abbrev pub text_up_to : ℕ → List Character → List ℕ
text_up_to bytes [] = []
text_up_to bytes (c ∷ cs) = if bytes == 0 then [] else c.code ∷ text_up_to (bytes - c.bytes) cs

-- whether the first `bytes` bytes are whole characters
abbrev pub is_boundary : ℕ → List Character → Bool
is_boundary bytes [] = bytes == 0
is_boundary bytes (c ∷ cs) = if bytes == 0 then true
    else (if nat_lt bytes c.bytes then false else is_boundary (bytes - c.bytes) cs)

-- the sum of the widths of characters
abbrev pub widths : List ℕ → ℕ
widths [] = 0
widths (code ∷ codes) = width_of code + widths codes

-- The column after `bytes` bytes: the width of the text before it. Inside a character and after the end of the text, it
-- is the sum of the widths of the characters that begin before it.
abbrev pub column : ℕ → List Character → ℕ
column bytes cs = if is_boundary bytes cs then str_width false (text_up_to bytes cs) else widths (text_up_to bytes cs)
