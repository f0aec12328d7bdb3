-- Lines and columns of a text. Only LF ends a line, columns count characters, and both are one-based.
use Rattle.std.specs.Prelude.{◌≡◌, ℕ, ◌+◌, ◌<◌, ◌≤◌, not, ◌==◌, List, length, take, count_by, encode_utf8_all}
use Rattle.std.specs.List.{suffix_len}
use Rattle.std.specs.Str.{chars}
use Rattle.miette_lines.specs.rules.Lines.{LF}

-- the line of the character after these
abbrev pub line_after : List ℕ → ℕ
line_after before = count_by (λ c. c == LF) before + 1

-- its column: one plus the number of characters after the last LF
abbrev pub column_after : List ℕ → ℕ
column_after before = suffix_len (λ c. not (c == LF)) before + 1

-- the character after these has at least this line and at least this column
abbrev pub Reaches : List ℕ → ℕ → ℕ → Type 0
Reaches before line column = (line ≤ line_after before) × (column ≤ column_after before)

-- the index of the first character that reaches a line and a column, or the number of characters if none does
pub record IsFirstToReach (cs : List ℕ) (line column index : ℕ) : Type 0 where
  pub within : index ≤ length cs
  pub reached : index < length cs → Reaches (take index cs) line column
  pub first : (k : ℕ) → k < index → ¬ Reaches (take k cs) line column

-- the byte offset of that character, or the length of the text
abbrev pub IsLocation : List ℕ → ℕ → ℕ → ℕ → Type 0
IsLocation text line column offset =
    (index : ℕ) × IsFirstToReach (chars text) line column index
    × (offset ≡ length (encode_utf8_all (take index (chars text))))
