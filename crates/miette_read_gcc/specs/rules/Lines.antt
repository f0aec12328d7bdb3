-- Lines and columns as GCC counts them. Lines end like those of snippets.
use Rattle.std.specs.Prelude.{ℕ, ◌+◌, List, [], ◌∷◌, Option, Some, ◌==◌, if◌then◌else◌, min, drop, option_map, nat_eq}
use Rattle.std.specs.List.{starts_with}
use Rattle.miette_read.specs.rules.LineStarts.{numbered_line_start}
use Rattle.miette_lines.specs.rules.Lines.{Line, lines_from}

-- The offset of the first line, after a byte order mark.
abbrev pub first_begin : List ℕ → ℕ
first_begin bytes = if starts_with nat_eq bytes (239 ∷ (187 ∷ (191 ∷ []))) then 3 else 0

-- The offset of a line's start. Line numbers are one-based.
abbrev pub begin_of : List ℕ → ℕ → Option ℕ
begin_of bytes line = if line == 1 then Some (first_begin bytes) else numbered_line_start bytes line

-- The end of the first line's text. The lines start at offset `at`.
abbrev pub first_text_end : ℕ → List Line → ℕ
first_text_end at [] = at
first_text_end at (l ∷ ls) = l.text_end

-- The end of the text of the line that starts at `at`.
abbrev pub text_end_from : List ℕ → ℕ → ℕ
text_end_from bytes at = first_text_end at (lines_from at (drop at bytes))

-- The offset `before` bytes after a line's start, or the end of the line's text if that comes first.
abbrev pub within_line : List ℕ → ℕ → ℕ → ℕ
within_line bytes start before = min (start + before) (text_end_from bytes start)

-- The offset with `before` bytes before it on a line. Line numbers are one-based.
abbrev pub offset_at : List ℕ → ℕ → ℕ → Option ℕ
offset_at bytes line before = option_map (λ start. within_line bytes start before) (begin_of bytes line)
