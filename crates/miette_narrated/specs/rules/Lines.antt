-- The source lines of a snippet.
use Rattle.std.specs.Prelude.{ℕ, ◌+◌, ◌-◌, List, [], ◌∷◌, ◌++◌, map, length, Bool, slice_range, decimal}
use Rattle.std.specs.Prelude.{codes, encode_utf8_all}
use Rattle.miette_lines.specs.rules.Lines.{Line}
use Rattle.miette_lines.specs.rules.Lists.{is_nil}
use Rattle.miette_protocol.specs.rules.Reading.{Contents}
use Rattle.miette_columns.specs.rules.Cells.{Character, characters}
use Rattle.miette_narrated.specs.rules.Labels.{SnippetLine, LabelRange, row, label_rows}

-- characters as text
abbrev pub characters_text : List Character → List ℕ
characters_text cs = encode_utf8_all (map (λ c. c.code) cs)

-- `snippet line 2:   text`
abbrev pub line_row : SnippetLine → List ℕ
line_row it = row (codes "snippet line " ++ (decimal it.number ++ (codes ": " ++ characters_text it.characters)))

-- a line of the contents of a read
abbrev pub snippet_line : Contents → ℕ → Bool → Line → SnippetLine
snippet_line contents number is_last line = record {
  line = line;
  number = number;
  is_last = is_last;
  data_end = contents.span.offset + length contents.bytes;
  characters = characters (slice_range contents.bytes (line.start - contents.span.offset)
      (line.text_end - contents.span.offset));
}

-- a source line, and the labels below it
abbrev pub narrated_line_rows : List LabelRange → SnippetLine → List ℕ
narrated_line_rows labels it = line_row it ++ label_rows it labels

-- source lines, numbered from this one on
abbrev pub narrated_lines_rows : List LabelRange → Contents → ℕ → List Line → List ℕ
narrated_lines_rows labels contents number [] = []
narrated_lines_rows labels contents number (line ∷ lines) =
    narrated_line_rows labels (snippet_line contents number (is_nil lines) line)
    ++ narrated_lines_rows labels contents (number + 1) lines
