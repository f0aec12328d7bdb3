-- Findings of `lint` in a source, line by line.
use Rattle.std.specs.Prelude.{ℕ, ◌+◌, ◌-◌, ◌==◌, ◌||◌, nat_lt, Bool, false, if◌then◌else◌, List, [], ◌∷◌, ◌++◌, Option}
use Rattle.std.specs.Prelude.{Some, None, codes, decimal, drop, find, flat_map, length, position, reverse, slice_range}
use Rattle.std.specs.Prelude.{take_while}
use Rattle.std.specs.Option.{option_and_then, option_map, option_map_or}
use Rattle.std.specs.List.{last_or}
use Rattle.miette_lines.specs.rules.Lines.{Line, is_terminated, lines_of}
use Rattle.miette_protocol.specs.views.Meaning.{Label}
use Rattle.miette_columns.specs.rules.Cells.{Cell, cells_from, characters}
use Rattle.miette_columns.specs.rules.Widths.{width_of}

-- a space or a tab
abbrev pub is_blank : ℕ → Bool
is_blank b = (b == 32) || (b == 9)

-- the first tab at or after an index
abbrev pub tab_from : List ℕ → ℕ → Option ℕ
tab_from blanks space = option_map (λ tab. space + tab) (position (λ b. b == 9) (drop space blanks))

-- the first tab after a space
abbrev pub tab_after_space : List ℕ → Option ℕ
tab_after_space blanks = option_and_then (tab_from blanks) (position (λ b. b == 32) blanks)

-- a label from one offset to another
abbrev pub finding : List ℕ → ℕ → ℕ → Label
finding text from to = record {
  text = Some text;
  span = record { offset = from; len = to - from };
  primary = false;
  context = None;
}

-- the number of blanks at the end of a text
abbrev pub ending_blanks : List ℕ → ℕ
ending_blanks text = length (take_while is_blank (reverse text))

-- the trailing blanks of a text that ends at this offset
abbrev pub trailing_space : ℕ → List ℕ → List Label
trailing_space end text = if ending_blanks text == 0 then []
    else finding (codes "trailing blanks") (end - ending_blanks text) end ∷ []

-- the first tab after a space in the leading blanks of a text that begins at this offset
abbrev pub misplaced_tab : ℕ → List ℕ → List Label
misplaced_tab start text = option_map_or (λ at. finding (codes "tab after space") (start + at) (start + at + 1) ∷ [])
    (tab_after_space (take_while is_blank text)) []

abbrev pub too_wide : ℕ → List ℕ
too_wide width = codes "wider than " ++ decimal width ++ codes " columns"

-- from the first character beyond the limit to the end of the text
abbrev pub overlong : ℕ → ℕ → List Cell → List Label
overlong width end cells = option_map_or (λ cell. finding (too_wide width) cell.start end ∷ [])
    (find (λ cell. nat_lt width cell.until) cells) []

-- the last character of a line without a terminator
abbrev pub missing_terminator : Line → List Cell → List Label
missing_terminator l cells =
    if is_terminated l then []
    else option_map_or (λ cell. finding (codes "no final terminator") cell.start cell.after ∷ []) (last_or None cells)
    []

-- findings of a line with this text
abbrev pub text_findings : ℕ → Line → List ℕ → List Cell → List Label
text_findings width l text cells = trailing_space l.text_end text
    ++ (misplaced_tab l.start text ++ (overlong width l.text_end cells ++ missing_terminator l cells))

-- the characters of a text that begins at this offset, with tab stops every four columns
abbrev pub lint_cells_of : ℕ → List ℕ → List Cell
lint_cells_of start text = cells_from width_of 4 false start 0 (characters text)

abbrev pub line_findings : List ℕ → ℕ → Line → List Label
line_findings source width l =
    text_findings width l (slice_range source l.start l.text_end)
    (lint_cells_of l.start (slice_range source l.start l.text_end))

-- findings of a source
abbrev pub findings_of : List ℕ → ℕ → List Label
findings_of source width = flat_map (line_findings source width) (lines_of source)
