-- The frame of a snippet, and the row of a label out of bounds.
use Rattle.std.specs.Prelude.{ℕ, ◌+◌, ◌-◌, List, [], ◌∷◌, ◌++◌, length, decimal, codes, chars, replicate, Option, Some}
use Rattle.std.specs.Prelude.{None, Bool, ◌&&◌, ◌||◌, if◌then◌else◌, nat_lt}
use Rattle.miette_style.specs.rules.Rows.{Row, styled_run, plain_run}
use Rattle.miette_lines.specs.rules.Lines.{Line}
use Rattle.miette_protocol.specs.views.Meaning.{Label}
use Rattle.miette_protocol.specs.rules.Reading.{Contents}
use Rattle.miette_labels.specs.rules.Contexts.{lines_of_contents}
use Rattle.miette_snippet_rules.specs.rules.LabelRows.{blank}
use Rattle.miette_labels.specs.rules.Groups.{Refusal}
use Rattle.miette_snippet_rules.specs.rules.SnippetSettings.{SnippetSettings}

-- the text of a label, from its bytes
abbrev pub text_or_none : Option (List ℕ) → List ℕ
text_or_none None = codes "<none>"
text_or_none (Some text) = chars text

-- the row of a label out of bounds, up to its offset
abbrev pub refused_front : SnippetSettings → Label → Row
refused_front s label =
    plain_run s.width (codes "  [") ∷ styled_run s.width s.theme.styles.error
    (codes "Failed to read contents for label")
    ∷ plain_run s.width (codes " `") ∷ styled_run s.width s.theme.styles.link (text_or_none label.text)
    ∷ plain_run s.width (codes "` (offset: ") ∷ []

abbrev pub refused_row : SnippetSettings → Refusal → Row
refused_row s refused = refused_front s refused.label
    ++ (styled_run s.width s.theme.styles.link (decimal refused.label.span.offset)
    ∷ plain_run s.width (codes ", length: ") ∷ styled_run s.width s.theme.styles.link (decimal refused.label.span.len)
    ∷ plain_run s.width (codes "): ") ∷ styled_run s.width s.theme.styles.warning refused.name
    ∷ plain_run s.width (codes "]") ∷ [])

-- the number of digits of the last line's number, 1 without lines
abbrev pub width_of_lines : ℕ → List Line → ℕ
width_of_lines line [] = 1
width_of_lines line (l ∷ ls) = length (decimal (line + length (l ∷ ls)))

abbrev pub number_width : Contents → ℕ
number_width read = width_of_lines read.line (lines_of_contents read)

-- what comes before the gutter of a number row, and of any other row
abbrev pub number_start : SnippetSettings → ℕ → ℕ → Row
number_start s w number =
    blank s 1 ∷ styled_run s.width s.theme.styles.linum (replicate (w - length (decimal number)) 32 ++ decimal number)
    ∷ plain_run s.width (32 ∷ s.theme.characters.vbar ∷ 32 ∷ []) ∷ []

abbrev pub other_start : SnippetSettings → ℕ → Row
other_start s w = blank s (w + 2) ∷ plain_run s.width (s.theme.characters.vbar_break ∷ 32 ∷ []) ∷ []

-- what comes before the gutter of a break row: three dots, up to the end of the line numbers
abbrev pub break_start : SnippetSettings → ℕ → Row
break_start s w = blank s (w - 1) ∷ plain_run s.width (codes "..." ++ s.theme.characters.vbar ∷ []) ∷ []

-- where a label begins: its zero-based line and column
pub record Place : Type 0 where
  pub line : ℕ
  pub column : ℕ

abbrev pub place_text : Place → List ℕ
place_text place = decimal (place.line + 1) ++ codes ":" ++ decimal (place.column + 1)

-- The position that a frame shows: always for a named source, else if the snippet has several lines or the settings ask
-- for it.
abbrev pub location : SnippetSettings → Option (List ℕ) → Bool → Place → Row
location s (Some name) several place =
    plain_run s.width (codes "[") ∷ styled_run s.width s.theme.styles.link
    (if s.layout.primary_start then chars name ++ codes ":" ++ place_text place else chars name)
    ∷ plain_run s.width (codes "]") ∷ []
location s None several place =
    if (several || s.layout.one_line_start) && s.layout.primary_start then plain_run s.width
    (codes "[" ++ place_text place ++ codes "]") ∷ []
    else plain_run s.width (replicate 3 s.theme.characters.hbar) ∷ []

abbrev pub location_of : SnippetSettings → Option (List ℕ) → Bool → Option Place → Row
location_of s name several None = []
location_of s name several (Some place) = location s name several place

-- the top row of a frame, with line numbers of `w` digits; the flag says whether there are several lines
abbrev pub top_row_of : SnippetSettings → ℕ → Option (List ℕ) → Bool → Option Place → Row
top_row_of s w name several place = blank s (w + 2)
    ∷ plain_run s.width (s.theme.characters.ltop ∷ s.theme.characters.hbar ∷ []) ∷ location_of s name several place

-- the top row, from the snippet's read
abbrev pub top_row : SnippetSettings → Contents → Option Place → Row
top_row s read place = top_row_of s (number_width read) read.name (nat_lt 1 (length (lines_of_contents read))) place

-- the bottom row of a frame
abbrev pub bottom_row : SnippetSettings → ℕ → Row
bottom_row s w = blank s (w + 2) ∷ plain_run s.width (s.theme.characters.lbot ∷ replicate 4 s.theme.characters.hbar)
    ∷ []
