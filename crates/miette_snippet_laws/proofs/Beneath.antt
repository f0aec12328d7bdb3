-- The rows of a line: where their text begins, and that texts hang in them.
use Rattle.std.proofs.Common.{ℕ, zero, suc, ◌+◌, ◌-◌, ◌≤◌, ◌≡◌, List, [], ◌∷◌, ◌++◌, length, map, replicate, refl, sym}
use Rattle.std.proofs.Common.{ap, subst, ◌∙◌, append-nil, arith, eqb, cond}
use Rattle.std.specs.Prelude.{decimal}
use Rattle.std.proofs.lemmas.Bool.{eqb-true}
use Rattle.std.proofs.lemmas.List.{map-append}
use Rattle.std.specs.List.{AllByRecursion, range_with_len}
use Rattle.miette_style.specs.rules.Rows.{Glyph, Run, Row, glyphs_of, glyph_columns, code_at, glyph_of, styled_run}
use Rattle.miette_style.specs.rules.Styles.{plain}
use Rattle.miette_lines.specs.rules.Lines.{Line}
use Rattle.miette_columns.specs.rules.Cells.{Cell}
use Rattle.miette_labels.specs.rules.Answers.{Highlight}
use Rattle.miette_labels.specs.rules.Labels.{DrawnLabel, starts_on, ends_on, one_line, multi_line, closing_labels}
use Rattle.miette_snippet_rules.specs.rules.LabelColumns.{multi_line_ends}
use Rattle.miette_snippet_rules.specs.rules.CutLines.{dots_width}
use Rattle.miette_snippet_rules.specs.rules.Underlines.{Underline, AreApart}
use Rattle.miette_snippet_rules.specs.rules.LabelRows.{IsNarrow, blank, underline_runs, label_text_rows, underline_rows}
use Rattle.miette_snippet_rules.specs.rules.Gutters.{most_labels, gutter_columns, number_gutter, other_gutter}
use Rattle.miette_snippet_rules.specs.rules.Gutters.{closing_rows, ending_corner, arrow}
use Rattle.miette_snippet_rules.specs.rules.Frames.{other_start, number_start}
use Rattle.miette_snippet_rules.specs.rules.SnippetLayout.{line_rows, before_each, line_underlines, text_of_cells}
use Rattle.miette_snippet_laws.specs.laws.LineRows.{underline_glyph_at, underlines_end, IsConnected, AreUnderlined}
use Rattle.miette_snippet_laws.specs.laws.LineRows.{ShowUnderlines, underlines_of_line}
use Rattle.miette_snippet_laws.specs.laws.LineRows.{text_of_line, text_start, HasText, IsNumbered, number_codes}
use Rattle.miette_lines.proofs.Cases.{by_cases}
use Rattle.miette_snippet_laws.proofs.Apart.{marks_apart}
use Rattle.miette_snippet_rules.proofs.CutColumns.{AreColumns, shown_apart}
use Rattle.miette_snippet_laws.proofs.Columns.{glyph_columns-append, code_at-append}
use Rattle.miette_snippet_laws.proofs.GlyphRows.{mark_row, glyph_rows_below}
use Rattle.miette_snippet_laws.proofs.HungTexts.{mark_row-at, mark_row-columns, glyph_rows_hang, all_beside, all_more}
use Rattle.miette_snippet_laws.proofs.Numerals.{AreDigits, are_digits}
use Rattle.miette_snippet_laws.proofs.GlyphsOfRows.{glyphs_of-append, before_pieces, glyphs_of-marks, glyphs_of-below}
use Rattle.miette_snippet_rules.specs.rules.SnippetLayout.{snippet_context}
use Rattle.miette_snippet_rules.specs.rules.SnippetSettings.{SnippetSettings}

-- the gutter has room for the labels of several lines that lie on a line
abbrev pub HasRoom : List DrawnLabel → Line → ℕ → Type 0
HasRoom labels line columns = length (multi_line line labels) ≤ columns - 2

pub glyph_columns-copies : (width : ℕ → ℕ) (code many : ℕ) → width code ≡ 1
    → glyph_columns (map (glyph_of width) (replicate many code)) ≡ many
glyph_columns-copies width code zero h = refl
glyph_columns-copies width code (suc many) h = omega (arith, h, glyph_columns-copies width code many h)

pub glyph_columns-blank : (width : ℕ → ℕ) (many : ℕ) → width 32 ≡ 1 → glyph_columns (replicate many (glyph_of width 32))
    ≡ many
glyph_columns-blank width zero h = refl
glyph_columns-blank width (suc many) h = omega (arith, h, glyph_columns-blank width many h)

-- a run alone, and one in front
alone : (run : Run) → glyph_columns (glyphs_of (run ∷ [])) ≡ glyph_columns run.glyphs
alone run = ap glyph_columns (append-nil run.glyphs)

front : (run : Run) (row : Row) → glyph_columns (glyphs_of (run ∷ row)) ≡ glyph_columns run.glyphs
    + glyph_columns (glyphs_of row)
front run row = glyph_columns-append run.glyphs (glyphs_of row)

pub other_gutter-columns : (s : SnippetSettings) (n : IsNarrow s.width s.theme.characters) (line : Line) (left : ℕ)
    (labels : List DrawnLabel) → length labels ≤ left - 2 →
    glyph_columns (glyphs_of (other_gutter s line left labels)) ≡ left
other_gutter-columns s n line left [] h = alone (blank s left) ∙ glyph_columns-blank s.width left n.space
other_gutter-columns s n line left (label ∷ labels) h =
    by_cases {C = glyph_columns (glyphs_of (other_gutter s line left (label ∷ labels))) ≡ left} (ends_on line label)
    (λ y. rw y (alone (styled_run s.width label.style (s.theme.characters.lbot
    ∷ replicate (left - 1) s.theme.characters.hbar))
    ∙ omega (
      arith,
      n.drawings.lbot,
      glyph_columns-copies s.width s.theme.characters.hbar (left - 1) n.drawings.hbar,
      h,
    )))
    (λ f. rw f (front (styled_run s.width label.style (s.theme.characters.vbar ∷ []))
    (other_gutter s line (left - 1) labels)
    ∙ omega (arith, n.drawings.vbar, h, other_gutter-columns s n line (left - 1) labels (omega (arith, h)))))

pub other_start-columns : (s : SnippetSettings) (w : ℕ) → IsNarrow s.width s.theme.characters
    → glyph_columns (glyphs_of (other_start s w)) ≡ w + 4
other_start-columns s w n =
    glyph_columns-append (replicate (w + 2) (glyph_of s.width 32))
    (glyph_of s.width s.theme.characters.vbar_break ∷ glyph_of s.width 32 ∷ [])
    ∙ omega (arith, n.space, n.drawings.vbar_break, glyph_columns-blank s.width (w + 2) n.space)

pub other-columns : (s : SnippetSettings) (w columns : ℕ) (labels : List DrawnLabel) (line : Line)
    → IsNarrow s.width s.theme.characters → HasRoom labels line columns →
    glyph_columns (glyphs_of (other_start s w ++ other_gutter s line columns (multi_line line labels)))
    ≡ text_start w columns
other-columns s w columns labels line n room =
    let gutter : Row = other_gutter s line columns (multi_line line labels) in
    ap glyph_columns (glyphs_of-append (other_start s w) gutter)
    ∙ glyph_columns-append (glyphs_of (other_start s w)) (glyphs_of gutter)
    ∙ omega (
      arith,
      other_start-columns s w n,
      other_gutter-columns s n line columns
          (multi_line line labels) room,
    )

-- marks and texts after a prefix, with more rows below
marked : (s : SnippetSettings) (n : IsNarrow s.width s.theme.characters) (prefix : Row) (more : List Row)
    (ms : List Underline)
    → AreApart 0 ms →
    AreUnderlined s (glyph_columns (glyphs_of prefix)) ms ((prefix ++ underline_runs s 0 ms)
    ∷ (before_each prefix (label_text_rows s [] ms) ++ more))
marked s n prefix more ms apart =
    let start : ℕ = glyph_columns (glyphs_of prefix) in
    let z : underlines_end 0 ms - 0 ≡ underlines_end 0 ms = omega arith in
    let own : glyphs_of (underline_runs s 0 ms) ≡ mark_row s ms = glyphs_of-marks s 0 ms apart
    ∙ ap (λ k. map (underline_glyph_at s ms) (range_with_len 0 k)) z in
    let below : List (List Glyph) = map (λ row. glyphs_of prefix ++ row) (glyph_rows_below s [] ms) in
    let under : map glyphs_of (before_each prefix (label_text_rows s [] ms) ++ more) ≡ below ++ map glyphs_of more =
    map-append glyphs_of (before_each prefix (label_text_rows s [] ms)) more
    ∙ ap (λ r. r ++ map glyphs_of more) (before_pieces prefix (label_text_rows s [] ms)
    ∙ ap (map (λ row. glyphs_of prefix ++ row)) (glyphs_of-below s [] ms apart)) in (
      λ column lt. ap (λ r. code_at r (start + column)) (glyphs_of-append prefix (underline_runs s 0 ms))
          ∙ code_at-append (glyphs_of prefix) (glyphs_of (underline_runs s 0 ms)) column
          ∙ ap (λ r. code_at r column) own ∙ mark_row-at s n ms column lt,
      ap glyph_columns (glyphs_of-append prefix (underline_runs s 0 ms) ∙ ap (λ r. glyphs_of prefix ++ r) own)
          ∙ glyph_columns-append (glyphs_of prefix) (mark_row s ms)
          ∙ ap (λ k. start + k) (mark_row-columns s n ms),
      subst (λ (rows : List (List Glyph)). AllByRecursion (IsConnected s rows start) ms) (sym under)
          (all_more s start below (map glyphs_of more) ms
          (all_beside s (glyphs_of prefix) (glyph_rows_below s [] ms) ms (glyph_rows_hang s ms n apart))),
    )

shown : (s : SnippetSettings) (n : IsNarrow s.width s.theme.characters) (prefix : Row) (number : Row) (more : List Row)
    (ms : List Underline) → AreApart 0 ms →
    ShowUnderlines s (glyph_columns (glyphs_of prefix)) ms (number ∷ before_each prefix (underline_rows s ms)
    ++ more)
shown s n prefix number more [] apart = tt
shown s n prefix number more (m ∷ ms) apart = marked s n prefix more (m ∷ ms) apart

-- each text of the labels that lie on a line alone hangs in the line's rows
pub line_shows : (s : SnippetSettings) (w columns : ℕ) (labels : List DrawnLabel) (line : Line) (number : ℕ)
    (cells : List Cell) (pieces : List Highlight) → IsNarrow s.width s.theme.characters → HasRoom labels line columns
    → AreColumns 0 cells →
    ShowUnderlines s (text_start w columns) (underlines_of_line s labels line cells)
    (line_rows (snippet_context s w columns labels (λ _. cells)) line number pieces)
line_shows s w columns labels line number cells pieces n room whole =
    subst (λ (start : ℕ). ShowUnderlines s start (underlines_of_line s labels line cells)
    (line_rows (snippet_context s w columns labels (λ _. cells)) line number pieces))
    (other-columns s w columns labels line n room)
    (shown s n (other_start s w ++ other_gutter s line columns (multi_line line labels))
    (number_start s w number ++ number_gutter s line columns (multi_line line labels)
    ++ text_of_line s labels line cells pieces)
    (before_each (other_start s w) (closing_rows s line columns (multi_line line labels)
    (closing_labels line (multi_line line labels))))
    (underlines_of_line s labels line cells) (shown_apart (dots_width s.theme.characters) s.layout.line_columns
    (line_underlines line cells (one_line line labels))
    (multi_line_ends line (text_of_cells cells line.text_end) (multi_line line labels)) cells
    whole (marks_apart (text_of_cells cells line.text_end) (one_line line labels))))

-- the gutters of a snippet have room on each of its lines
wider : (labels : List DrawnLabel) (a b : ℕ) (lines : List Line) → a ≤ b
    → AllByRecursion (λ line. length (multi_line line labels) ≤ a) lines
    → AllByRecursion (λ line. length (multi_line line labels) ≤ b) lines
wider labels a b [] le h = tt
wider labels a b (line ∷ lines) le h = (omega (arith, h.0), wider labels a b lines le h.1)

most-ge : (labels : List DrawnLabel) (lines : List Line)
    → AllByRecursion (λ line. length (multi_line line labels) ≤ most_labels labels lines) lines
most-ge labels [] = tt
most-ge labels (line ∷ lines) = (
  omega arith,
  wider labels (most_labels labels lines)
      (most_labels labels (line ∷ lines)) lines (omega arith) (most-ge labels lines),
)

room-of : (labels : List DrawnLabel) (m : ℕ) (lines : List Line)
    → AllByRecursion (λ line. length (multi_line line labels) ≤ m) lines
    → AllByRecursion (λ line. HasRoom labels line (cond (eqb m 0) 0 (m + 3))) lines
room-of labels m [] h = tt
room-of labels m (line ∷ lines) h = (
  by_cases {C = HasRoom labels line (cond (eqb m 0) 0 (m + 3))} (eqb m 0)
      (λ y. rw y (omega (arith, h.0, eqb-true m 0 y))) (λ f. rw f (omega (arith, h.0))),
  room-of labels m lines h.1,
)

pub all_room : (labels : List DrawnLabel) (lines : List Line)
    → AllByRecursion (λ line. HasRoom labels line (gutter_columns labels lines)) lines
all_room labels lines = room-of labels (most_labels labels lines) lines (most-ge labels lines)

-- a row of digits

digits-columns : (s : SnippetSettings) (n : IsNarrow s.width s.theme.characters) (ds : List ℕ) → AreDigits ds
    → glyph_columns (map (glyph_of s.width) ds) ≡ length ds
digits-columns s n [] h = refl
digits-columns s n (d ∷ ds) h =
    omega (arith, n.digits d h.0.0 h.0.1, digits-columns s n ds h.1)

decimal-columns : (s : SnippetSettings) (n : IsNarrow s.width s.theme.characters) (number : ℕ)
    → glyph_columns (map (glyph_of s.width) (decimal number)) ≡ length (decimal number)
decimal-columns s n number = digits-columns s n (decimal number) (are_digits number)

-- a text of spaces and more
padded : (s : SnippetSettings) (n : IsNarrow s.width s.theme.characters) (many : ℕ) (text : List ℕ)
    → glyph_columns (map (glyph_of s.width) (replicate many 32 ++ text)) ≡ many
    + glyph_columns (map (glyph_of s.width) text)
padded s n many text =
    ap glyph_columns (map-append (glyph_of s.width) (replicate many 32) text)
    ∙ glyph_columns-append (map (glyph_of s.width) (replicate many 32)) (map (glyph_of s.width) text)
    ∙ omega (arith, glyph_columns-copies s.width 32 many n.space)

number_start-columns : (s : SnippetSettings) (w number : ℕ) → IsNarrow s.width s.theme.characters
    → length (decimal number)
    ≤ w → glyph_columns (glyphs_of (number_start s w number)) ≡ w + 4
number_start-columns s w number n fits =
    let width : ℕ → ℕ = s.width in
    let num : Run = styled_run width s.theme.styles.linum (replicate (w - length (decimal number)) 32 ++ decimal number)
    in
    let bar : Run = styled_run width plain (32 ∷ s.theme.characters.vbar ∷ 32 ∷ []) in
    front (blank s 1) (num ∷ bar ∷ [])
    ∙ omega (
      arith,
      glyph_columns-blank width 1 n.space,
      front num (bar ∷ []),
      alone bar,
      n.space,
      n.drawings.vbar,
      fits,
      padded s n (w - length (decimal number)) (decimal number),
      decimal-columns s n number,
    )

corner-narrow : (s : SnippetSettings) (n : IsNarrow s.width s.theme.characters) (parts : List (List ℕ))
    → s.width (ending_corner s.theme.characters parts) ≡ 1
corner-narrow s n [] = n.drawings.lbot
corner-narrow s n (part ∷ parts) = n.drawings.lcross

arrow-columns : (s : SnippetSettings) (n : IsNarrow s.width s.theme.characters) (label : DrawnLabel) (corner left : ℕ)
    → s.width corner ≡ 1 → 3 ≤ left → glyph_columns (glyphs_of (arrow s label corner left ∷ blank s 1 ∷ [])) ≡ left
arrow-columns s n label corner left one le =
    front (arrow s label corner left) (blank s 1 ∷ [])
    ∙ omega (
      arith,
      one,
      le,
      alone (blank s 1),
      glyph_columns-blank s.width 1 n.space,
      n.drawings.rarrow,
      glyph_columns-copies s.width s.theme.characters.hbar (left - 3) n.drawings.hbar,
      ap glyph_columns (map-append (glyph_of s.width) (replicate (left - 3) s.theme.characters.hbar)
          (s.theme.characters.rarrow ∷ [])),
      glyph_columns-append (map (glyph_of s.width) (replicate (left - 3) s.theme.characters.hbar))
          (glyph_of s.width s.theme.characters.rarrow ∷ []),
    )

number_gutter-columns : (s : SnippetSettings) (n : IsNarrow s.width s.theme.characters) (line : Line) (left : ℕ)
    (labels : List DrawnLabel) → length labels ≤ left - 2 →
    glyph_columns (glyphs_of (number_gutter s line left labels)) ≡ left
number_gutter-columns s n line left [] h = alone (blank s left) ∙ glyph_columns-blank s.width left n.space
number_gutter-columns s n line left (label ∷ labels) h =
    by_cases {C = glyph_columns (glyphs_of (number_gutter s line left (label ∷ labels))) ≡ left}
    (starts_on line label)
    (λ y. rw y (arrow-columns s n label s.theme.characters.ltop left n.drawings.ltop (omega (arith, h))))
    (λ f. by_cases {C = glyph_columns (glyphs_of (number_gutter s line left (label ∷ labels))) ≡ left}
    (ends_on line label)
    (λ y. rw (f, y) (arrow-columns s n label (ending_corner s.theme.characters label.parts) left
    (corner-narrow s n label.parts) (omega (arith, h))))
    (λ g. rw (f, g) (front (styled_run s.width label.style (s.theme.characters.vbar ∷ []))
    (number_gutter s line (left - 1) labels)
    ∙ omega (arith, n.drawings.vbar, h, number_gutter-columns s n line (left - 1) labels (omega (arith, h))))))

-- the text of a number row begins where the marks' columns do
pub line_begins : (s : SnippetSettings) (w columns : ℕ) (labels : List DrawnLabel) (line : Line) (number : ℕ)
    (cells : List Cell) (pieces : List Highlight) → IsNarrow s.width s.theme.characters → HasRoom labels line columns →
    length (decimal number) ≤ w → HasText (text_start w columns) (text_of_line s labels line cells pieces)
    (line_rows (snippet_context s w columns labels (λ _. cells)) line number pieces)
line_begins s w columns labels line number cells pieces n room fits =
    let start : Row = number_start s w number in
    let gutter : Row = number_gutter s line columns (multi_line line labels) in
    let text : Row = text_of_line s labels line cells pieces in (
      glyphs_of start ++ glyphs_of gutter,
      glyphs_of-append (start ++ gutter) text ∙ ap (λ r. r ++ glyphs_of text) (glyphs_of-append start gutter),
      glyph_columns-append (glyphs_of start) (glyphs_of gutter)
          ∙ omega (
            arith,
            number_start-columns s w number n fits,
            number_gutter-columns s n line columns (multi_line line labels) room,
          ),
    )

-- the number comes before the gutter

pub number_start-codes : (s : SnippetSettings) (w number : ℕ) → glyphs_of (number_start s w number)
    ≡ map (glyph_of s.width) (number_codes s.theme.characters.vbar w number)
number_start-codes s w number =
    let padded : List ℕ = replicate (w - length (decimal number)) 32 ++ decimal number in
    ap (λ r. glyph_of s.width 32 ∷ r) (sym (map-append (glyph_of s.width) padded
    (32 ∷ s.theme.characters.vbar ∷ 32 ∷ [])))

pub line_numbered : (s : SnippetSettings) (w columns : ℕ) (labels : List DrawnLabel) (line : Line) (number : ℕ)
    (cells : List Cell) (pieces : List Highlight) → IsNarrow s.width s.theme.characters → HasRoom labels line columns →
    IsNumbered s w columns number (text_of_line s labels line cells pieces)
    (line_rows (snippet_context s w columns labels (λ _. cells)) line number pieces)
line_numbered s w columns labels line number cells pieces n room =
    let start : Row = number_start s w number in
    let gutter : Row = number_gutter s line columns (multi_line line labels) in
    let text : Row = text_of_line s labels line cells pieces in (
      glyphs_of gutter,
      glyphs_of-append (start ++ gutter) text ∙ ap (λ r. r ++ glyphs_of text) (glyphs_of-append start gutter
          ∙ ap (λ r. r ++ glyphs_of gutter) (number_start-codes s w number)),
      number_gutter-columns s n line columns (multi_line line labels) room,
    )
