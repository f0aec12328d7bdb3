-- How many rows a line has.
use Rattle.std.proofs.Common.{ℕ, ◌-◌, ◌≡◌, List, [], ◌∷◌, ◌++◌, length, map, None, Some, Option, refl, ap, ◌∙◌, arith}
use Rattle.std.proofs.Common.{length-append}
use Rattle.std.proofs.lemmas.List.{length-map}
use Rattle.miette_style.specs.rules.Rows.{Row}
use Rattle.miette_lines.specs.rules.Lines.{Line}
use Rattle.miette_columns.specs.rules.Cells.{Cell}
use Rattle.miette_labels.specs.rules.Answers.{Highlight}
use Rattle.miette_labels.specs.rules.Labels.{DrawnLabel, one_line, multi_line, closing_labels}
use Rattle.miette_snippet_rules.specs.rules.CutLines.{LinePart, dots_width, row_underline, row_underlines}
use Rattle.miette_snippet_rules.specs.rules.Underlines.{MeasuredText, Underline, underline_until, underlines_from}
use Rattle.miette_snippet_rules.specs.rules.LabelRows.{label_text_row, beside, rows_of_parts, label_text_rows}
use Rattle.miette_snippet_rules.specs.rules.LabelRows.{underline_rows}
use Rattle.miette_snippet_rules.specs.rules.Gutters.{closing_parts, closing_rows, other_gutter, open_gutter, part_run}
use Rattle.miette_snippet_rules.specs.rules.Frames.{other_start}
use Rattle.miette_snippet_rules.specs.rules.SnippetLayout.{before_each, line_cut, line_rows, line_underlines}
use Rattle.miette_snippet_rules.specs.rules.SnippetLayout.{snippet_context, text_of_cells}
use Rattle.miette_snippet_rules.specs.rules.SnippetSettings.{SnippetSettings}
use Rattle.miette_snippet_laws.specs.laws.LineRows.{count_text_rows, rows_with_marks, many_rows, underlines_of_line}

-- the labels of marks
abbrev labels_of : List Underline → List DrawnLabel
labels_of ms = map (λ m. m.label) ms

labels_from : (text : MeasuredText) (reached : ℕ) (labels : List DrawnLabel)
    → labels_of (underlines_from text reached labels)
    ≡ labels
labels_from text reached [] = refl
labels_from text reached (label ∷ labels) =
    ap (λ ls. label ∷ ls) (labels_from text (underline_until text reached label) labels)

labels_moved : (many : ℕ) (cut : List LinePart) (ms : List Underline) → labels_of (map (row_underline many cut) ms)
    ≡ labels_of ms
labels_moved many cut [] = refl
labels_moved many cut (m ∷ ms) = ap (λ ls. m.label ∷ ls) (labels_moved many cut ms)

labels_shown : (many : ℕ) (cut : Option (List LinePart)) (ms : List Underline) → labels_of (row_underlines many cut ms)
    ≡ labels_of ms
labels_shown many None ms = refl
labels_shown many (Some cut) ms = labels_moved many cut ms

-- each part of a text has one row
parts_count : (s : SnippetSettings) (earlier : List Underline) (m : Underline) (parts : List (List ℕ))
    → length (rows_of_parts s earlier m parts) ≡ length parts
parts_count s earlier m [] = refl
parts_count s earlier m (part ∷ []) = refl
parts_count s earlier m (part ∷ next ∷ parts) =
    omega (arith, length-map (next ∷ parts) (label_text_row s earlier m (beside s.theme.characters)))

below_count : (s : SnippetSettings) (earlier ms : List Underline) → length (label_text_rows s earlier ms)
    ≡ count_text_rows (labels_of ms)
below_count s earlier [] = refl
below_count s earlier (m ∷ ms) =
    length-append (label_text_rows s (earlier ++ m ∷ []) ms) (rows_of_parts s earlier m m.label.parts)
    ∙ omega (arith, below_count s (earlier ++ m ∷ []) ms, parts_count s earlier m m.label.parts)

marked_count : (s : SnippetSettings) (ms : List Underline) → length (underline_rows s ms)
    ≡ rows_with_marks (labels_of ms)
marked_count s [] = refl
marked_count s (m ∷ ms) = omega (arith, below_count s [] (m ∷ ms))

closing_count : (s : SnippetSettings) (line : Line) (columns : ℕ) (labels : List DrawnLabel) (label : DrawnLabel)
    (parts : List (List ℕ)) → length (closing_parts s line columns labels label parts) ≡ length parts
closing_count s line columns labels label [] = refl
closing_count s line columns labels label (part ∷ []) = refl
closing_count s line columns labels label (part ∷ next ∷ parts) =
    omega (
      arith,
      length-map (next ∷ parts) (λ p. open_gutter s line (columns - 1) labels
          ++ part_run s label s.theme.characters.vbar p ∷ []),
    )

ending_count : (s : SnippetSettings) (line : Line) (columns : ℕ) (labels ending : List DrawnLabel)
    → length (closing_rows s line columns labels ending) ≡ count_text_rows ending
ending_count s line columns labels [] = refl
ending_count s line columns labels (label ∷ ending) =
    length-append (closing_parts s line columns labels label label.parts) (closing_rows s line columns labels ending)
    ∙ omega (arith, closing_count s line columns labels label label.parts, ending_count s line columns labels ending)

pub labels_are : (s : SnippetSettings) (labels : List DrawnLabel) (line : Line) (cells : List Cell)
    → labels_of (underlines_of_line s labels line cells) ≡ one_line line labels
labels_are s labels line cells =
    labels_shown (dots_width s.theme.characters) (line_cut s line cells (one_line line labels) (multi_line line labels))
    (line_underlines line cells (one_line line labels))
    ∙ labels_from (text_of_cells cells line.text_end) 0 (one_line line labels)

pub line_count : (s : SnippetSettings) (w columns : ℕ) (labels : List DrawnLabel) (line : Line) (number : ℕ)
    (cells : List Cell) (pieces : List Highlight) →
    length (line_rows (snippet_context s w columns labels (λ _. cells)) line number pieces) ≡ many_rows line labels
line_count s w columns labels line number cells pieces =
    let multi : List DrawnLabel = multi_line line labels in
    let ms : List Underline = underlines_of_line s labels line cells in
    let ending : List DrawnLabel = closing_labels line multi in
    let under : Row = other_start s w ++ other_gutter s line columns multi in
    omega (
      arith,
      length-append (before_each under (underline_rows s ms))
          (before_each (other_start s w) (closing_rows s line columns multi ending)),
      length-map (underline_rows s ms) (λ row. under ++ row),
      length-map (closing_rows s line columns multi ending) (λ row. other_start s w ++ row),
      marked_count s ms,
      ap rows_with_marks (labels_are s labels line cells),
      ending_count s line columns multi ending,
    )
