-- Marks of a line that is cut stand, in its row, under what they stand under in the whole line.
use Rattle.std.proofs.Common.{◌≡◌, ℕ, ◌+◌, ◌-◌, ◌<◌, ◌≤◌, Bool, true, false, cond, ltb, List, [], ◌∷◌, ◌++◌, map}
use Rattle.std.proofs.Common.{Option}
use Rattle.std.proofs.Common.{Some, refl, sym, ap, ◌∙◌, subst, append_assoc, arith}
use Rattle.std.proofs.lemmas.Bool.{le-ltb, ltb-true, ltb-false}
use Rattle.std.specs.List.{AllByRecursion}
use Rattle.miette_lines.specs.rules.Lines.{Line}
use Rattle.miette_columns.specs.rules.Cells.{Cell}
use Rattle.miette_labels.specs.rules.Labels.{DrawnLabel, multi_line, one_line}
use Rattle.miette_lines.proofs.Cases.{by_cases}
use Rattle.miette_style.specs.rules.Rows.{Glyph, Run, glyph_columns}
use Rattle.miette_style.specs.rules.Themes.{Theme}
use Rattle.miette_snippet_rules.specs.rules.LabelColumns.{underline_ends, multi_line_ends}
use Rattle.miette_snippet_rules.specs.rules.CutLines.{LinePart, columns_in, cut_to, dots, dots_width, is_shown_at}
use Rattle.miette_snippet_rules.specs.rules.CutLines.{limit_of, row_column, row_columns, row_underline, row_underlines}
use Rattle.miette_snippet_rules.specs.rules.CutLines.{line_parts, with_short_parts}
use Rattle.miette_snippet_rules.specs.rules.Underlines.{AreApart, HasPointer, Underline}
use Rattle.miette_snippet_rules.specs.rules.PrintedCells.{printed_cells, printed_glyphs}
use Rattle.miette_snippet_rules.specs.rules.SnippetSettings.{SnippetSettings}
use Rattle.miette_snippet_rules.specs.rules.SnippetLayout.{cells_of, line_cut, line_underlines, text_of_cells}
use Rattle.miette_snippet_rules.proofs.CutColumns.{HasShownEnds, ends_shown, first_shown, underlines_in_row}
use Rattle.miette_snippet_rules.proofs.CutColumns.{row_follows}
use Rattle.miette_snippet_laws.specs.laws.Cuts.{AreMoved, IsMoved, IsSameAt, pieces_shown, glyph_at}
use Rattle.miette_snippet_laws.specs.laws.LineRows.{underlines_of_line}
use Rattle.miette_snippet_laws.proofs.Apart.{marks_apart}
use Rattle.miette_snippet_laws.proofs.CutLaws.{cut_limit}
use Rattle.miette_snippet_laws.proofs.CutShows.{cells_in, cut_cells, whole_cells}
use Rattle.miette_snippet_laws.proofs.CutWidth.{cells-columns, dots-columns, own-columns, own_pieces}
use Rattle.miette_snippet_laws.proofs.Whole.{line_columns}

-- ---- what stands at the columns of two texts, one after the other

pub standing-front : (a b : List Glyph) (column : ℕ) → column < glyph_columns a
    → glyph_at (a ++ b) column ≡ glyph_at a column
standing-front [] b column lt = absurd (omega (arith, lt))
standing-front (g ∷ a) b column lt =
    by_cases {C = glyph_at ((g ∷ a) ++ b) column ≡ glyph_at (g ∷ a) column} (ltb column g.columns)
    (λ y. rw y refl)
    (λ n. rw n (standing-front a b (column - g.columns) (omega (arith, lt, ltb-false column g.columns n))))

pub standing-after : (a b : List Glyph) (column : ℕ) → glyph_columns a ≤ column
    → glyph_at (a ++ b) column ≡ glyph_at b (column - glyph_columns a)
standing-after [] b column le = ap (glyph_at b) (omega arith)
standing-after (g ∷ a) b column le =
    let past : ltb column g.columns ≡ false = le-ltb column g.columns (omega (arith, le)) in
    rw past (standing-after a b (column - g.columns) (omega (arith, le)) ∙ ap (glyph_at b) (omega arith))

printed-append : (a b : List Cell) → printed_cells (a ++ b) ≡ printed_cells a ++ printed_cells b
printed-append [] b = refl
printed-append (c ∷ a) b = ap (λ r. printed_glyphs c ++ r) (printed-append a b)
    ∙ sym (append_assoc (printed_glyphs c) (printed_cells a) (printed_cells b))

-- ---- a column that is shown, in the row

module _ (run : Run) (many : ℕ) (all : glyph_columns run.glyphs ≡ many) where
  -- of a first stretch and of those after it
  here_same : (s : LinePart) (later : List LinePart) (column : ℕ) → s.shown ≡ true → column < columns_in s.cells →
      glyph_at (own_pieces run s ++ pieces_shown run later) column
      ≡ glyph_at (printed_cells (s.cells ++ cells_in later)) column
  here_same s later column shown lt =
      let own : List Glyph = printed_cells s.cells in
      let inside : column < glyph_columns own = omega (arith, lt, cells-columns s.cells) in
      ap (λ b. glyph_at (cond b own run.glyphs ++ pieces_shown run later) column) shown
      ∙ standing-front own (pieces_shown run later) column inside
      ∙ sym (ap (λ row. glyph_at row column) (printed-append s.cells (cells_in later))
      ∙ standing-front own (printed_cells (cells_in later)) column inside)

  later_same : (s : LinePart) (later : List LinePart) (column row : ℕ) → columns_in s.cells ≤ column →
      glyph_at (pieces_shown run later) row
      ≡ glyph_at (printed_cells (cells_in later)) (column - columns_in s.cells) →
      glyph_at (own_pieces run s ++ pieces_shown run later) (row_columns many s + row)
      ≡ glyph_at (printed_cells (s.cells ++ cells_in later)) column
  later_same s later column row le same =
      let own : List Glyph = printed_cells s.cells in
      let rest : List Glyph = printed_cells (cells_in later) in
      let width : glyph_columns (own_pieces run s) ≡ row_columns many s = own-columns run many s all in
      standing-after (own_pieces run s) (pieces_shown run later) (row_columns many s + row) (omega (arith, width))
      ∙ ap (glyph_at (pieces_shown run later)) (omega (arith, width))
      ∙ same
      ∙ sym (ap (λ r. glyph_at r column) (printed-append s.cells (cells_in later))
      ∙ standing-after own rest column (omega (arith, le, cells-columns s.cells))
      ∙ ap (λ columns. glyph_at rest (column - columns)) (cells-columns s.cells))

  same_at : (ss : List LinePart) (column : ℕ) → is_shown_at ss column ≡ true
      → IsSameAt run (cells_in ss) ss column (row_column many ss column)
  same_at [] column shown = refl
  same_at (s ∷ later) column shown =
      let columns : ℕ = columns_in s.cells in
      by_cases {C = IsSameAt run (cells_in (s ∷ later)) (s ∷ later) column (row_column many (s ∷ later) column)}
      (ltb column columns)
      (λ y. let own : s.shown ≡ true =
      sym (ap (λ t. cond t s.shown (is_shown_at later (column - columns))) y) ∙ shown in
      ap (glyph_at (own_pieces run s ++ pieces_shown run later)) (own_column y own)
      ∙ here_same s later column own (ltb-true column columns y))
      (λ n. let rest : is_shown_at later (column - columns) ≡ true =
      sym (ap (λ t. cond t s.shown (is_shown_at later (column - columns))) n) ∙ shown in
      ap (glyph_at (own_pieces run s ++ pieces_shown run later)) (later_column n)
      ∙ later_same s later column (row_column many later (column - columns)) (ltb-false column columns n)
      (same_at later (column - columns) rest))
    where
      own_column : ltb column (columns_in s.cells) ≡ true → s.shown ≡ true
          → row_column many (s ∷ later) column ≡ column
      own_column y own =
          ap (λ t. cond t (cond s.shown column 0)
          (row_columns many s + row_column many later (column - columns_in s.cells))) y
          ∙ ap (λ b. cond b column 0) own

      later_column : ltb column (columns_in s.cells) ≡ false →
          row_column many (s ∷ later) column
          ≡ row_columns many s + row_column many later (column - columns_in s.cells)
      later_column n =
          ap (λ t. cond t (cond s.shown column 0)
          (row_columns many s + row_column many later (column - columns_in s.cells))) n

  -- ---- a line's marks

  one_moved : (ss : List LinePart) (cells : List Cell) (m : Underline) → cells_in ss ≡ cells → HasPointer m
      → HasShownEnds ss m → IsMoved run cells ss m (row_underline many ss m)
  one_moved ss cells m whole pointer ends =
      let same : (column : ℕ) → is_shown_at ss column ≡ true
      → IsSameAt run cells ss column (row_column many ss column) =
      λ column shown. subst (λ (text : List Cell). IsSameAt run text ss column (row_column many ss column)) whole
      (same_at ss column shown) in record {
        first = same m.from ends.0;
        pointer = λ hangs. same m.pointer (ends.2 hangs);
        last = ap (glyph_at (pieces_shown run ss)) (one_less (row_column many ss (m.until - 1)))
            ∙ same (m.until - 1) ends.1;
        shown = λ column from until shown. (
          row_column many ss column,
          row_follows many ss m.from column from,
          omega (arith, row_follows many ss column (m.until - 1) (omega (arith, until))),
          same column shown,
        );
        label = refl;
      }
    where
      one_less : (n : ℕ) → n + 1 - 1 ≡ n
      one_less n = omega arith

  all_moved : (ss : List LinePart) (cells : List Cell) (reached : ℕ) (ms : List Underline) → cells_in ss ≡ cells
      → AreApart reached ms → AllByRecursion (HasShownEnds ss) ms
      → AreMoved run cells ss ms (map (row_underline many ss) ms)
  all_moved ss cells reached [] whole apart ends = tt
  all_moved ss cells reached (m ∷ ms) whole apart ends =
      (one_moved ss cells m whole apart.1 ends.0, all_moved ss cells m.until ms whole apart.2 ends.1)

pub columns_same : (near : Cell → Bool) (t : Theme) (cells : List Cell) (cut : List LinePart) (column : ℕ)
    → cut ≡ with_short_parts (dots_width t.characters) (line_parts near false cells) → is_shown_at cut column ≡ true →
    IsSameAt (dots t) cells cut column (row_column (dots_width t.characters) cut column)
columns_same near t cells cut column is shown =
    let many : ℕ = dots_width t.characters in
    let whole : cells_in cut ≡ cells = ap cells_in is ∙ whole_cells many near cells in
    subst (λ (text : List Cell). IsSameAt (dots t) text cut column (row_column many cut column)) whole
    (same_at (dots t) many (dots-columns t) cut column shown)

pub marks_moved : (s : SnippetSettings) (labels : List DrawnLabel) (source : List ℕ) (line : Line)
    (cut : List LinePart) →
    line_cut s line (cells_of s source line) (one_line line labels) (multi_line line labels) ≡ Some cut →
    AreMoved (dots s.theme) (cells_of s source line) cut
    (line_underlines line (cells_of s source line) (one_line line labels))
    (underlines_of_line s labels line (cells_of s source line))
marks_moved s labels source line cut is =
    let cells : List Cell = cells_of s source line in
    let own : List Underline = line_underlines line cells (one_line line labels) in
    let more : List ℕ = multi_line_ends line (text_of_cells cells line.text_end) (multi_line line labels) in
    let many : ℕ = dots_width s.theme.characters in
    let at = cut_limit many s.layout.line_columns (underline_ends own ++ more) cells cut is in
    let made : List LinePart = cut_to (limit_of at.0) many (underline_ends own ++ more) cells in
    subst (λ (o : Option (List LinePart)). AreMoved (dots s.theme) cells cut own (row_underlines many o own)) (sym is)
    (subst (λ (ss : List LinePart). AreMoved (dots s.theme) cells ss own (map (row_underline many ss) own)) (sym at.2)
    (all_moved (dots s.theme) many (dots-columns s.theme) made cells 0 own
    (cut_cells (limit_of at.0) many (underline_ends own ++ more) cells)
    (marks_apart (text_of_cells cells line.text_end) (one_line line labels))
    (underlines_in_row made own (first_shown made (underline_ends own) more
    (ends_shown (limit_of at.0) many (underline_ends own ++ more) cells (line_columns s source line))))))
