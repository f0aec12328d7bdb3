-- Labels at the end of a source on a line that is cut: their marks stand after what is shown of the line.
use Rattle.std.proofs.Common.{◌≡◌, ℕ, ◌+◌, ◌-◌, ◌<◌, ◌≤◌, max, Bool, true, false, cond, ltb, leb, List, [], ◌∷◌, map}
use Rattle.std.proofs.Common.{sym}
use Rattle.std.proofs.Common.{ap, ◌∙◌, subst, Option, Some, None, arith}
use Rattle.std.proofs.lemmas.Bool.{le-ltb, leb-true, leb-false, ltb-true, ltb-false}
use Rattle.miette_lines.specs.rules.Lines.{Line}
use Rattle.miette_labels.specs.rules.Answers.{Highlight}
use Rattle.miette_columns.specs.rules.Cells.{Cell}
use Rattle.miette_labels.specs.rules.Labels.{DrawnLabel, multi_line, one_line}
use Rattle.miette_lines.proofs.Cases.{by_cases}
use Rattle.miette_style.specs.rules.Rows.{glyph_columns, glyphs_of}
use Rattle.miette_style.specs.rules.Themes.{Theme}
use Rattle.miette_snippet_rules.specs.rules.CutLines.{LinePart, columns_in, cut_line, cut_to, dots, dots_width}
use Rattle.miette_snippet_rules.specs.rules.CutLines.{limit_of}
use Rattle.miette_snippet_rules.specs.rules.CutLines.{row_column, row_underline, row_underlines, shown_runs}
use Rattle.miette_snippet_rules.specs.rules.CutLines.{text_columns}
use Rattle.miette_snippet_rules.specs.rules.Underlines.{AreApart, Underline, MeasuredText}
use Rattle.miette_snippet_rules.specs.rules.PrintedCells.{cells_width}
use Rattle.miette_snippet_rules.specs.rules.SnippetLayout.{cells_of, cut_ends, line_underlines, text_of_cells}
use Rattle.miette_snippet_rules.proofs.CutColumns.{AreColumns, columns_in-append}
use Rattle.miette_snippet_laws.specs.laws.Ends.{AreAfterShown, BeginAfter}
use Rattle.miette_snippet_laws.proofs.Apart.{marks_apart}
use Rattle.miette_snippet_laws.proofs.CleanTexts.{line_same}
use Rattle.miette_snippet_laws.proofs.CutShows.{cells_in, cut_cells, cut_pieces}
use Rattle.miette_snippet_laws.proofs.CutWidth.{cells-columns, dots-columns, dots_some, pieces-columns, whole-columns}
use Rattle.miette_snippet_laws.proofs.EndLabels.{all_after_text}
use Rattle.miette_snippet_laws.proofs.Whole.{line_columns}
use Rattle.miette_snippet_rules.specs.rules.SnippetSettings.{SnippetSettings}

-- ---- columns of the row: after all stretches, and before

module _ (many : ℕ) (dotted : 0 < many) where
  row_past : (ss : List LinePart) (column : ℕ) → columns_in (cells_in ss) ≤ column
      → row_column many ss column ≡ text_columns many ss + (column - columns_in (cells_in ss))
  row_past [] column le = omega arith
  row_past (s ∷ later) column le =
      let all : columns_in (cells_in (s ∷ later)) ≡ columns_in s.cells + columns_in (cells_in later) =
      columns_in-append s.cells (cells_in later) in
      let past : ltb column (columns_in s.cells) ≡ false = le-ltb column (columns_in s.cells)
      (omega (arith, le, all)) in
      rw past (omega (arith, all, row_past later (column - columns_in s.cells) (omega (arith, le, all))))

  row_before : (ss : List LinePart) (column : ℕ) → column < columns_in (cells_in ss)
      → row_column many ss column < text_columns many ss
  row_before [] column lt = absurd (omega (arith, lt))
  row_before (s ∷ later) column lt =
      let columns : ℕ = columns_in s.cells in
      let all : columns_in (cells_in (s ∷ later)) ≡ columns + columns_in (cells_in later) =
      columns_in-append s.cells (cells_in later) in
      by_cases {C = row_column many (s ∷ later) column < text_columns many (s ∷ later)} (ltb column columns)
      (λ y. rw y (omega (arith, within s.shown columns (ltb-true column columns y))))
      (λ n. rw n (omega (
        arith,
        row_before later (column - columns) (omega (arith, lt, all, ltb-false column columns n)),
      )))
    where
      within : (shown : Bool) (columns : ℕ) → column < columns → cond shown column 0 < cond shown columns many
      within true columns less = less
      within false columns less = dotted

  -- the column where a mark ends, or the one after the text where that is later
  row_after : (ss : List LinePart) (until : ℕ) → 0 < until →
      row_column many ss (max (columns_in (cells_in ss)) until)
      ≡ max (text_columns many ss) (row_column many ss (until - 1) + 1)
  row_after ss until some =
      let all : ℕ = columns_in (cells_in ss) in
      by_cases {C = row_column many ss (max all until)
      ≡ max (text_columns many ss) (row_column many ss (until - 1) + 1)} (leb until all)
      (λ y. let le : until ≤ all = leb-true until all y in
      ap (row_column many ss) (later until all le)
      ∙ omega (arith, row_past ss all (omega arith), row_before ss (until - 1) (omega (arith, some, le))))
      (λ n. let lt : all < until = leb-false until all n in
      ap (row_column many ss) (sooner until all lt)
      ∙ omega (
        arith,
        row_past ss until (omega (arith, lt)),
        row_past ss (until - 1) (omega (arith, lt)),
        lt,
      ))
    where
      later : (a b : ℕ) → a ≤ b → max b a ≡ b
      later a b le = omega (arith, le)

      sooner : (a b : ℕ) → b < a → max b a ≡ a
      sooner a b lt = omega (arith, lt)

  -- ---- marks of labels after the text

  moved_after : (ss : List LinePart) (columns shown reached low : ℕ) (ms : List Underline)
      → columns_in (cells_in ss) ≡ columns → shown ≡ text_columns many ss
      → row_column many ss (max columns reached) ≡ max shown low → AreApart reached ms
      → BeginAfter columns reached ms → BeginAfter shown low (map (row_underline many ss) ms)
  moved_after ss columns shown reached low [] all is here apart h = tt
  moved_after ss columns shown reached low (m ∷ ms) all is here apart h =
      let last : ℕ = row_column many ss (m.until - 1) + 1 in
      let next : row_column many ss (max columns m.until) ≡ max shown last =
      ap (λ c. row_column many ss (max c m.until)) (sym all)
      ∙ row_after ss m.until (omega (arith, apart.1.0, apart.1.1))
      ∙ ap (λ w. max w last) (sym is) in (
        λ after. ap (row_column many ss) (h.0 after) ∙ here,
        moved_after ss columns shown m.until last ms all is next apart.2 h.1,
      )

  -- before the first mark
  first_after : (ss : List LinePart) (columns shown : ℕ) → columns_in (cells_in ss) ≡ columns
      → shown ≡ text_columns many ss → row_column many ss (max columns 0) ≡ max shown 0
  first_after ss columns shown all is =
      let from : max columns 0 ≡ columns_in (cells_in ss) = omega (arith, all) in
      ap (row_column many ss) from ∙ omega (arith, is, row_past ss (columns_in (cells_in ss)) (omega arith))

same_after : (columns shown : ℕ) (ms : List Underline) → shown ≡ columns → BeginAfter columns 0 ms
    → BeginAfter shown 0 ms
same_after columns shown ms e h = subst (λ (n : ℕ). BeginAfter n 0 ms) (sym e) h

line_width : (cells : List Cell) → AreColumns 0 cells → columns_in cells ≡ cells_width 0 cells
line_width cells h = omega (arith, whole-columns 0 cells h)

-- a line's text in its row, where it is cut around these columns
abbrev text_cut : Theme → Option ℕ → List ℕ → List Cell → List Highlight → ℕ
text_cut t limit all cells pieces =
    glyph_columns (glyphs_of (shown_runs (dots t) (cut_line (dots_width t.characters) limit all cells) pieces cells))

shown_after : (t : Theme) (limit : Option ℕ) (ms : List Underline) (all : List ℕ) (cells : List Cell)
    (pieces : List Highlight) → AreColumns 0 cells → AreApart 0 ms → BeginAfter (cells_width 0 cells) 0 ms →
    BeginAfter (text_cut t limit all cells pieces) 0
    (row_underlines (dots_width t.characters) (cut_line (dots_width t.characters) limit all cells) ms)
shown_after t None ms all cells pieces h apart after =
    same_after (cells_width 0 cells) (text_cut t None all cells pieces) ms
    (ap glyph_columns (line_same pieces cells) ∙ cells-columns cells ∙ line_width cells h) after
shown_after t (Some limit) ms all cells pieces h apart after =
    let many : ℕ = dots_width t.characters in
    let ss : List LinePart = cut_to (limit_of limit) many all cells in
    let shown : ℕ = glyph_columns (glyphs_of (shown_runs (dots t) (Some ss) pieces cells)) in
    let whole : columns_in (cells_in ss) ≡ cells_width 0 cells =
    ap columns_in (cut_cells (limit_of limit) many all cells) ∙ line_width cells h in
    let is : shown ≡ text_columns many ss =
    ap glyph_columns (cut_pieces (dots t) pieces 0 ss) ∙ pieces-columns (dots t) many ss (dots-columns t) in
    by_cases {C = BeginAfter (text_cut t (Some limit) all cells pieces) 0
    (row_underlines many (cut_line many (Some limit) all cells) ms)} (ltb (limit_of limit) (cells_width 0 cells))
    (λ y. rw y (moved_after many (dots_some t.characters) ss (cells_width 0 cells) shown 0 0 ms whole is
    (first_after many (dots_some t.characters) ss (cells_width 0 cells) shown whole is) apart after))
    (λ n. rw n (same_after (cells_width 0 cells) (text_cut t None all cells pieces) ms
    (ap glyph_columns (line_same pieces cells) ∙ cells-columns cells ∙ line_width cells h) after))

pub after_shown : (s : SnippetSettings) (labels : List DrawnLabel) (source : List ℕ) (line : Line)
    (pieces : List Highlight) → AreAfterShown s labels line (cells_of s source line) pieces
after_shown s labels source line pieces =
    let cells : List Cell = cells_of s source line in
    let one : List DrawnLabel = one_line line labels in
    let text : MeasuredText = text_of_cells cells line.text_end in
    shown_after s.theme s.layout.line_columns (line_underlines line cells one)
    (cut_ends line cells one (multi_line line labels)) cells pieces (line_columns s source line)
    (marks_apart text one) (all_after_text text one)
