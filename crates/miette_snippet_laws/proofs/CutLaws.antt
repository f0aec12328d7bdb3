-- Lines that are cut, in the rows of snippets: which are, how wide they are, and that lines which fit stay as they are.
use Rattle.std.proofs.Common.{◌≡◌, ◌≢◌, ℕ, ◌+◌, ◌<◌, ◌≤◌, max, Bool, false, cond, leb, ltb, List, [], ◌∷◌, ◌++◌, length}
use Rattle.std.proofs.Common.{refl, sym, option_map, ◌||◌}
use Rattle.std.proofs.Common.{ap, ap₂, ◌∙◌, subst, Option, Some, None, drop}
use Rattle.std.proofs.lemmas.Bool.{le-ltb, lt-ltb, leb-true, leb-false}
use Rattle.std.specs.List.{AllByRecursion}
use Rattle.miette_lines.specs.rules.Lines.{Line}
use Rattle.miette_protocol.specs.views.Meaning.{Label}
use Rattle.miette_protocol.specs.rules.Reading.{Contents, Source, Span}
use Rattle.miette_labels.specs.rules.Answers.{Answers, Highlight, first_of}
use Rattle.miette_columns.specs.rules.Cells.{Cell}
use Rattle.miette_labels.specs.rules.Contexts.{contents, lines_of_contents}
use Rattle.miette_labels.specs.rules.Groups.{groups_fail, groups_of, in_order, first_refusal, some_fails}
use Rattle.miette_labels.specs.rules.Labels.{DrawnLabel, one_line, multi_line}
use Rattle.miette_style.specs.rules.Rows.{Row, glyph_columns, glyphs_of}
use Rattle.miette_lines.proofs.Cases.{by_cases}
use Rattle.miette_snippet_rules.specs.rules.CutLines.{LinePart, cut_at, cut_line, cut_to, dots, dots_width}
use Rattle.miette_snippet_rules.specs.rules.CutLines.{largest_passing}
use Rattle.miette_snippet_rules.specs.rules.CutLines.{limit_of, reach_of, row_underlines, shown_runs, line_parts}
use Rattle.miette_snippet_rules.specs.rules.CutLines.{text_columns, with_short_parts}
use Rattle.miette_snippet_rules.specs.rules.LabelRows.{underline_rows}
use Rattle.miette_snippet_rules.specs.rules.FoldedLabels.{LabelExtent, extents_of_labels}
use Rattle.miette_snippet_rules.specs.rules.Frames.{bottom_row, number_start, other_start, number_width, refused_row}
use Rattle.miette_snippet_rules.specs.rules.Frames.{top_row}
use Rattle.miette_snippet_rules.specs.rules.Gutters.{closing_rows, gutter_columns, number_gutter, other_gutter}
use Rattle.miette_snippet_rules.specs.rules.PrintedCells.{cells_width}
use Rattle.miette_snippet_rules.specs.rules.SnippetLayout.{before_each, body_rows, break_row, cells_of, cut_ends}
use Rattle.miette_snippet_rules.specs.rules.SnippetLayout.{left_out, line_cut, line_underlines, line_or_break}
use Rattle.miette_snippet_rules.specs.rules.SnippetLayout.{line_rows}
use Rattle.miette_snippet_rules.specs.rules.SnippetLayout.{all_snippets, drawn_labels, place_of, rows_of_lines}
use Rattle.miette_snippet_rules.specs.rules.SnippetLayout.{rows_unless, settings_around, snippet_rows}
use Rattle.miette_labels.specs.rules.Labels.{closing_labels}
use Rattle.miette_snippet_rules.proofs.CutColumns.{AreColumns, ends_shown}
use Rattle.miette_snippet_rules.proofs.TextColumns.{largest_over, largest_passes, largest_within}
use Rattle.miette_snippet_laws.specs.laws.Cuts.{FitsLimit, GroupsFit, IsCutBy, IsCutByReach, IsReach, is_near_by}
use Rattle.miette_snippet_laws.specs.laws.LineRows.{text_of_line}
use Rattle.miette_snippet_laws.proofs.CutShows.{cut_by}
use Rattle.miette_snippet_laws.proofs.CutWidth.{row_bound}
use Rattle.miette_snippet_laws.proofs.Whole.{line_columns}
use Rattle.miette_snippet_rules.specs.rules.SnippetLayout.{snippet_context}
use Rattle.miette_snippet_rules.specs.rules.SnippetSettings.{SnippetSettings, uncut}

pub rows_narrow : (s : SnippetSettings) (labels : List DrawnLabel) (source : List ℕ) (line : Line)
    (pieces : List Highlight) (limit : ℕ) → s.layout.line_columns ≡ Some limit →
    glyph_columns (glyphs_of (text_of_line s labels line (cells_of s source line) pieces))
    ≤ max (limit_of limit) (text_columns (dots_width s.theme.characters) (cut_at (dots_width s.theme.characters) 0
    (cut_ends line (cells_of s source line) (one_line line labels) (multi_line line labels)) (cells_of s source line)))
rows_narrow s labels source line pieces limit is =
    let cells : List Cell = cells_of s source line in
    let all : List ℕ = cut_ends line cells (one_line line labels) (multi_line line labels) in
    let many : ℕ = dots_width s.theme.characters in
    subst (λ (o : Option ℕ). glyph_columns (glyphs_of (shown_runs (dots s.theme) (cut_line many o all cells) pieces
    cells))
    ≤ max (limit_of limit) (text_columns many (cut_at many 0 all cells))) (sym is)
    (row_bound s.theme limit pieces all cells (line_columns s source line))

-- ---- which lines are cut

pub cut_some : (many limit : ℕ) (all : List ℕ) (cells : List Cell) → limit_of limit < cells_width 0 cells
    → cut_line many (Some limit) all cells ≡ Some (cut_to (limit_of limit) many all cells)
cut_some many limit all cells lt = rw (lt-ltb (limit_of limit) (cells_width 0 cells) lt) refl

pub some_not : (o : Option (List LinePart)) (ss : List LinePart) → o ≡ Some ss → o ≢ None
some_not o ss some none = absurd (cc)

pub wide_cut : (s : SnippetSettings) (labels : List DrawnLabel) (source : List ℕ) (line : Line) (limit : ℕ)
    → s.layout.line_columns ≡ Some limit → limit_of limit < cells_width 0 (cells_of s source line) →
    line_cut s line (cells_of s source line) (one_line line labels) (multi_line line labels) ≢ None
wide_cut s labels source line limit is lt =
    let cells : List Cell = cells_of s source line in
    let all : List ℕ = cut_ends line cells (one_line line labels) (multi_line line labels) in
    let many : ℕ = dots_width s.theme.characters in
    subst (λ (o : Option ℕ). cut_line many o all cells ≢ None) (sym is)
    (some_not (cut_line many (Some limit) all cells) (cut_to (limit_of limit) many all cells)
    (cut_some many limit all cells lt))

-- a line that is cut is cut at some limit
pub cut_limit : (many : ℕ) (o : Option ℕ) (all : List ℕ) (cells : List Cell) (cut : List LinePart)
    → cut_line many o all cells ≡ Some cut →
    (limit : ℕ) × (o ≡ Some limit) × (cut ≡ cut_to (limit_of limit) many all cells)
cut_limit many None all cells cut is = absurd (cc)
cut_limit many (Some n) all cells cut is =
    let own : List LinePart = cut_to (limit_of n) many all cells in
    let goal : Type 0 = (limit : ℕ) × (Some n ≡ Some limit) × (cut ≡ cut_to (limit_of limit) many all cells) in
    by_cases {C = goal} (ltb (limit_of n) (cells_width 0 cells))
    (λ y. let there : Some own ≡ Some cut = sym (ap (λ b. cond b (Some own) None) y) ∙ is in
    let same : cut ≡ own = cc in (n, refl, same))
    (λ f. let none : None ≡ Some cut = sym (ap (λ b. cond b (Some own) None) f) ∙ is in absurd (cc))

-- ---- lines are cut by their reach

-- the cut of a line by which of its cells are near, with `many` dots for what is left out
pub near_to : (limit many : ℕ) (all : List ℕ) (cells : List Cell)
    → cut_to limit many all cells
    ≡ with_short_parts many (line_parts (is_near_by limit many (reach_of limit many all cells) all) false cells)
near_to limit many [] cells = refl
near_to limit many (e ∷ es) cells = refl

pub reach_is : (limit many : ℕ) (all : List ℕ) (cells : List Cell)
    → IsReach limit many all cells (reach_of limit many all cells)
reach_is limit many all cells =
    let columns : ℕ → ℕ = λ reach. text_columns many (cut_at many reach all cells) in
    let fits : ℕ → Bool = λ reach. leb (columns reach) limit in record {
      bounded = largest_within fits limit;
      fits = λ some. leb-true (columns (largest_passing fits limit)) limit (largest_passes fits limit some);
      largest = λ more over le. leb-false (columns more) limit (largest_over fits limit more over le);
    }

cut_reach : (limit many : ℕ) (all : List ℕ) (cells : List Cell) → AreColumns 0 cells
    → IsCutByReach limit many all cells (cut_to limit many all cells)
cut_reach limit many all cells h =
    let reach : ℕ = reach_of limit many all cells in
    let near : Cell → Bool = is_near_by limit many reach all in record {
      reach = reach;
      is_reach = λ some. reach_is limit many all cells;
      is_cut = subst (λ (ss : List LinePart). IsCutBy near many cells ss) (sym (near_to limit many all cells))
          (cut_by near many cells);
      shown = ends_shown limit many all cells h;
    }

some_same : (a b : ℕ) → Some a ≡ Some b → a ≡ b
some_same a b h = cc

pub cut_by_reach : (s : SnippetSettings) (labels : List DrawnLabel) (source : List ℕ) (line : Line) (limit : ℕ)
    (cut : List LinePart) → s.layout.line_columns ≡ Some limit →
    line_cut s line (cells_of s source line) (one_line line labels) (multi_line line labels) ≡ Some cut →
    IsCutByReach (limit_of limit) (dots_width s.theme.characters)
    (cut_ends line (cells_of s source line) (one_line line labels) (multi_line line labels))
    (cells_of s source line) cut
cut_by_reach s labels source line limit cut some is =
    let cells : List Cell = cells_of s source line in
    let all : List ℕ = cut_ends line cells (one_line line labels) (multi_line line labels) in
    let many : ℕ = dots_width s.theme.characters in
    let at = cut_limit many s.layout.line_columns all cells cut is in
    let own : limit ≡ at.0 = some_same limit at.0 (sym some ∙ at.1) in
    subst (λ (ss : List LinePart). IsCutByReach (limit_of limit) many all cells ss) (sym at.2)
    (subst (λ (n : ℕ). IsCutByReach (limit_of limit) many all cells (cut_to (limit_of n) many all cells)) own
    (cut_reach (limit_of limit) many all cells (line_columns s source line)))

-- ---- lines that fit

pub cut_none : (many : ℕ) (limit : Option ℕ) (all : List ℕ) (cells : List Cell) → FitsLimit limit cells
    → cut_line many limit all cells ≡ None
cut_none many None all cells h = refl
cut_none many (Some limit) all cells h = rw (le-ltb (limit_of limit) (cells_width 0 cells) h) refl

pub fits_whole : (s : SnippetSettings) (labels : List DrawnLabel) (source : List ℕ) (line : Line)
    → FitsLimit s.layout.line_columns (cells_of s source line) →
    line_cut s line (cells_of s source line) (one_line line labels) (multi_line line labels) ≡ None
fits_whole s labels source line fits =
    let cells : List Cell = cells_of s source line in
    cut_none (dots_width s.theme.characters) s.layout.line_columns
    (cut_ends line cells (one_line line labels) (multi_line line labels)) cells fits

line_stays : (s : SnippetSettings) (w columns : ℕ) (labels : List DrawnLabel) (line : Line) (number : ℕ)
    (cells : List Cell) (pieces : List Highlight) → FitsLimit s.layout.line_columns cells →
    line_rows (snippet_context s w columns labels (λ _. cells)) line number pieces
    ≡ line_rows (snippet_context (uncut s) w columns labels (λ _. cells)) line number pieces
line_stays s w columns labels line number cells pieces fits =
    let one : List DrawnLabel = one_line line labels in
    let multi : List DrawnLabel = multi_line line labels in
    ap (λ o. (number_start s w number ++ number_gutter s line columns multi
    ++ shown_runs (dots s.theme) o pieces cells)
    ∷ before_each (other_start s w ++ other_gutter s line columns multi)
    (underline_rows s (row_underlines (dots_width s.theme.characters) o (line_underlines line cells one)))
    ++ before_each (other_start s w) (closing_rows s line columns multi (closing_labels line multi)))
    (cut_none (dots_width s.theme.characters) s.layout.line_columns (cut_ends line cells one multi) cells fits)

line_or_break_stays : (gap out : Bool) (s : SnippetSettings) (w columns : ℕ) (labels : List DrawnLabel) (line : Line)
    (number : ℕ) (cells : List Cell) (pieces : List Highlight) → FitsLimit s.layout.line_columns cells →
    line_or_break gap out (snippet_context s w columns labels (λ _. cells)) line number pieces
    ≡ line_or_break gap out (snippet_context (uncut s) w columns labels (λ _. cells)) line number pieces
line_or_break_stays gap out s w columns labels line number cells pieces fits =
    ap (λ rows. cond out (cond gap [] (break_row s w (multi_line line labels) ∷ [])) rows)
    (line_stays s w columns labels line number cells pieces fits)

lines_stay : (out : ℕ → Line → Bool) (gap : Bool) (s : SnippetSettings) (w columns : ℕ) (labels : List DrawnLabel)
    (source : List ℕ) (number : ℕ) (pieces : List (List Highlight)) (lines : List Line) →
    AllByRecursion (λ line. FitsLimit s.layout.line_columns (cells_of s source line)) lines →
    rows_of_lines out gap (snippet_context s w columns labels (cells_of s source)) number pieces lines
    ≡ rows_of_lines out gap (snippet_context (uncut s) w columns labels (cells_of (uncut s) source)) number pieces lines
lines_stay out gap s w columns labels source number pieces [] h = refl
lines_stay out gap s w columns labels source number pieces (line ∷ lines) h =
    ap₂ (λ a b. a ++ b) (line_or_break_stays gap (out number line) s w columns labels line number
    (cells_of s source line) (first_of pieces) h.0) (lines_stay out (out number line) s w columns labels source
    (number + 1) (drop 1 pieces) lines h.1)

pub bodies_stay : (s : SnippetSettings) (label_extents : List LabelExtent) (labels : List DrawnLabel) (source : List ℕ)
    (read : Contents) (pieces : List (List Highlight)) → AllByRecursion
    (λ line. FitsLimit s.layout.line_columns (cells_of s source line)) (lines_of_contents read) →
    body_rows s label_extents labels source read pieces ≡ body_rows (uncut s) label_extents labels source read pieces
bodies_stay s label_extents labels source read pieces h =
    lines_stay (left_out s read.line (lines_of_contents read) label_extents) false s (number_width read)
    (gutter_columns labels (lines_of_contents read)) labels source (read.line + 1) pieces (lines_of_contents read) h

-- the rows of a report's snippets
groups_stay : (s : SnippetSettings) (label_extents : List LabelExtent) (source : Source) (labels : List Label)
    (pieces : List (List (List Highlight))) (groups : List Span) → GroupsFit s source groups →
    all_snippets s label_extents source labels pieces groups
    ≡ all_snippets (uncut s) label_extents source labels pieces groups
groups_stay s label_extents source labels pieces [] fit = refl
groups_stay s label_extents source labels pieces (group ∷ groups) fit =
    let read : Contents = contents s.layout.context_lines source group in
    ap₂ (λ body more. (top_row s read (place_of source group labels) ∷ body ++ bottom_row s (number_width read) ∷ [])
    ++ more)
    (bodies_stay s label_extents (drawn_labels s (length source.bytes) labels) source.bytes read (first_of pieces)
    fit.0)
    (groups_stay s label_extents source labels (drop 1 pieces) groups fit.1)

unless_stay : (s : SnippetSettings) (source : Source) (labels : List Label) (answers : Answers) (refused : Option Row)
    → GroupsFit (settings_around s labels) source (groups_of s.layout.context_lines source answers.join_fails labels)
    → rows_unless s source labels answers refused ≡ rows_unless (uncut s) source labels answers refused
unless_stay s source labels answers (Some row) fit = refl
unless_stay s source labels answers None fit =
    let groups : List Span = groups_of s.layout.context_lines source answers.join_fails labels in
    ap (λ rows. cond (groups_fail s.layout.context_lines source answers.join_fails labels
    || some_fails answers.place_fails groups) None (Some rows))
    (groups_stay (settings_around s labels) (extents_of_labels s.layout.label_lines s.layout.context_lines source
    labels)
    source labels answers.pieces groups fit)

pub rows_stay : (s : SnippetSettings) (source : Source) (labels : List Label) (answers : Answers) →
    GroupsFit (settings_around s (in_order labels)) source
    (groups_of s.layout.context_lines source answers.join_fails (in_order labels)) →
    snippet_rows s source labels answers ≡ snippet_rows (uncut s) source labels answers
rows_stay s source labels answers fit =
    unless_stay s source (in_order labels) answers
    (option_map (refused_row s) (first_refusal source.bytes answers.label_fails (in_order labels))) fit
