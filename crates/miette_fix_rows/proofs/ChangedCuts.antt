-- How changed and unchanged lines of a fix are cut, and what their rows show.
use Rattle.std.proofs.Common.{◌≡◌, ◌≢◌, ℕ, ◌+◌, ◌-◌, ◌<◌, ◌≤◌, Bool, true, false, cond, leb, ltb, List, [], ◌∷◌, ◌++◌}
use Rattle.std.proofs.Common.{length, map, replicate, decimal, Option, Some, None, refl, sym, ap, subst, ◌∙◌, arith}
use Rattle.std.proofs.lemmas.Bool.{and_from, le-leb, le-ltb, lt-ltb, or_left, or_right}
use Rattle.std.proofs.lemmas.List.{map-append}
use Rattle.std.specs.List.{AllByRecursion, list_any}
use Rattle.miette_lines.proofs.Cases.{by_cases}
use Rattle.miette_columns.specs.rules.Cells.{Cell, characters}
use Rattle.miette_labels.specs.rules.Answers.{Highlight}
use Rattle.miette_style.specs.rules.Rows.{Row, Run, glyph_of, glyphs_of}
use Rattle.miette_snippet_rules.specs.rules.CutLines.{LinePart, cut_at, cut_by, cut_line, cut_line_by, cut_to, dots}
use Rattle.miette_snippet_rules.specs.rules.CutLines.{dots_width, has_room, is_near, is_shown_at, is_within, limit_of}
use Rattle.miette_snippet_rules.specs.rules.CutLines.{line_parts, shown_runs, with_short_parts}
use Rattle.miette_snippet_rules.specs.rules.Frames.{number_start}
use Rattle.miette_snippet_rules.specs.rules.PrintedCells.{cells_width}
use Rattle.miette_snippet_rules.specs.rules.SnippetSettings.{SnippetSettings}
use Rattle.miette_snippet_rules.proofs.CutColumns.{AreColumns, AreShownAt, columns_from, near_cells, short_shown}
use Rattle.miette_snippet_laws.specs.laws.Cuts.{FitsLimit, IsCutBy, IsReach, is_near_by}
use Rattle.miette_snippet_laws.specs.laws.LineRows.{number_codes}
use Rattle.miette_snippet_laws.proofs.Beneath.{number_start-codes}
use Rattle.miette_snippet_laws.proofs.CleanTexts.{line_same}
use Rattle.miette_snippet_laws.proofs.CutLaws.{cut_limit, cut_none, cut_some, reach_is, some_not}
use Rattle.miette_snippet_laws.proofs.CutShows as cuts
use Rattle.miette_snippet_laws.proofs.GlyphsOfRows.{glyphs_of-append}
use Rattle.miette_fix_rows.specs.laws.ChangedCuts.{IsChangedRow, IsCutBeside, IsKeptRow, changed_cells, changed_ends}
use Rattle.miette_fix_rows.specs.laws.ChangedCuts.{shown_glyphs}
use Rattle.miette_fix_rows.specs.rules.DiffFrames.{DiffPosition}
use Rattle.miette_fix_rows.specs.rules.DiffRows.{ChangedLine, changed_cut, cut_beside, line_reach, pair_reach}
use Rattle.miette_fix_rows.specs.rules.DiffRows.{sign_start}
use Rattle.miette_fix_rows.specs.rules.DiffTexts.{line_cells, pieces, without_terminator}

columns_of_line : (s : SnippetSettings) (start : ℕ) (text : List ℕ) → AreColumns 0 (line_cells s start text)
columns_of_line s start text =
    columns_from s.width s.layout.tab_width false start 0 (characters (without_terminator text))

-- ---- the reach of a line

reach_at_is : (s : SnippetSettings) (limit : ℕ) (line : ChangedLine) (ends : List ℕ) → changed_ends s line ≡ ends
    → ends ≢ [] → IsReach (limit_of limit) (dots_width s.theme.characters) ends (changed_cells s line)
    (line_reach s limit line)
reach_at_is s limit line [] is some = absurd (some refl)
reach_at_is s limit line (end ∷ ends) is some =
    rw is (reach_is (limit_of limit) (dots_width s.theme.characters) (end ∷ ends) (changed_cells s line))

pub own_reach : (s : SnippetSettings) (limit : ℕ) (line : ChangedLine) → changed_ends s line ≢ []
    → IsReach (limit_of limit) (dots_width s.theme.characters) (changed_ends s line) (changed_cells s line)
    (line_reach s limit line)
own_reach s limit line some = reach_at_is s limit line (changed_ends s line) refl some

-- ---- which lines are cut

by_some : (many limit reach : ℕ) (ends : List ℕ) (cells : List Cell) → limit_of limit < cells_width 0 cells
    → cut_line_by many limit reach ends cells ≡ Some (cut_by (limit_of limit) many reach ends cells)
by_some many limit reach ends cells lt = rw (lt-ltb (limit_of limit) (cells_width 0 cells) lt) refl

pub changed_wide : (s : SnippetSettings) (line : ChangedLine) (other : Option ChangedLine) (limit : ℕ)
    → s.layout.line_columns ≡ Some limit → limit_of limit < cells_width 0 (changed_cells s line)
    → changed_cut s line other ≢ None
changed_wide s line other limit is lt =
    let many : ℕ = dots_width s.theme.characters in
    let reach : ℕ = pair_reach s limit line other in
    let ends : List ℕ = changed_ends s line in
    let cells : List Cell = changed_cells s line in
    subst (λ (o : Option ℕ). cut_beside s o line other ≢ None) (sym is)
    (some_not (cut_line_by many limit reach ends cells) (cut_by (limit_of limit) many reach ends cells)
    (by_some many limit reach ends cells lt))

beside_none : (s : SnippetSettings) (o : Option ℕ) (line : ChangedLine) (other : Option ChangedLine)
    → FitsLimit o (changed_cells s line) → cut_beside s o line other ≡ None
beside_none s None line other fits = refl
beside_none s (Some limit) line other fits =
    rw (le-ltb (limit_of limit) (cells_width 0 (changed_cells s line)) fits) refl

pub changed_fits : (s : SnippetSettings) (line : ChangedLine) (other : Option ChangedLine)
    → FitsLimit s.layout.line_columns (changed_cells s line) → changed_cut s line other ≡ None
changed_fits s line other fits = beside_none s s.layout.line_columns line other fits

-- ---- what is shown of a line that is cut

by_is : (many limit reach : ℕ) (ends : List ℕ) (cells : List Cell) (cut : List LinePart)
    → cut_line_by many limit reach ends cells ≡ Some cut → cut ≡ cut_by (limit_of limit) many reach ends cells
by_is many limit reach ends cells cut is =
    let own : List LinePart = cut_by (limit_of limit) many reach ends cells in
    by_cases {C = cut ≡ own} (ltb (limit_of limit) (cells_width 0 cells))
    (λ y. let there : Some own ≡ Some cut = sym (ap (λ b. cond b (Some own) None) y) ∙ is in cc)
    (λ f. let none : None ≡ Some cut = sym (ap (λ b. cond b (Some own) None) f) ∙ is in absurd (cc))

near_by : (limit many reach : ℕ) (ends : List ℕ) (cells : List Cell) → cut_by limit many reach ends cells
    ≡ with_short_parts many (line_parts (is_near_by limit many reach ends) false cells)
near_by limit many reach [] cells = refl
near_by limit many reach (end ∷ ends) cells = refl

within_own : (reach : ℕ) (cell : Cell) (column : ℕ) → cell.from ≤ column → column < cell.until
    → is_within reach cell column ≡ true
within_own reach cell column le lt = and_from (leb cell.from (column + reach)) (ltb column (cell.until + reach))
    (le-leb cell.from (column + reach) (omega (arith, le))) (lt-ltb column (cell.until + reach) (omega (arith, lt)))

less_none : (n : ℕ) → n ≡ n - 0
less_none n = omega arith

end_shown : (many reach : ℕ) (all : List ℕ) (cells : List Cell) (column : ℕ) → AreColumns 0 cells
    → ((p : ℕ → Bool) → p column ≡ true → list_any p all ≡ true)
    → is_shown_at (cut_at many reach all cells) column ≡ true
end_shown many reach all cells column h there =
    let near : Cell → Bool = is_near reach all in
    short_shown many (line_parts near false cells) column
    (ap (is_shown_at (line_parts near false cells)) (less_none column)
    ∙ near_cells near false 0 column cells h (omega arith)
    (λ cell le lt. there (is_within reach cell) (within_own reach cell column le lt)))

ends_shown_at : (many reach : ℕ) (all : List ℕ) (cells : List Cell) (ends : List ℕ) → AreColumns 0 cells
    → ((p : ℕ → Bool) → list_any p ends ≡ true → list_any p all ≡ true)
    → AreShownAt (cut_at many reach all cells) ends
ends_shown_at many reach all cells [] h there = tt
ends_shown_at many reach all cells (end ∷ ends) h there = (
  end_shown many reach all cells end h (λ p is. there p (or_left (p end) (list_any p ends) is)),
  ends_shown_at many reach all cells ends h (λ p is. there p (or_right (p end) (list_any p ends) is)),
)

ends_by : (limit many reach : ℕ) (ends : List ℕ) (cells : List Cell) → AreColumns 0 cells
    → AreShownAt (cut_by limit many reach ends cells) ends
ends_by limit many reach [] cells h = tt
ends_by limit many reach (end ∷ ends) cells h =
    ends_shown_at many reach (end ∷ ends) cells (end ∷ ends) h (λ p is. is)

cut_by_is : (s : SnippetSettings) (limit : ℕ) (line : ChangedLine) (other : Option ChangedLine)
    → IsCutBeside s limit line other (cut_by (limit_of limit) (dots_width s.theme.characters)
    (pair_reach s limit line other) (changed_ends s line) (changed_cells s line))
cut_by_is s limit line other =
    let many : ℕ = dots_width s.theme.characters in
    let reach : ℕ = pair_reach s limit line other in
    let ends : List ℕ = changed_ends s line in
    let cells : List Cell = changed_cells s line in
    let near : Cell → Bool = is_near_by (limit_of limit) many reach ends in
    record {
      is_cut = subst (λ (cut : List LinePart). IsCutBy near many cells cut)
          (sym (near_by (limit_of limit) many reach ends cells)) (cuts.cut_by near many cells);
      ends = ends_by (limit_of limit) many reach ends cells (columns_of_line s line.start line.text);
    }

pub cut_beside_is : (s : SnippetSettings) (line : ChangedLine) (other : Option ChangedLine) (limit : ℕ)
    (cut : List LinePart) → s.layout.line_columns ≡ Some limit → changed_cut s line other ≡ Some cut
    → IsCutBeside s limit line other cut
cut_beside_is s line other limit cut is there =
    let many : ℕ = dots_width s.theme.characters in
    let own : cut_beside s (Some limit) line other ≡ Some cut =
    sym (ap (λ (o : Option ℕ). cut_beside s o line other) is) ∙ there in
    subst (λ (parts : List LinePart). IsCutBeside s limit line other parts)
    (sym (by_is many limit (pair_reach s limit line other) (changed_ends s line) (changed_cells s line) cut own))
    (cut_by_is s limit line other)

-- ---- rows

shown_are : (run : Run) (cut : Option (List LinePart)) (hs : List Highlight) (cells : List Cell)
    → glyphs_of (shown_runs run cut hs cells) ≡ shown_glyphs run cut cells
shown_are run None hs cells = line_same hs cells
shown_are run (Some cut) hs cells = cuts.cut_pieces run hs 0 cut

sign_codes : (s : SnippetSettings) (w : ℕ) (line : ChangedLine) → glyphs_of (sign_start s w line)
    ≡ map (glyph_of s.width) (number_codes line.sign w line.number)
sign_codes s w line =
    let padded : List ℕ = replicate (w - length (decimal line.number)) 32 ++ decimal line.number in
    ap (λ r. glyph_of s.width 32 ∷ r) (sym (map-append (glyph_of s.width) padded (32 ∷ line.sign ∷ 32 ∷ [])))

pub changed_row : (s : SnippetSettings) (w : ℕ) (line : ChangedLine) (other : Option ChangedLine)
    → IsChangedRow s w line other
changed_row s w line other =
    let cells : List Cell = changed_cells s line in
    let shown : Row = shown_runs (dots s.theme) (changed_cut s line other) (pieces line.style line.spans cells) cells in
    glyphs_of-append (sign_start s w line) shown
    ∙ ap (λ r. r ++ glyphs_of shown) (sign_codes s w line)
    ∙ ap (λ r. map (glyph_of s.width) (number_codes line.sign w line.number) ++ r)
    (shown_are (dots s.theme) (changed_cut s line other) (pieces line.style line.spans cells) cells)

first_cells : (many : ℕ) (o : Option ℕ) (cells : List Cell) (limit : ℕ) (parts : List LinePart) → o ≡ Some limit
    → cut_line many o [] cells ≡ Some parts → IsCutBy (has_room (limit_of limit) many) many cells parts
first_cells many o cells limit parts some is =
    let at = cut_limit many o [] cells parts is in
    let same : Some at.0 ≡ Some limit = sym at.1 ∙ some in
    let own : at.0 ≡ limit = cc in
    subst (λ (ps : List LinePart). IsCutBy (has_room (limit_of limit) many) many cells ps) (sym at.2)
    (subst (λ (n : ℕ). IsCutBy (has_room (limit_of limit) many) many cells (cut_to (limit_of n) many [] cells)) (sym own)
    (cuts.cut_by (has_room (limit_of limit) many) many cells))

pub kept_row_is : (s : SnippetSettings) (w : ℕ) (at : DiffPosition) (text : List ℕ) → IsKeptRow s w at text
kept_row_is s w at text =
    let many : ℕ = dots_width s.theme.characters in
    let cells : List Cell = line_cells s at.old_offset text in
    let start : Row = number_start s w (at.old_line + 1) in
    let shown : Row = shown_runs (dots s.theme) (cut_line many s.layout.line_columns [] cells) [] cells in
    record {
      cut = cut_line many s.layout.line_columns [] cells;
      row = glyphs_of-append start shown
          ∙ ap (λ r. r ++ glyphs_of shown) (number_start-codes s w (at.old_line + 1))
          ∙ ap (λ r. map (glyph_of s.width) (number_codes s.theme.characters.vbar w (at.old_line + 1)) ++ r)
          (shown_are (dots s.theme) (cut_line many s.layout.line_columns [] cells) [] cells);
      wide = λ limit some lt. subst (λ (o : Option ℕ). cut_line many o [] cells ≢ None) (sym some)
          (some_not (cut_line many (Some limit) [] cells) (cut_to (limit_of limit) many [] cells)
          (cut_some many limit [] cells lt));
      fits = λ fits. cut_none many s.layout.line_columns [] cells fits;
      first = λ limit parts some is. first_cells many s.layout.line_columns cells limit parts some is;
    }
