-- Rows of that report's picture, by their bytes.
use Rattle.std.proofs.Common.{◌≡◌, ◌<◌, ◌≤◌, ℕ, List, [], ◌∷◌, ◌++◌, length, refl, arith, subst, codes, Some}
use Rattle.std.proofs.Common.{encode_utf8_all, slice_index_or}
use Rattle.std.specs.Fmt.{digits}
use Rattle.std.specs.List.{AllByRecursion, Contains}
use Rattle.std.specs.Str.{chars}
use Rattle.bstr.specs.Utf8.{pieces_from}
use lib.Utf8.{encode}
use Rattle.unicode_width.specs.Width.{char_width}
use Rattle.unicode_width.proofs.Computing.{unicode_width}
use Rattle.miette_runs.specs.rules.Cells.{printed_columns}
use Rattle.miette_runs.specs.rules.Runs.{Fragment, print}
use Rattle.miette_runs.specs.rules.Sequences.{tokens}
use Rattle.miette_lines.specs.rules.Lines.{column_of, ends_line, line_end, line_of, line_start, terminators_in}
use Rattle.miette_tree.specs.rules.Tree.{head}
use Rattle.miette_graphical_rules.specs.laws.HeldRows.{StartsRowIn}
use Rattle.miette_graphical_rules.specs.rules.Answers.{nothing_listed}
use Rattle.miette_graphical_rules.specs.rules.DiagnosticText.{line_feed}
use Rattle.miette_graphical_rules.specs.rules.Indents.{spaces}
use Rattle.miette_graphical_rules.specs.rules.Snippets.{drawn_rows}
use Rattle.miette_graphical_laws.specs.laws.FittingRows.{FitsRow, indented_rows}
use Rattle.miette_graphical_laws.specs.laws.Levels.{AreRowsAmong, IsShownRow}
use Rattle.callers.specs.Sums.{CauseStands, NamesRows, RowsStand, cause_arrow, cause_text, narrow, sum_file, sum_tree}

-- ---- of its own snippet

abbrev own : List (List Fragment)
own = drawn_rows narrow (Some sum_file) (head sum_tree) nothing_listed

abbrev row_at : ℕ → List Fragment
row_at k = slice_index_or own k []

many : length own ≡ 12
unfolding ends_line line_of line_start line_end column_of terminators_in pieces_from digits chars encode char_width
many = refl

-- a row among them, of which the codes are known
stands : (text line : List ℕ) (row : List Fragment) → RowsStand text → Contains own row
    → print row ++ line_feed ≡ line → StartsRowIn (encode_utf8_all line) text
stands text line row rows there is = subst (λ line. StartsRowIn (encode_utf8_all line) text) is (rows row there)

cut_stands : (text : List ℕ) → RowsStand text → StartsRowIn (encode_utf8_all (codes " 7 │     … total …+\n")) text
unfolding ends_line line_of line_start line_end column_of terminators_in pieces_from digits chars encode char_width
cut_stands text rows = stands text _ (row_at 7) rows (7, omega (arith, many), refl) refl

end_stands : (text : List ℕ) → RowsStand text → StartsRowIn (encode_utf8_all (codes "   ·       ──┬──   ▲\n")) text
unfolding ends_line line_of line_start line_end column_of terminators_in pieces_from digits chars encode char_width
end_stands text rows = stands text _ (row_at 8) rows (8, omega (arith, many), refl) refl

break_stands : (text : List ℕ) → RowsStand text → StartsRowIn (encode_utf8_all (codes "...│ │\n")) text
unfolding ends_line line_of line_start line_end column_of terminators_in pieces_from digits chars encode char_width
break_stands text rows = stands text _ (row_at 3) rows (3, omega (arith, many), refl) refl

-- ---- of its cause's

abbrev depth_row : List ℕ
depth_row = codes " 1 │ depth = 1"

depth_among : AreRowsAmong cause_text (cause_arrow ∷ []) (depth_row ∷ [])
unfolding ends_line line_of line_start line_end column_of terminators_in pieces_from digits chars encode char_width
depth_among = record {
  above = codes "   ╭─[app.toml:1:9]" ∷ [];
  below = codes "   ·         ┬" ∷ codes "   ·         ╰── set here" ∷ codes "   ╰────" ∷ [];
  whole = refl;
  seen_above = refl;
  seen_below = λ last. refl;
}

depth_shown : IsShownRow depth_row
depth_shown = (refl, refl)

depth_width : printed_columns (tokens depth_row) ≡ 14
unfolding unicode_width
depth_width = refl

depth_fits : FitsRow 192 depth_row
depth_fits = (refl, omega (arith, depth_width))

abbrev under_row : List ℕ
under_row = codes "       1 │ depth = 1\n"

depth_stands : (text : List ℕ) → CauseStands text → StartsRowIn (encode_utf8_all under_row) text
depth_stands text cause =
    let indented : indented_rows (spaces 6) (depth_row ∷ []) ≡ under_row = refl in
    subst (λ line. StartsRowIn (encode_utf8_all line) text) indented
    (cause (depth_row ∷ []) depth_among (depth_shown, tt) (depth_fits, tt))

-- ---- all of them

pub named : (text : List ℕ) → RowsStand text → CauseStands text → NamesRows text
named text rows cause = record {
  cut = cut_stands text rows;
  end = end_stands text rows;
  folded = break_stands text rows;
  cause = depth_stands text cause;
}
