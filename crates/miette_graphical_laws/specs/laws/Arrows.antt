-- How the rows of an inner report are placed under its arrow.
use Rattle.std.specs.Prelude.{◌≡◌, ℕ, ◌-◌, Bool, true, false, List, ◌++◌, Option}
use Rattle.std.specs.List.{AllByRecursion}
use Rattle.miette_runs.specs.rules.Cells.{printed_columns}
use Rattle.miette_runs.specs.rules.Cutting.{only_feeds}
use Rattle.miette_runs.specs.rules.Runs.{Fragment, print}
use Rattle.miette_runs.specs.rules.Sequences.{tokens}
use Rattle.miette_protocol.specs.declared.protocol.Severity.{Severity}
use Rattle.miette_graphical_laws.specs.laws.FittingRows.{FitsRow, bare_row, fed_rows, indented_rows}
use Rattle.miette_graphical_rules.specs.rules.DiagnosticText.{line_feed, under_arrow}
use Rattle.miette_graphical_rules.specs.rules.Indents.{arrow_indent, narrow_settings, stem_indent}
use Rattle.miette_graphical_rules.specs.rules.GraphicalSettings.{GraphicalSettings}
use Rattle.miette_graphical_rules.specs.laws.HeldRows.{Arrow, StartsRowIn, cut_text}

-- the columns that an indent leaves under an arrow
abbrev pub room_after : GraphicalSettings → List Fragment → ℕ
room_after s indent = s.width - 2 - printed_columns (tokens (print indent))

-- these rows fit under an arrow, after its bar
abbrev pub FitUnder : GraphicalSettings → Option Severity → Bool → List (List ℕ) → Type 0
FitUnder s outer is_last rows = AllByRecursion (FitsRow (room_after s (stem_indent s outer is_last))) rows

-- rows after that bar
abbrev pub rows_under : GraphicalSettings → Option Severity → Bool → List (List ℕ) → List ℕ
rows_under s outer is_last rows = indented_rows (print (stem_indent s outer is_last)) rows

-- Rows of a text after its first row follow one another under the arrow, after the bar, if they fit.
abbrev pub RowsStand : GraphicalSettings → Option Severity → Bool → List ℕ → Type 0
RowsStand s outer is_last text = (front back : List ℕ) (rows : List (List ℕ)) →
    text ++ line_feed ≡ front ++ line_feed ++ fed_rows rows ++ back → FitUnder s outer is_last rows →
    StartsRowIn (rows_under s outer is_last rows) (under_arrow s outer is_last text)

-- The first row follows the arrow if it fits.
abbrev pub FirstStands : GraphicalSettings → Option Severity → Bool → List ℕ → Type 0
FirstStands s outer is_last text = (row back : List ℕ) → text ++ line_feed ≡ row ++ line_feed ++ back →
    FitsRow (room_after s (arrow_indent s outer is_last)) row →
    (below : List ℕ) × (under_arrow s outer is_last text ≡ print (arrow_indent s outer is_last) ++ bare_row row
    ++ line_feed ++ below)

-- The same for the rows of an inner report, if something visible comes before them, and for a related report also after
-- them.
abbrev pub InnerRowsStand : GraphicalSettings → Arrow → List ℕ → List ℕ → List (List ℕ) → Type 0
InnerRowsStand s arrow front back rows =
    only_feeds (tokens front) ≡ false → (arrow.is_related ≡ true → only_feeds (tokens back) ≡ false) →
    FitUnder s arrow.outer arrow.is_last rows →
    StartsRowIn (rows_under s arrow.outer arrow.is_last rows)
    (under_arrow s arrow.outer arrow.is_last (cut_text arrow (front ++ line_feed ++ fed_rows rows ++ back)))

-- Drawn rows that fit follow one another in a text that contains the drawing under one arrow. Something visible must
-- come before them, and after them if the arrow leads to a related report.
abbrev pub DrawnRowsStand : GraphicalSettings → Arrow → (GraphicalSettings → List ℕ) → List ℕ → Type 0
DrawnRowsStand s arrow drawn text = (above rows below : List (List ℕ)) →
    drawn (narrow_settings s arrow.outer arrow.is_last) ≡ fed_rows (above ++ rows ++ below) →
    only_feeds (tokens (fed_rows above)) ≡ false →
    (arrow.is_related ≡ true → only_feeds (tokens (fed_rows below)) ≡ false) →
    FitUnder s arrow.outer arrow.is_last rows → StartsRowIn (rows_under s arrow.outer arrow.is_last rows) text
