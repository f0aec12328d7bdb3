-- How the rows of an inner report are placed under its arrow where text isn't wrapped.
use Rattle.std.specs.Prelude.{◌≡◌, ℕ, Bool, true, false, ◌&&◌, List, [], ◌∷◌, ◌++◌, Option}
use Rattle.std.specs.Char.{is_whitespace}
use Rattle.std.specs.List.{AllByRecursion}
use Rattle.miette_runs.specs.rules.Cutting.{only_feeds}
use Rattle.miette_runs.specs.rules.Runs.{print}
use Rattle.miette_runs.specs.rules.Sequences.{Token, Character, Sequence, tokens}
use Rattle.miette_protocol.specs.declared.protocol.Severity.{Severity}
use Rattle.miette_graphical_laws.specs.laws.FittingRows.{fed_rows, is_row}
use Rattle.miette_graphical_rules.specs.rules.DiagnosticText.{line_feed, under_arrow}
use Rattle.miette_graphical_rules.specs.rules.Indents.{arrow_indent, narrow_settings, stem_indent}
use Rattle.miette_graphical_rules.specs.rules.GraphicalSettings.{GraphicalSettings}
use Rattle.miette_graphical_rules.specs.laws.HeldRows.{Arrow, StartsRowIn, cut_text}

-- all characters are white space
abbrev pub only_white : List Token → Bool
only_white [] = true
only_white (Character c ∷ ts) = is_whitespace c && only_white ts
only_white (Sequence s ∷ ts) = only_white ts

-- a row with a character that isn't white space
abbrev pub IsInkedRow : List ℕ → Type 0
IsInkedRow row = (is_row row ≡ true) × (only_white (tokens row) ≡ false)

-- rows as they are, however wide, each after an indent
abbrev pub whole_rows : List ℕ → List (List ℕ) → List ℕ
whole_rows indent [] = []
whole_rows indent (row ∷ rows) = indent ++ row ++ 10 ∷ whole_rows indent rows

-- rows after the bar under an arrow
abbrev pub whole_under : GraphicalSettings → Option Severity → Bool → List (List ℕ) → List ℕ
whole_under s outer is_last rows = whole_rows (print (stem_indent s outer is_last)) rows

-- Rows of a text after its first row follow one another under the arrow, after the bar.
abbrev pub WholeRowsStand : GraphicalSettings → Option Severity → Bool → List ℕ → Type 0
WholeRowsStand s outer is_last text = (front back : List ℕ) (rows : List (List ℕ)) →
    text ++ line_feed ≡ front ++ line_feed ++ fed_rows rows ++ back → AllByRecursion IsInkedRow rows →
    StartsRowIn (whole_under s outer is_last rows) (under_arrow s outer is_last text)

-- The first row follows the arrow.
abbrev pub WholeFirstStands : GraphicalSettings → Option Severity → Bool → List ℕ → Type 0
WholeFirstStands s outer is_last text = (row back : List ℕ) → text ++ line_feed ≡ row ++ line_feed ++ back →
    IsInkedRow row → (below : List ℕ) × (under_arrow s outer is_last text ≡ print (arrow_indent s outer is_last) ++ row
    ++ line_feed ++ below)

-- Drawn rows follow one another in a text that contains the drawing under one arrow. Something visible must come before
-- them, and after them if the arrow leads to a related report.
abbrev pub WholeDrawnStand : GraphicalSettings → Arrow → (GraphicalSettings → List ℕ) → List ℕ → Type 0
WholeDrawnStand s arrow drawn text = (above rows below : List (List ℕ)) →
    drawn (narrow_settings s arrow.outer arrow.is_last) ≡ fed_rows (above ++ rows ++ below) →
    only_feeds (tokens (fed_rows above)) ≡ false →
    (arrow.is_related ≡ true → only_feeds (tokens (fed_rows below)) ≡ false) →
    AllByRecursion IsInkedRow rows → StartsRowIn (whole_under s arrow.outer arrow.is_last rows) text
