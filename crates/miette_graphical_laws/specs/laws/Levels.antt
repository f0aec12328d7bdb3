-- How rows are placed under several arrows: the rows of each level are wrapped again under the arrow around it.
use Rattle.std.specs.Prelude.{◌≡◌, ℕ, ◌-◌, ◌≤◌, Bool, true, false, List, [], ◌∷◌, ◌++◌, map, encode_utf8_all, Some}
use Rattle.std.specs.List.{AllByRecursion}
use Rattle.miette_style.specs.rules.Escapes.{is_escape}
use Rattle.miette_runs.specs.rules.Cutting.{only_feeds}
use Rattle.miette_runs.specs.rules.Runs.{print}
use Rattle.miette_runs.specs.rules.Sequences.{tokens}
use Rattle.miette_text.specs.laws.Tame.{IsTame}
use Rattle.miette_text.specs.rules.Wrapping.{only_spaces}
use Rattle.miette_tree.specs.rules.Tree.{Tree}
use Rattle.miette_graphical_rules.specs.rules.Answers.{Answers}
use Rattle.miette_graphical_rules.specs.rules.DiagnosticText.{Drawing}
use Rattle.miette_graphical_rules.specs.rules.Indents.{narrow_settings, stem_indent}
use Rattle.miette_graphical_rules.specs.rules.PrintedDiagnostics.{PrintedDiagnostic}
use Rattle.miette_graphical_rules.specs.rules.GraphicalSettings.{GraphicalSettings}
use Rattle.miette_graphical_rules.specs.laws.Alike.{answer_at}
use Rattle.miette_graphical_laws.specs.laws.Arrows.{FitUnder}
use Rattle.miette_graphical_laws.specs.laws.FittingRows.{FitsRow, bare_row, fed_rows, indented_rows, is_row}
use Rattle.miette_graphical_rules.specs.laws.HeldRows.{Arrow, StartsRowIn, arrows_at, snippet_rows_at}
use Rattle.miette_graphical_rules.specs.laws.Paths.{Step, printed_at}

-- ---- the rows of a level

-- the settings under an arrow, and under several, outer ones first
abbrev pub settings_after : GraphicalSettings → Arrow → GraphicalSettings
settings_after s arrow = narrow_settings s arrow.outer arrow.is_last

abbrev pub settings_under : GraphicalSettings → List Arrow → GraphicalSettings
settings_under s [] = s
settings_under s (arrow ∷ arrows) = settings_under (settings_after s arrow) arrows

-- the bar below an arrow, and the bars of several arrows, in order
abbrev pub bar : GraphicalSettings → Arrow → List ℕ
bar s arrow = print (stem_indent s arrow.outer arrow.is_last)

abbrev pub bars : GraphicalSettings → List Arrow → List ℕ
bars s [] = []
bars s (arrow ∷ arrows) = bar s arrow ++ bars (settings_after s arrow) arrows

-- rows after a bar, without trailing spaces
abbrev pub barred : List ℕ → List (List ℕ) → List (List ℕ)
barred indent rows = map (λ row. indent ++ bare_row row) rows

-- the same after several bars, added level by level, the innermost arrow's first
abbrev pub barred_rows : GraphicalSettings → List Arrow → List (List ℕ) → List (List ℕ)
barred_rows s [] rows = rows
barred_rows s (arrow ∷ arrows) rows = barred (bar s arrow) (barred_rows (settings_after s arrow) arrows rows)

-- On each level the rows fit under the level's arrow, after the bars of the levels inside.
abbrev pub FitLevels : GraphicalSettings → List Arrow → List (List ℕ) → Type 0
FitLevels s [] rows = Unit {0}
FitLevels s (arrow ∷ arrows) rows =
    FitLevels (settings_after s arrow) arrows rows
    × FitUnder s arrow.outer arrow.is_last (barred_rows (settings_after s arrow) arrows rows)

-- ---- in a text

-- whether the innermost arrow leads to a related report, which also loses line feeds at its end
abbrev pub ends_related : List Arrow → Bool
ends_related [] = false
ends_related (arrow ∷ []) = arrow.is_related
ends_related (arrow ∷ next ∷ arrows) = ends_related (next ∷ arrows)

-- the rows have visible text
abbrev pub AreSeen : List (List ℕ) → Type 0
AreSeen rows = only_feeds (tokens (fed_rows rows)) ≡ false

-- Rows of a drawing, after some with visible text. If the innermost arrow leads to a related report, rows with visible
-- text also follow.
pub record AreRowsAmong (drawn : List ℕ) (arrows : List Arrow) (rows : List (List ℕ)) : Type 0 where
  pub above : List (List ℕ)
  pub below : List (List ℕ)
  pub whole : drawn ≡ fed_rows (above ++ rows ++ below)
  pub seen_above : AreSeen above
  pub seen_below : ends_related arrows ≡ true → AreSeen below

-- Drawn rows that fit on each level follow one another in a text, after all bars.
abbrev pub LevelRowsStand : GraphicalSettings → List Arrow → (GraphicalSettings → List ℕ) → List ℕ → Type 0
LevelRowsStand s arrows drawn text = (rows : List (List ℕ)) → AreRowsAmong (drawn (settings_under s arrows)) arrows rows
    → FitLevels s arrows rows → StartsRowIn (fed_rows (barred_rows s arrows rows)) text

-- ---- which rows fit, and how they are placed

-- the bars of a theme are neither line feeds nor escapes
abbrev pub HasPlainBars : GraphicalSettings → Type 0
HasPlainBars s = (is_row (s.theme.characters.vbar ∷ []) ≡ true) × (is_escape s.theme.characters.vbar ≡ false)

-- Rows no wider than what is left under the innermost arrow fit on each level, if that is more than nothing.
abbrev pub HaveRoom : GraphicalSettings → List Arrow → List (List ℕ) → Type 0
HaveRoom s arrows rows = 2 ≤ (settings_under s arrows).width → AllByRecursion IsTame rows →
    AllByRecursion (FitsRow ((settings_under s arrows).width - 2)) rows → FitLevels s arrows rows

-- a row with visible text other than spaces, and with complete colour sequences
abbrev pub IsShownRow : List ℕ → Type 0
IsShownRow row = IsTame row × (only_spaces (tokens row) ≡ false)

-- Such rows follow all bars at once, if there are any.
abbrev pub StandAfterBars : GraphicalSettings → List Arrow → List (List ℕ) → Type 0
StandAfterBars s arrows rows = AllByRecursion IsShownRow rows →
    (arrow : Arrow) → fed_rows (barred_rows s (arrow ∷ arrows) rows) ≡ indented_rows (bars s (arrow ∷ arrows)) rows

-- ---- in the bytes of a report

-- At each path, rows of snippets that fit on each level are lines of these bytes, one after the other, after the bars
-- of all arrows on the path.
abbrev pub HoldsLevels : Drawing → GraphicalSettings → Tree → Answers → List ℕ → Type 0
HoldsLevels drawing s t a bytes = (path : List Step) (p : PrintedDiagnostic) → printed_at s t path ≡ Some p →
    (shown : List (List ℕ)) → AreRowsAmong (fed_rows (map print (snippet_rows_at drawing p (answer_at a path)
    (settings_under s (arrows_at s t path))))) (arrows_at s t path) shown → FitLevels s (arrows_at s t path) shown →
    StartsRowIn (encode_utf8_all (fed_rows (barred_rows s (arrows_at s t path) shown))) bytes
