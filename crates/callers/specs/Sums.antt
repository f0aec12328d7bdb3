-- What is known of a graphical report with a folded label, a line that is cut, a label at the end of its source, and a
-- cause.
use Rattle.std.specs.Prelude.{◌≡◌, ◌≢◌, ◌++◌, ℕ, map, true, false, List, [], ◌∷◌, Some, None, codes}
use Rattle.std.specs.Prelude.{encode_utf8_all}
use Rattle.std.specs.List.{AllByRecursion, Contains}
use Rattle.miette_protocol.specs.views.Diagnostic.{message_alone}
use Rattle.miette_labels.specs.rules.Answers.{Highlight}
use Rattle.miette_protocol.specs.views.Meaning.{Label}
use Rattle.miette_protocol.specs.rules.Reading.{Source, named_source, plain_source}
use Rattle.miette_runs.specs.rules.Runs.{Fragment, print}
use Rattle.miette_tree.specs.rules.Diagnosis.{plain_diagnosis}
use Rattle.miette_tree.specs.rules.Tree.{Tree, single_report, diagnostic, head, with_cause, with_source}
use Rattle.miette_graphical_rules.specs.rules.Answers.{nothing_listed, pieces_listed}
use Rattle.miette_graphical_rules.specs.rules.DiagnosticText.{line_feed}
use Rattle.miette_graphical_rules.specs.rules.GraphicalSettings.{GraphicalSettings}
use Rattle.miette_graphical_rules.specs.rules.Snippets.{drawn_rows, source_rows}
use Rattle.miette_graphical_rules.specs.rules.PrintedDiagnostics.{PrintedDiagnostic, over}
use Rattle.miette_graphical_rules.specs.laws.SnippetTheorems.{EndsAfter, cut_under, drawn_labels, is_kept_at}
use Rattle.miette_graphical_rules.specs.laws.SnippetTheorems.{line_number, uncut}
use Rattle.miette_graphical_rules.specs.laws.HeldRows.{Arrow, StartsRowIn}
use Rattle.miette_graphical_laws.specs.laws.FittingRows.{FitsRow, fed_rows, indented_rows}
use Rattle.miette_graphical_laws.specs.laws.Levels.{AreRowsAmong, IsShownRow, settings_under}
use Rattle.miette_graphical_rules.specs.rules.Indents.{spaces}
use Rattle.miette_snippet_laws.specs.laws.Folding.{IsInside}
use Rattle.callers.specs.Known.{plain}

-- ---- the report: a call over six lines, and below it a long line at whose end a term is missing

abbrev pub sum_file : Source
sum_file = named_source
    (plain_source (codes "call(\n  one,\n  two,\n  three,\n  four,\n  five)\nlet total = one + two + three +"))
    (codes "sum.x") None

abbrev pub label_at : ℕ → ℕ → List ℕ → Label
label_at offset len text = record {
  text = Some text;
  span = record { offset = offset; len = len };
  primary = false;
  context = None;
}

abbrev pub sum_labels : List Label
sum_labels = label_at 0 44 (codes "a call") ∷ label_at 49 5 (codes "the sum") ∷ label_at 76 0 (codes "a term") ∷ []

-- The source of the cause.
abbrev pub depth_file : Source
depth_file = named_source (plain_source (codes "depth = 1\n")) (codes "app.toml") None

abbrev pub depth_labels : List Label
depth_labels = label_at 8 1 (codes "set here") ∷ []

abbrev pub depth_tree : Tree
depth_tree = with_source depth_file
    (single_report (plain_diagnosis (record (message_alone (codes "too deep")) { labels = Some depth_labels })))

abbrev pub sum_tree : Tree
sum_tree = with_cause (diagnostic depth_tree) (with_source sum_file
    (single_report (plain_diagnosis (record (message_alone (codes "no term")) { labels = Some sum_labels }))))

-- ---- how it is drawn: lines of more than 12 columns are cut, labels of more than two lines folded

abbrev pub narrow : GraphicalSettings
narrow = record plain {
  layout =
      record plain.layout { line_columns = Some 12; label_lines = Some 2; end_labels = true };
}

-- ---- what its report is known to show

-- The text contains each row of the report's own snippets on its own line.
abbrev pub RowsStand : List ℕ → Type 0
RowsStand text = (row : List Fragment) →
    Contains (drawn_rows narrow (Some sum_file) (head sum_tree) nothing_listed) row
    → StartsRowIn (encode_utf8_all (print row ++ line_feed)) text

-- The arrow before the cause.
abbrev pub cause_arrow : Arrow
cause_arrow = record { outer = None; is_last = true; is_related = false }

-- The rows of the cause's snippet.
abbrev pub cause_text : List ℕ
cause_text = fed_rows (map print (drawn_rows (settings_under narrow (cause_arrow ∷ [])) (Some depth_file)
    (head depth_tree) nothing_listed))

-- The text contains these rows one after the other, each after six spaces, if they have at most 192 columns.
abbrev pub CauseStands : List ℕ → Type 0
CauseStands text = (rows : List (List ℕ)) → AreRowsAmong cause_text (cause_arrow ∷ []) rows
    → AllByRecursion IsShownRow rows → AllByRecursion (FitsRow 192) rows
    → StartsRowIn (encode_utf8_all (indented_rows (spaces 6) rows)) text

-- The long line is cut. The first line of the call isn't.
pub record LongIsCut : Type 0 where
  pub long : cut_under narrow sum_file sum_labels 6 ≢ None
  pub short : cut_under narrow sum_file sum_labels 0 ≡ None

-- the rows of the cause's labels are those without a limit, in whatever pieces
abbrev pub CauseStays : Type 0
CauseStays = (pieces : List (List (List Highlight))) →
    source_rows narrow (Some depth_file) depth_labels (pieces_listed pieces)
    ≡ source_rows (uncut narrow) (Some depth_file) depth_labels (pieces_listed pieces)

-- The third and fourth lines are left out. No label starts or ends on them.
pub record IsLeftOut : Type 0 where
  pub out : is_kept_at 2 narrow sum_file sum_labels 2 ≡ false
  pub next : is_kept_at 2 narrow sum_file sum_labels 3 ≡ false
  pub inside : AllByRecursion (IsInside (line_number sum_file 2)) (drawn_labels narrow sum_file sum_labels)

-- The label at the end is in the column after the shown part of the long line.
abbrev pub EndStandsAfter : Type 0
EndStandsAfter = EndsAfter narrow sum_file sum_labels

-- The text contains these rows:
--
-- - the shown part of the long line
-- - the row below it, with the underline of the sum and the pointer at the end
-- - the break in the call, with the label's bar
-- - the first row of the cause's source, under the arrow
pub record NamesRows (text : List ℕ) : Type 0 where
  pub cut : StartsRowIn (encode_utf8_all (codes " 7 │     … total …+\n")) text
  pub end : StartsRowIn (encode_utf8_all (codes "   ·       ──┬──   ▲\n")) text
  pub folded : StartsRowIn (encode_utf8_all (codes "...│ │\n")) text
  pub cause : StartsRowIn (encode_utf8_all (codes "       1 │ depth = 1\n")) text

-- The outermost diagnostic, then the cause's.
abbrev pub printed_sum : PrintedDiagnostic
printed_sum = over (Some sum_file) (head sum_tree)

abbrev pub printed_cause : PrintedDiagnostic
printed_cause = over (Some depth_file) (head depth_tree)
