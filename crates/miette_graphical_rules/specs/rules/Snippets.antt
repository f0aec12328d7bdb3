-- The rows of a diagnostic's snippets and fixes, as runs.
use Rattle.std.specs.Prelude.{ℕ, Bool, List, [], ◌∷◌, ◌++◌, drop, length, map, chars}
use Rattle.std.specs.Prelude.{encode_utf8_all, Option, Some, None, unwrap_or}
use Rattle.miette_runs.specs.rules.Runs.{Fragment, Styled}
use Rattle.miette_style.specs.rules.Rows.{Row, Run}
use Rattle.miette_snippet_rules.specs.rules.SnippetSettings as snippets
use Rattle.miette_columns.specs.rules.Widths.{width_of}
use Rattle.miette_snippet_rules.specs.rules.SnippetLayout.{rows_of_labels}
use Rattle.miette_fix_rows.specs.rules.DiffRows.{fix_rows}
use Rattle.miette_fixes.specs.rules.Edits.{FixModel, Replacement}
use Rattle.miette_tree.specs.rules.DiagnosticParts.{given_labels}
use Rattle.miette_graphical_rules.specs.rules.GraphicalSettings.{GraphicalSettings}
use Rattle.miette_protocol.specs.views.Meaning.{Label}
use Rattle.miette_protocol.specs.rules.Reading.{Source}
use Rattle.miette_graphical_rules.specs.rules.Answers.{SourceAnswer, SourceAnswers, first_source}
use Rattle.miette_graphical_rules.specs.rules.Sources.{LabelledSource, after_labels, drawn_with, sources_of}
use Rattle.miette_graphical_rules.specs.rules.DiagnosticText.{Drawing, ShownFix, ShownFixes, SnippetRows}

-- the settings of the snippets
abbrev pub snippet_settings : GraphicalSettings → snippets.SnippetSettings
snippet_settings s = record { theme = s.theme; width = width_of; layout = s.layout }

-- a run's characters, as decoded from its bytes
abbrev pub run_text : Run → List ℕ
run_text run = chars (encode_utf8_all (map (λ p. p.code) run.glyphs))

abbrev pub run_of_row : Run → Fragment
run_of_row run = Styled run.style (run_text run)

abbrev pub runs_of_row : Row → List Fragment
runs_of_row row = map run_of_row row

abbrev pub shown_rows : Option (List Row) → List (List Fragment)
shown_rows rows = map runs_of_row (unwrap_or rows [])

-- the snippets over a source: frames, lines and labels, or the row of a label out of bounds; none without a source
abbrev pub source_rows : GraphicalSettings → Option Source → List Label → SourceAnswer → List (List Fragment)
source_rows s None labels a = []
source_rows s (Some source) labels a = shown_rows (rows_of_labels (snippet_settings s) source labels a)

-- those over several sources, in order; highlight styles continue from one source to the next
abbrev pub rows_over : GraphicalSettings → List LabelledSource → SourceAnswers → List (List Fragment)
rows_over s [] a = []
rows_over s (it ∷ more) a =
    source_rows s it.source it.labels (first_source a) ++ rows_over (after_labels (length it.labels) s) more (drop 1 a)

abbrev pub drawn_rows : SnippetRows
drawn_rows s source m a = rows_over (drawn_with m.snippets s) (sources_of source m) a.sources

-- only of its own labels, over its effective source
abbrev pub own_rows : SnippetRows
own_rows s source m a = source_rows s source (given_labels m.labels) (first_source a.sources)

-- ---- fixes

-- the rows below a fix's message; the flag says whether the read for fixes failed; none without a source
abbrev pub rows_of_fix : GraphicalSettings → Option Source → Bool → List Replacement → List (List Fragment)
rows_of_fix s None fails edits = []
rows_of_fix s (Some source) fails edits = map runs_of_row (fix_rows (snippet_settings s) source fails edits)

abbrev pub drawn_fix : GraphicalSettings → Option Source → Bool → FixModel → ShownFix
drawn_fix s source fails fix = record { message = fix.message; rows = rows_of_fix s source fails fix.edits }

-- a diagnostic's fixes in order, over its effective source
abbrev pub drawn_fixes : ShownFixes
drawn_fixes s source m a = map (drawn_fix s source a.fixes_fail) m.fixes

-- ---- both

abbrev pub whole_drawing : Drawing
whole_drawing = record { rows = drawn_rows; fixes = drawn_fixes }

-- the same without fixes
abbrev pub drawn_without_fixes : Drawing
drawn_without_fixes = record { rows = drawn_rows; fixes = λ s source m a. [] }
