-- The columns around which a changed line is cut, span by span.
use Rattle.std.specs.Prelude.{ℕ, List, [], ◌∷◌, ◌++◌, map, max, Option, if◌then◌else◌}
use Rattle.std.specs.Option.{option_map}
use Rattle.miette_style.specs.rules.Styles.{plain}
use Rattle.miette_protocol.specs.rules.Reading.{Span}
use Rattle.miette_snippet_rules.specs.rules.Underlines.{MeasuredText, marks}
use Rattle.miette_snippet_rules.specs.rules.PrintedCells.{first_column}
use Rattle.miette_snippet_rules.specs.rules.SnippetSettings.{SnippetSettings}
use Rattle.miette_snippet_rules.specs.declared.line_part.LinePart.{LinePart as MadePart}
use Rattle.miette_snippet_rules.specs.views.Cuts.{measure}
use Rattle.miette_fix_rows.specs.rules.DiffRows.{ChangedLine, changed_cut}
use Rattle.miette_fix_rows.specs.rules.DiffTexts.{ends_at, has_bytes, part_in}

-- the columns of one span in a line of `bytes` bytes that begins at an offset
abbrev pub span_ends : MeasuredText → ℕ → ℕ → Span → List ℕ
span_ends text start bytes span =
    if has_bytes (part_in start bytes plain span) then ends_at (marks text (part_in start bytes plain span ∷ []))
    else first_column text.cells text.text_end text.width (max start span.offset) ∷ []

abbrev pub all_ends : MeasuredText → ℕ → ℕ → List Span → List ℕ
all_ends text start bytes [] = []
all_ends text start bytes (span ∷ spans) = span_ends text start bytes span ++ all_ends text start bytes spans

-- the parts of a changed line, by their counts
abbrev pub changed_line_cut : SnippetSettings → ChangedLine → Option ChangedLine → Option (List MadePart)
changed_line_cut s line other = option_map (map measure) (changed_cut s line other)
