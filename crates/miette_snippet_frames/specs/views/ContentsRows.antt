-- The rows of a snippet from the contents of its read, without knowledge of the rest of the source.
use Rattle.std.specs.Prelude.{ℕ, ◌+◌, ◌-◌, ◌≡◌, Bool, List, [], ◌∷◌, ◌++◌, map}
use Rattle.std.specs.Prelude.{slice_range, Option, false}
use Rattle.miette_lines.specs.rules.Lines.{Line}
use Rattle.miette_protocol.specs.rules.Reading.{Contents}
use Rattle.miette_highlight.specs.rules.HighlighterCalls.{Call}
use Rattle.miette_style.specs.rules.Rows.{Row}
use Rattle.miette_labels.specs.rules.Answers.{Highlight}
use Rattle.miette_columns.specs.rules.Cells.{Cell, characters, cells_from}
use Rattle.miette_labels.specs.rules.Contexts.{lines_of_contents}
use Rattle.miette_snippet_rules.specs.rules.FoldedLabels.{LabelExtent}
use Rattle.miette_snippet_rules.specs.rules.Frames.{Place, top_row, bottom_row, number_width}
use Rattle.miette_snippet_rules.specs.rules.Gutters.{gutter_columns}
use Rattle.miette_snippet_rules.specs.rules.Highlighting.{decoded_text, EachHasPieces, line_calls}
use Rattle.miette_labels.specs.rules.Labels.{DrawnLabel}
use Rattle.miette_snippet_rules.specs.rules.SnippetLayout.{left_out, rows_of_lines, snippet_context}
use Rattle.miette_style.specs.views.Printouts.{Printout, ◌⊕◌}
use Rattle.miette_style.specs.views.Tokens.{rows_tokens}
use Rattle.miette_snippet_rules.specs.rules.SnippetSettings.{SnippetSettings}

-- the bytes of a line's text, in bytes that begin at an offset
abbrev pub text_in : ℕ → List ℕ → Line → List ℕ
text_in start bytes line = slice_range bytes (line.start - start) (line.text_end - start)

-- its cells
abbrev pub cells_in : SnippetSettings → ℕ → List ℕ → Line → List Cell
cells_in s start bytes line = cells_from s.width s.layout.tab_width false line.start 0
    (characters (text_in start bytes line))

-- the lines' texts as a highlighter gets them
abbrev pub texts_in : ℕ → List ℕ → List Line → List (List ℕ)
texts_in start bytes lines = map (λ line. decoded_text (text_in start bytes line)) lines

-- the rows of a snippet, with its frame
abbrev pub contents_snippet : SnippetSettings → List LabelExtent → List DrawnLabel → Contents → Option Place
    → List (List
    Highlight) → List Row
contents_snippet s label_extents drawn contents place pieces =
    top_row s contents place
    ∷ rows_of_lines (left_out s contents.line (lines_of_contents contents) label_extents) false
    (snippet_context s (number_width contents) (gutter_columns drawn (lines_of_contents contents)) drawn
    (cells_in s contents.span.offset contents.bytes)) (contents.line + 1) pieces (lines_of_contents contents)
    ++ bottom_row s (number_width contents) ∷ []

-- The page got rows with some pieces, which the highlighter answered for these texts by these calls.
pub record PutsRows (blank : Bool) (happen : List Call → Type 0) (texts : List (List ℕ))
    (rows : List (List Highlight) → List Row) (before after : Printout) : Type 0 where
  pub pieces : List (List Highlight)
  pub are : EachHasPieces blank texts pieces
  pub calls : happen (line_calls texts pieces)
  pub is : after ≡ before ⊕ rows_tokens (rows pieces)
