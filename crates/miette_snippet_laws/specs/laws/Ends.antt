-- Labels that begin at the end of a source.
use Rattle.std.specs.Prelude.{ℕ, ◌≡◌, max, true, List, [], ◌∷◌, map, length, Bool, ◌&&◌}
use Rattle.miette_lines.specs.rules.Lines.{Line, lines_of}
use Rattle.miette_style.specs.rules.Rows.{glyph_columns, glyphs_of}
use Rattle.miette_protocol.specs.views.Meaning.{Label}
use Rattle.miette_labels.specs.rules.Answers.{Highlight}
use Rattle.miette_columns.specs.rules.Cells.{Cell}
use Rattle.miette_labels.specs.rules.Labels.{DrawnLabel, is_at_end, is_empty, is_one_line, some_shows_end}
use Rattle.miette_snippet_rules.specs.rules.Underlines.{Underline, MeasuredText, marks}
use Rattle.miette_snippet_rules.specs.rules.SnippetLayout.{drawn_labels}
use Rattle.miette_snippet_laws.specs.laws.LineRows.{underlines_of_line, text_of_line}
use Rattle.miette_snippet_rules.specs.rules.SnippetSettings.{SnippetSettings}

-- the last line
abbrev pub last_of_lines : List Line → Line
last_of_lines [] = record { start = 0; text_end = 0; end = 0 }
last_of_lines (line ∷ []) = line
last_of_lines (line ∷ next ∷ lines) = last_of_lines (next ∷ lines)

-- whether a label is drawn after the text of a line, as an empty one-line label
abbrev pub stands_after : Line → DrawnLabel → Bool
stands_after line label = label.after_text && (is_empty label && is_one_line line label)

-- Whether labels at the end of a source of `n` bytes are drawn: the settings say so, and one of them has a line of
-- context.
abbrev pub draws_ends : SnippetSettings → ℕ → List Label → Bool
draws_ends s n labels = s.layout.end_labels && some_shows_end s.layout.context_lines n labels

-- the same, but with at least one line of context
abbrev pub asks_ends : SnippetSettings → ℕ → List Label → Bool
asks_ends s n labels = s.layout.end_labels && some_shows_end 1 n labels

-- exactly the labels that begin at the source's end are drawn after the text of its last line
abbrev pub EndsStandAfter : SnippetSettings → List ℕ → List Label → Type 0
EndsStandAfter s bytes labels =
    map (stands_after (last_of_lines (lines_of bytes))) (drawn_labels s (length bytes) labels)
    ≡ map (is_at_end (length bytes)) labels

-- An underline of a label drawn after the text begins in the column after it, or where the previous underline ends if
-- that is later. `columns` is the width of the text.
abbrev pub BeginAfter : ℕ → ℕ → List Underline → Type 0
BeginAfter columns reached [] = Unit {0}
BeginAfter columns reached (mark ∷ marks) =
    (mark.label.after_text ≡ true → mark.from ≡ max columns reached) × BeginAfter columns mark.until marks

-- after the text of a whole line
abbrev pub AreAfterText : MeasuredText → List DrawnLabel → Type 0
AreAfterText text labels = BeginAfter text.width 0 (marks text labels)

-- after the shown text in a row, also if the line is cut
abbrev pub AreAfterShown : SnippetSettings → List DrawnLabel → Line → List Cell → List Highlight → Type 0
AreAfterShown s labels line cells pieces =
    BeginAfter (glyph_columns (glyphs_of (text_of_line s labels line cells pieces))) 0
    (underlines_of_line s labels line cells)

-- the same settings, but for whether labels at the end are drawn
abbrev pub with_ends : Bool → SnippetSettings → SnippetSettings
with_ends ends s = record s { layout = record s.layout { end_labels = ends } }
