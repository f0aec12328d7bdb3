-- Pieces of a highlighter, and rows of lines that are left plain.
use Rattle.std.proofs.Common.{ℕ, ◌+◌, ◌≡◌, ◌∙◌, ◌++◌, length, Bool, true, false, List, [], ◌∷◌, map, refl, sym, ap, ap₂}
use Rattle.std.proofs.Common.{subst, drop}
use Rattle.miette_lines.specs.rules.Lines.{Line}
use Rattle.miette_protocol.specs.views.Meaning.{Label}
use Rattle.miette_protocol.specs.rules.Reading.{Span, Source, Contents}
use Rattle.miette_highlight.specs.rules.Pieces.{CutsLine, StyledPiece}
use Rattle.miette_highlight.specs.rules.HighlighterCalls.{Call, asked, restarted, Leads}
use Rattle.miette_labels.specs.rules.Answers.{Highlight, first_of}
use Rattle.miette_labels.specs.rules.Contexts.{contents, lines_of_contents}
use Rattle.miette_snippet_rules.specs.rules.FoldedLabels.{LabelExtent}
use Rattle.miette_snippet_rules.specs.rules.Frames.{top_row, bottom_row, number_width}
use Rattle.miette_snippet_rules.specs.rules.Gutters.{gutter_columns}
use Rattle.miette_snippet_rules.specs.rules.Highlighting.{ArePieces, EachHasPieces, SnippetsHavePieces, highlight_of}
use Rattle.miette_snippet_rules.specs.rules.Highlighting.{piece_of, texts_of, line_calls, group_calls}
use Rattle.miette_labels.specs.rules.Labels.{DrawnLabel}
use Rattle.miette_snippet_rules.specs.rules.SnippetLayout.{line_or_break, rows_of_lines, left_out, cells_of}
use Rattle.miette_snippet_rules.specs.rules.SnippetLayout.{drawn_labels, all_snippets, place_of}
use Rattle.miette_snippet_rules.specs.rules.SnippetLayout.{snippet_context}
use Rattle.miette_snippet_rules.specs.rules.SnippetSettings.{SnippetSettings}

pub same_pieces : (ps : List StyledPiece) → map piece_of (map highlight_of ps) ≡ ps
same_pieces [] = refl
same_pieces (p ∷ ps) = ap (λ r. p ∷ r) (same_pieces ps)

-- pieces that were answered
pub cut_pieces : (blank : Bool) (text : List ℕ) (ps : List StyledPiece) → CutsLine text ps → (blank ≡ true → ps ≡ [])
    → ArePieces blank text (map highlight_of ps)
cut_pieces blank text ps h n = record {
  cut = λ some. subst (λ (qs : List StyledPiece). CutsLine text qs) (sym (same_pieces ps)) h;
  none = λ b. ap (map highlight_of) (n b);
}

-- rows of lines that are left plain
rows_plain : (out : ℕ → Line → Bool) (gap : Bool) (s : SnippetSettings) (w columns : ℕ) (labels : List DrawnLabel)
    (source : List ℕ) (number : ℕ) (pieces : List (List Highlight)) (ls : List Line)
    → EachHasPieces true (texts_of source ls) pieces →
    rows_of_lines out gap (snippet_context s w columns labels (cells_of s source)) number pieces ls
    ≡ rows_of_lines out gap (snippet_context s w columns labels (cells_of s source)) number [] ls
rows_plain out gap s w columns labels source number pieces [] h = refl
rows_plain out gap s w columns labels source number pieces (l ∷ ls) h =
    ap₂ (λ p r. line_or_break gap (out number l) (snippet_context s w columns labels (cells_of s source)) l number p
    ++ r)
    (h.0.none refl) (rows_plain out (out number l) s w columns labels source (number + 1) (drop 1 pieces) ls h.1)

pub snippets_plain : (s : SnippetSettings) (label_extents : List LabelExtent) (source : Source) (labels : List Label)
    (pieces : List (List (List Highlight))) (groups : List Span)
    → SnippetsHavePieces s.layout.context_lines true source groups pieces →
    all_snippets s label_extents source labels pieces groups ≡ all_snippets s label_extents source labels [] groups
snippets_plain s label_extents source labels pieces [] h = refl
snippets_plain s label_extents source labels pieces (group ∷ groups) h =
    let held : Contents = contents s.layout.context_lines source group in
    let drawn : List DrawnLabel = drawn_labels s (length source.bytes) labels in
    ap₂ (λ rows more. (top_row s held (place_of source group labels) ∷ rows ++ bottom_row s (number_width held) ∷ [])
    ++ more)
    (rows_plain (left_out s held.line (lines_of_contents held) label_extents) false s (number_width held)
    (gutter_columns drawn (lines_of_contents held)) drawn source.bytes (held.line + 1) (first_of pieces)
    (lines_of_contents held) h.0)
    (snippets_plain s label_extents source labels (drop 1 pieces) groups h.1)

-- ---- calls

-- a call for a line, by the pieces as they are listed
pub call_for : (before after : List Call → Type 0) (text : List ℕ) (got ps : List StyledPiece) → got ≡ ps
    → Leads before (asked text ps ∷ []) after → Leads before (asked text (map piece_of (map highlight_of got)) ∷ [])
    after
call_for before after text got ps e h = subst (λ (qs : List StyledPiece). Leads before (asked text qs ∷ []) after)
    (sym (same_pieces got ∙ e)) h

lines_plain : (texts : List (List ℕ)) (pieces : List (List Highlight)) → EachHasPieces true texts pieces
    → line_calls texts pieces ≡ line_calls texts []
lines_plain [] pieces h = refl
lines_plain (text ∷ texts) pieces h = ap₂ (λ ps calls. asked text (map piece_of ps) ∷ calls) (h.0.none refl)
    (lines_plain texts (drop 1 pieces) h.1)

-- the calls where lines are left plain
pub calls_plain : (context : ℕ) (source : Source) (groups : List Span) (pieces : List (List (List Highlight)))
    → SnippetsHavePieces context true source groups pieces →
    group_calls context source groups pieces ≡ group_calls context source groups []
calls_plain context source [] pieces h = refl
calls_plain context source (group ∷ groups) pieces h =
    let read : Contents = contents context source group in
    ap₂ (λ own more. restarted read ∷ own ++ more) (lines_plain (texts_of source.bytes (lines_of_contents read))
    (first_of pieces) h.0) (calls_plain context source groups (drop 1 pieces) h.1)

-- ---- what counts of an answer
