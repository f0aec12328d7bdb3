-- Where no label has more lines than it is folded to, the rows of snippets are those without folding.
use Rattle.std.proofs.Common.{ℕ, ◌+◌, ◌≡◌, Bool, false, not, List, [], ◌∷◌, ◌++◌, length, map, Option, Some, None, refl}
use Rattle.std.proofs.Common.{sym, ap, ap₂, ◌∙◌, drop}
use Rattle.std.specs.List.{AllByRecursion}
use Rattle.miette_lines.specs.rules.Lines.{Line, lines_of}
use Rattle.miette_protocol.specs.views.Meaning.{Label}
use Rattle.miette_protocol.specs.rules.Reading.{Span, Source}
use Rattle.miette_style.specs.rules.Rows.{Row}
use Rattle.miette_labels.specs.rules.Answers.{Answers, Highlight, first_of, AlwaysReads}
use Rattle.miette_labels.specs.rules.Around.{HaveContext}
use Rattle.miette_labels.specs.rules.Contexts.{contents}
use Rattle.miette_labels.specs.rules.Groups.{in_order, groups_of, AreInBounds}
use Rattle.miette_labels.specs.rules.Labels.{DrawnLabel}
use Rattle.miette_snippet_rules.specs.rules.Frames.{top_row, bottom_row, number_width}
use Rattle.miette_snippet_rules.specs.rules.Gutters.{gutter_columns}
use Rattle.miette_snippet_rules.specs.rules.ShownLines.{line_at, numbered_rows, range_width, rows_of_ranges}
use Rattle.miette_snippet_rules.specs.rules.ShownLines.{framed_rows}
use Rattle.miette_snippet_rules.specs.rules.SnippetLayout.{line_or_break, cells_of, place_of, drawn_labels}
use Rattle.miette_snippet_rules.specs.rules.SnippetLayout.{settings_around, snippet_rows}
use Rattle.miette_snippet_rules.specs.rules.Snippets as N
use Rattle.miette_snippet_laws.specs.laws.Folding.{FitsIn}
use Rattle.miette_snippet_laws.proofs.MaximalRanges.{snippets_are_runs}
use Rattle.miette_snippet_laws.proofs.FoldedRuns.{all_kept}
use Rattle.miette_snippet_rules.specs.rules.SnippetLayout.{snippet_context}
use Rattle.miette_snippet_rules.specs.rules.SnippetSettings.{SnippetSettings, folded_at, unfolded}

module _ (a b : Option ℕ) (s : SnippetSettings) (kept other : ℕ → Bool) (same : (k : ℕ) → kept k ≡ other k) where
  numbered_same : (gap : Bool) (w columns : ℕ) (labels : List DrawnLabel) (source : List ℕ)
      (pieces : List (List Highlight)) (ks : List ℕ) →
      numbered_rows kept gap (snippet_context (folded_at a s) w columns labels (cells_of (folded_at a s) source)) source
      pieces ks
      ≡ numbered_rows other gap (snippet_context (folded_at b s) w columns labels (cells_of (folded_at b s) source))
      source pieces ks
  numbered_same gap w columns labels source pieces [] = refl
  numbered_same gap w columns labels source pieces (k ∷ ks) =
      let l : Line = line_at (lines_of source) k in
      ap (λ o. line_or_break gap (not o) (snippet_context s w columns labels (cells_of s source)) l (k + 1)
      (first_of pieces)
      ++ numbered_rows kept (not o) (snippet_context (folded_at a s) w columns labels (cells_of (folded_at a s) source))
      source (drop 1 pieces) ks)
      (same k)
      ∙ ap (λ r. line_or_break gap (not (other k)) (snippet_context s w columns labels (cells_of s source)) l (k + 1)
      (first_of pieces)
      ++ r) (numbered_same (not (other k)) w columns labels source (drop 1 pieces) ks)

  runs_same : (labels : List DrawnLabel) (source : List ℕ) (pieces : List (List (List Highlight)))
      (runs : List (List ℕ)) →
      rows_of_ranges kept (folded_at a s) labels source pieces runs
      ≡ rows_of_ranges other (folded_at b s) labels source pieces runs
  runs_same labels source pieces [] = refl
  runs_same labels source pieces (run ∷ runs) =
      ap₂ (λ x xs. x ∷ xs) (numbered_same false (range_width run)
      (gutter_columns labels (map (line_at (lines_of source)) run)) labels source (first_of pieces) run)
      (runs_same labels source (drop 1 pieces) runs)

  framed_same : (source : Source) (labels : List Label) (groups : List Span) (bodies : List (List Row)) →
      framed_rows (folded_at a s) source labels groups bodies
      ≡ framed_rows (folded_at b s) source labels groups bodies
  framed_same source labels [] bodies = refl
  framed_same source labels (group ∷ groups) [] = refl
  framed_same source labels (group ∷ groups) (body ∷ more) =
      ap (λ r. (top_row s (contents s.layout.context_lines source group) (place_of source group labels) ∷ body
      ++ bottom_row s (number_width (contents s.layout.context_lines source group)) ∷ []) ++ r)
      (framed_same source labels groups more)

pub rows_unfolded : (s : SnippetSettings) (limit : ℕ) (source : Source) (labels : List Label) (answers : Answers)
    → HaveContext s.layout.context_lines labels → AreInBounds source.bytes labels → AlwaysReads answers
    → AllByRecursion (FitsIn limit source.bytes) labels →
    snippet_rows (folded_at (Some limit) s) source labels answers ≡ snippet_rows (unfolded s) source labels answers
rows_unfolded s limit source labels answers h accepted always fits =
    let around : SnippetSettings = settings_around s (in_order labels) in
    let kept : ℕ → Bool = N.is_kept (Some limit) s.layout.context_lines source.bytes labels in
    let other : ℕ → Bool = N.is_kept None s.layout.context_lines source.bytes labels in
    let same : (k : ℕ) → kept k ≡ other k = λ k. all_kept limit s.layout.context_lines source.bytes labels k fits in
    let drawn : List DrawnLabel = drawn_labels around (length source.bytes) (in_order labels) in
    let groups : List Span = groups_of s.layout.context_lines source answers.join_fails (in_order labels) in
    snippets_are_runs (folded_at (Some limit) s) source labels answers h accepted always
    ∙ ap Some (ap (framed_rows (folded_at (Some limit) around) source (in_order labels) groups)
    (runs_same (Some limit) None around kept other same drawn source.bytes answers.pieces
    (N.snippets s.layout.context_lines source.bytes labels))
    ∙ framed_same (Some limit) None around kept other same source (in_order labels) groups
    (rows_of_ranges other (unfolded around) drawn source.bytes answers.pieces
    (N.snippets s.layout.context_lines source.bytes labels)))
    ∙ sym (snippets_are_runs (unfolded s) source labels answers h accepted always)
