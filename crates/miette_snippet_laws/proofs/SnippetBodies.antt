-- Snippets draw the maximal runs of shown lines.
use Rattle.std.proofs.Common.{ℕ, zero, suc, ◌+◌, ◌<◌, ◌≤◌, ◌≡◌, Bool, false, List, [], ◌∷◌, ◌++◌, not}
use Rattle.std.proofs.Common.{length, map, drop, refl, sym, ap, subst, ◌∙◌, arith}
use Rattle.std.specs.Prelude.{decimal}
use Rattle.std.proofs.lemmas.List.FromFn.{length-map-range_with_len}
use Rattle.std.specs.List.{range_with_len, AllByRecursion}
use Rattle.miette_lines.specs.rules.Lines.{Line, lines_of}
use Rattle.miette_protocol.specs.views.Meaning.{Label}
use Rattle.miette_protocol.specs.rules.Reading.{Span, Source}
use Rattle.miette_protocol.specs.rules.Context.{first_line}
use Rattle.miette_labels.specs.rules.Answers.{Highlight, first_of, NoneFails}
use Rattle.miette_labels.specs.rules.Around.{has_own_context}
use Rattle.miette_labels.specs.rules.Contexts.{contents, lines_in, lines_of_contents}
use Rattle.miette_labels.specs.rules.Groups.{groups_answered, in_order, spans_of}
use Rattle.miette_labels.specs.rules.Groups.{lines_of_groups}
use Rattle.miette_labels.specs.rules.Labels.{DrawnLabel}
use Rattle.miette_snippet_rules.specs.rules.FoldedLabels.{LabelExtent}
use Rattle.miette_snippet_rules.specs.rules.Frames.{width_of_lines}
use Rattle.miette_snippet_rules.specs.rules.Gutters.{gutter_columns}
use Rattle.miette_snippet_rules.specs.rules.Numbers.{last_of}
use Rattle.miette_snippet_rules.specs.rules.ShownLines.{line_at, numbered_rows, range_width, range_rows, rows_of_ranges}
use Rattle.miette_snippet_rules.specs.rules.ShownLines.{bodies, framed_rows}
use Rattle.miette_snippet_rules.specs.rules.SnippetLayout.{rows_of_lines, left_out, line_or_break, body_rows, cells_of}
use Rattle.miette_snippet_rules.specs.rules.SnippetLayout.{snippet, all_snippets, drawn_labels}
use Rattle.miette_snippet_rules.specs.rules.Snippets.{snippets}
use Rattle.miette_snippet_laws.proofs.ShownRuns.{groups_are_runs}
use Rattle.miette_snippet_laws.proofs.ReadLines.{many_of, read_lines, read_numbers}
use Rattle.miette_snippet_rules.specs.rules.SnippetLayout.{snippet_context}
use Rattle.miette_snippet_rules.specs.rules.SnippetSettings.{SnippetSettings}

pub last_of-range : (low many : ℕ) → last_of low (range_with_len (low + 1) many) ≡ low + many
last_of-range low zero = omega arith
last_of-range low (suc many) = last_of-range (low + 1) many ∙ omega arith

width_is : (f : ℕ → Line) (low many : ℕ) → width_of_lines low (map f (range_with_len low many))
    ≡ range_width (range_with_len low many)
width_is f low zero = refl
width_is f low (suc many) =
    let last : low + length (map f (range_with_len low (suc many))) ≡ last_of low (range_with_len (low + 1) many) + 1 =
    omega (arith, length-map-range_with_len f low (suc many), last_of-range low many) in
    ap (λ n. length (decimal n)) last

-- a test of lines leaves out what another one, of numbers, doesn't keep
abbrev pub LeaveAlike : List Line → (ℕ → Line → Bool) → (ℕ → Bool) → ℕ → ℕ → Type 0
LeaveAlike lines out kept low many = (k : ℕ) → low ≤ k → k < low + many → out (k + 1) (line_at lines k) ≡ not (kept k)

rows_are : (out : ℕ → Line → Bool) (kept : ℕ → Bool) (gap : Bool) (s : SnippetSettings) (w columns : ℕ)
    (labels : List DrawnLabel) (source : List ℕ) (low many : ℕ) (pieces : List (List Highlight)) →
    LeaveAlike (lines_of source) out kept low many →
    rows_of_lines out gap (snippet_context s w columns labels (cells_of s source)) (low + 1) pieces
    (map (line_at (lines_of source)) (range_with_len low many))
    ≡ numbered_rows kept gap (snippet_context s w columns labels (cells_of s source)) source pieces
    (range_with_len low many)
rows_are out kept gap s w columns labels source low zero pieces h = refl
rows_are out kept gap s w columns labels source low (suc many) pieces h =
    let l : Line = line_at (lines_of source) low in
    ap (λ o. line_or_break gap o (snippet_context s w columns labels (cells_of s source)) l (low + 1) (first_of pieces)
    ++ rows_of_lines out o (snippet_context s w columns labels (cells_of s source)) (low + 1 + 1) (drop 1 pieces)
    (map (line_at (lines_of source)) (range_with_len (low + 1) many))) (h low (omega arith) (omega arith))
    ∙ ap (λ r. line_or_break gap (not (kept low)) (snippet_context s w columns labels (cells_of s source)) l (low + 1)
    (first_of pieces)
    ++ r)
    (rows_are out kept (not (kept low)) s w columns labels source (low + 1) many (drop 1 pieces)
    (λ k a b. h k (omega arith) (omega arith)))

-- what is left out of the lines of a run isn't kept
abbrev pub KeepsAlike : SnippetSettings → List LabelExtent → List ℕ → (ℕ → Bool) → List ℕ → Type 0
KeepsAlike s label_extents bytes kept run = (low many : ℕ) → run ≡ range_with_len low many →
    LeaveAlike (lines_of bytes) (left_out s low (map (line_at (lines_of bytes)) (range_with_len low many))
    label_extents) kept
    low many

pub body_from : (s : SnippetSettings) (label_extents : List LabelExtent) (kept : ℕ → Bool) (labels : List DrawnLabel)
    (source : List ℕ) (pieces : List (List Highlight)) (low many : ℕ) (ls : List Line) →
    ls ≡ map (line_at (lines_of source)) (range_with_len low many)
    → KeepsAlike s label_extents source kept (range_with_len low many) →
    rows_of_lines (left_out s low ls label_extents) false (snippet_context s (width_of_lines low ls)
    (gutter_columns labels ls) labels (cells_of s source)) (low + 1) pieces ls
    ≡ range_rows kept s labels source pieces (range_with_len low many)
body_from s label_extents kept labels source pieces low many ls e h =
    let mapped : List Line = map (line_at (lines_of source)) (range_with_len low many) in
    ap (λ xs. rows_of_lines (left_out s low xs label_extents) false
    (snippet_context s (width_of_lines low xs) (gutter_columns labels xs) labels (cells_of s source)) (low + 1)
    pieces xs) e
    ∙ ap (λ w. rows_of_lines (left_out s low mapped label_extents) false
    (snippet_context s w (gutter_columns labels mapped) labels (cells_of s source)) (low + 1) pieces mapped)
    (width_is (line_at (lines_of source)) low many)
    ∙ rows_are (left_out s low mapped label_extents) kept false s (range_width (range_with_len low many))
    (gutter_columns labels mapped) labels source low many pieces (h low many refl)

pub body_is : (s : SnippetSettings) (label_extents : List LabelExtent) (kept : ℕ → Bool) (labels : List DrawnLabel)
    (source : Source) (c : ℕ) (span : Span) (pieces : List (List Highlight)) → 1 ≤ c →
    KeepsAlike s label_extents source.bytes kept (lines_in source.bytes (contents c source span)) →
    body_rows s label_extents labels source.bytes (contents c source span) pieces
    ≡ range_rows kept s labels source.bytes pieces (lines_in source.bytes (contents c source span))
body_is s label_extents kept labels source c span pieces one h =
    body_from s label_extents kept labels source.bytes pieces (first_line source.bytes span c)
    (many_of c source.bytes span) (lines_of_contents (contents c source span)) (read_lines c source span one)
    (subst (λ (run : List ℕ). KeepsAlike s label_extents source.bytes kept run) (read_numbers c source span one) h)
    ∙ ap (range_rows kept s labels source.bytes pieces) (sym (read_numbers c source span one))

bodies_are : (s : SnippetSettings) (label_extents : List LabelExtent) (kept : ℕ → Bool) (labels : List DrawnLabel)
    (source : Source) (pieces : List (List (List Highlight))) (spans : List Span) → 1 ≤ s.layout.context_lines →
    AllByRecursion (KeepsAlike s label_extents source.bytes kept) (lines_of_groups s.layout.context_lines source spans)
    →
    bodies s label_extents labels source pieces spans ≡ rows_of_ranges kept s labels source.bytes pieces
    (lines_of_groups s.layout.context_lines source spans)
bodies_are s label_extents kept labels source pieces [] one h = refl
bodies_are s label_extents kept labels source pieces (span ∷ spans) one h =
    ap (λ r. r ∷ bodies s label_extents labels source (drop 1 pieces) spans)
    (body_is s label_extents kept labels source s.layout.context_lines span (first_of pieces) one h.0)
    ∙ ap (λ r. range_rows kept s labels source.bytes (first_of pieces)
    (lines_in source.bytes (contents s.layout.context_lines source span)) ∷ r)
    (bodies_are s label_extents kept labels source (drop 1 pieces) spans one h.1)

-- the rows between the frames' rows are those of the maximal runs of shown lines, each with its number and its own
-- cells
pub joined_bodies : (s : SnippetSettings) (label_extents : List LabelExtent) (kept : ℕ → Bool) (source : Source)
    (label : Label) (labels : List Label) (drawn : List DrawnLabel) (fails : List Bool)
    (pieces : List (List (List Highlight))) → 1 ≤ s.layout.context_lines → NoneFails fails
    → has_own_context (label ∷ labels)
    ≡ false →
    AllByRecursion (KeepsAlike s label_extents source.bytes kept)
    (snippets s.layout.context_lines source.bytes (label ∷ labels)) →
    bodies s label_extents drawn source pieces (groups_answered s.layout.context_lines source fails
    (spans_of (in_order (label ∷ labels))))
    ≡ rows_of_ranges kept s drawn source.bytes pieces (snippets s.layout.context_lines source.bytes (label ∷ labels))
joined_bodies s label_extents kept source label labels drawn fails pieces one none own h =
    let groups : List Span = groups_answered s.layout.context_lines source fails (spans_of (in_order (label ∷ labels)))
    in
    let runs : lines_of_groups s.layout.context_lines source groups
    ≡ snippets s.layout.context_lines source.bytes (label ∷ labels) =
    groups_are_runs s.layout.context_lines source fails label labels one none own in
    bodies_are s label_extents kept drawn source pieces groups one
    (subst (λ (rs : List (List ℕ)). AllByRecursion (KeepsAlike s label_extents source.bytes kept) rs) (sym runs) h)
    ∙ ap (rows_of_ranges kept s drawn source.bytes pieces) runs

-- whole snippets

pub all_framed : (s : SnippetSettings) (label_extents : List LabelExtent) (source : Source) (labels : List Label)
    (pieces : List (List (List Highlight))) (groups : List Span) →
    all_snippets s label_extents source labels pieces groups ≡ framed_rows s source labels groups
    (bodies s label_extents (drawn_labels s (length source.bytes) labels) source pieces groups)
all_framed s label_extents source labels pieces [] = refl
all_framed s label_extents source labels pieces (group ∷ groups) =
    ap (λ r. snippet s label_extents source labels group (first_of pieces) ++ r)
    (all_framed s label_extents source labels (drop 1 pieces) groups)
