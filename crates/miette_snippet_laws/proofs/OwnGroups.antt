-- Labels with their own numbers of context lines: their groups show the maximal runs of the shown lines.
use Rattle.std.proofs.Common.{ℕ, Bool, ◌+◌, ◌-◌, ◌<◌, ◌≤◌, ◌≡◌, min, false, List, [], ◌∷◌, ◌||◌, length}
use Rattle.std.proofs.Common.{map, refl, ap, ap₂, ◌∙◌, subst, arith, drop}
use Rattle.std.proofs.lemmas.List.Elements.{filter_agree}
use Rattle.std.specs.List.{range_with_len, list_any, AllByRecursion}
use Rattle.miette_lines.specs.rules.Lines.{Line, lines_of}
use Rattle.miette_protocol.specs.views.Meaning.{Label}
use Rattle.miette_protocol.specs.rules.Reading.{Span, Source, Contents, data_start, data_end}
use Rattle.miette_protocol.specs.rules.Context.{first_line, last_line}
use Rattle.miette_labels.specs.rules.Answers.{Highlight, first_of}
use Rattle.miette_labels.specs.rules.Around.{label_context}
use Rattle.miette_labels.specs.rules.Contexts.{contents, lines_of_contents}
use Rattle.miette_snippet_rules.specs.rules.FoldedLabels.{LabelExtent}
use Rattle.miette_snippet_rules.specs.rules.Frames.{width_of_lines}
use Rattle.miette_labels.specs.rules.Groups as G
use Rattle.miette_labels.specs.rules.Groups.{label_data_span, by_begin, merged_spans_from}
use Rattle.miette_labels.specs.rules.Groups.{merged_data_spans, own_groups}
use Rattle.miette_snippet_rules.specs.rules.Gutters.{gutter_columns}
use Rattle.miette_labels.specs.rules.Labels.{DrawnLabel}
use Rattle.miette_snippet_rules.specs.rules.SnippetLayout.{rows_of_lines, left_out, body_rows}
use Rattle.miette_snippet_rules.specs.rules.Numbers.{ranges}
use Rattle.miette_snippet_rules.specs.rules.ShownLines.{range_rows, rows_of_ranges, bodies}
use Rattle.miette_snippet_rules.specs.rules.Snippets as N
use Rattle.miette_labels.proofs.SortedLabels.{by_begin_is, sorted_each, sorted_length}
use Rattle.miette_lines.proofs.Places.{line_start_within}
use Rattle.miette_lines.proofs.Parts.{part_length}
use Rattle.miette_protocol.proofs.Wholes.{end_is, end_within, first-le-last, start_is}
use Rattle.miette_protocol.proofs.Wholes.{first-lt}
use Rattle.miette_snippet_laws.proofs.ReadLines.{no_lines, none_in}
use Rattle.miette_snippet_laws.proofs.SnippetBodies.{KeepsAlike, body_from}
use Rattle.miette_snippet_laws.proofs.Reread.{block_line, block_lines, block_numbers}
use Rattle.miette_snippet_laws.proofs.Blocks.{Block, IsBlock, AreBlocks, span_of, order_same, joined_same}
use Rattle.miette_snippet_laws.proofs.Blocks.{blocks_by_begin, joined_blocks, ordered_there, joined_there}
use Rattle.miette_snippet_laws.proofs.Blocks.{blocks_are_runs, numbers_of, in_blocks, is_in_block}
use Rattle.miette_snippet_rules.specs.rules.SnippetLayout.{snippet_context, cells_of}
use Rattle.miette_snippet_rules.specs.rules.SnippetSettings.{SnippetSettings}

-- ---- a label's stretch

abbrev pub block_of : ℕ → List ℕ → List Label → Label → Block
block_of context bytes all label = record {
  low = first_line bytes label.span (label_context context all label);
  high = last_line bytes label.span (label_context context all label);
}

abbrev pub Around : ℕ → List Label → List Label → Type 0
Around context all labels = AllByRecursion (λ label. 1 ≤ label_context context all label) labels

stretch_is : (context : ℕ) (source : Source) (all : List Label) (label : Label) → 1 ≤ label_context context all label →
    label_data_span context source all label ≡ span_of source.bytes (block_of context source.bytes all label)
stretch_is context source all label one =
    ap₂ (λ x y. record { offset = x; len = y - x })
    (start_is source.bytes label.span (label_context context all label) one)
    (end_is source.bytes label.span (label_context context all label) one)

stretches_are : (context : ℕ) (source : Source) (all labels : List Label) → Around context all labels →
    map (label_data_span context source all) labels ≡ map (span_of source.bytes)
    (map (block_of context source.bytes all) labels)
stretches_are context source all [] h = refl
stretches_are context source all (label ∷ labels) h =
    ap₂ (λ x xs. x ∷ xs) (stretch_is context source all label h.0) (stretches_are context source all labels h.1)

blocks_there : (context : ℕ) (bytes : List ℕ) (all labels : List Label) → Around context all labels → 0 < length bytes
    → AreBlocks (length (lines_of bytes)) (map (block_of context bytes all) labels)
blocks_there context bytes all [] h some = tt
blocks_there context bytes all (label ∷ labels) h some =
    let c : ℕ = label_context context all label in (
      record { order = first-le-last bytes label.span c c; there = first-lt c bytes label.span h.0 some },
      blocks_there context bytes all labels h.1 some,
    )

-- the blocks of the groups
abbrev pub group_blocks : ℕ → List ℕ → List Label → List Block
group_blocks context bytes labels = joined_blocks (blocks_by_begin (map (block_of context bytes labels) labels))

pub groups_there : (context : ℕ) (bytes : List ℕ) (labels : List Label) → Around context labels labels → 0
    < length bytes → AreBlocks (length (lines_of bytes)) (group_blocks context bytes labels)
groups_there context bytes labels h some =
    joined_there (length (lines_of bytes)) (blocks_by_begin (map (block_of context bytes labels) labels))
    (ordered_there (length (lines_of bytes)) (map (block_of context bytes labels) labels)
    (blocks_there context bytes labels labels h some))

pub groups_are : (context : ℕ) (source : Source) (labels : List Label) → Around context labels labels → 0
    < length source.bytes →
    own_groups context source labels ≡ map (span_of source.bytes) (group_blocks context source.bytes labels)
groups_are context source labels h some =
    let bytes : List ℕ = source.bytes in
    let bs : List Block = map (block_of context bytes labels) labels in
    let there : AreBlocks (length (lines_of bytes)) bs = blocks_there context bytes labels labels h some in
    ap (λ ss. merged_data_spans (by_begin ss)) (stretches_are context source labels labels h)
    ∙ ap merged_data_spans (order_same bytes bs there)
    ∙ joined_same bytes (blocks_by_begin bs) (ordered_there (length (lines_of bytes)) bs there)

-- ---- their numbers

in_same : (context : ℕ) (bytes : List ℕ) (k : ℕ) (all labels : List Label) →
    in_blocks (map (block_of context bytes all) labels) k
    ≡ list_any (λ label. N.is_in_context (label_context context all label) bytes k label.span) labels
in_same context bytes k all [] = refl
in_same context bytes k all (label ∷ labels) =
    ap (λ y. is_in_block k (block_of context bytes all label) || y) (in_same context bytes k all labels)

-- in a source that isn't empty, by labels in any order
pub block_runs : (context : ℕ) (bytes : List ℕ) (labels : List Label) → Around context labels labels → 0 < length bytes
    →
    map (numbers_of (length (lines_of bytes))) (group_blocks context bytes labels)
    ≡ ranges (N.shown_numbers context bytes labels)
block_runs context bytes labels h some =
    blocks_are_runs (length (lines_of bytes)) (map (block_of context bytes labels) labels)
    (blocks_there context bytes labels labels h some)
    ∙ ap ranges (filter_agree _ _ (λ k. in_same context bytes k labels labels)
    (range_with_len 0 (length (lines_of bytes))))

pub lines_are : (source : Source) (bs : List Block) → 0 < length source.bytes
    → AreBlocks (length (lines_of source.bytes)) bs →
    G.lines_of_groups 0 source (map (span_of source.bytes) bs) ≡ map (numbers_of (length (lines_of source.bytes))) bs
lines_are source [] some h = refl
lines_are source (b ∷ bs) some h = ap₂ (λ x xs. x ∷ xs) (block_numbers source b some h.0) (lines_are source bs some h.1)

-- ---- their rows

block_body : (s : SnippetSettings) (label_extents : List LabelExtent) (kept : ℕ → Bool) (labels : List DrawnLabel)
    (source : Source) (b : Block) (pieces : List (List Highlight)) → 0 < length source.bytes
    → IsBlock (length (lines_of source.bytes)) b →
    KeepsAlike s label_extents source.bytes kept (numbers_of (length (lines_of source.bytes)) b) →
    body_rows s label_extents labels source.bytes (contents 0 source (span_of source.bytes b)) pieces
    ≡ range_rows kept s labels source.bytes pieces (numbers_of (length (lines_of source.bytes)) b)
block_body s label_extents kept labels source b pieces some h alike =
    let bytes : List ℕ = source.bytes in
    let ls : List Line = lines_of_contents (contents 0 source (span_of bytes b)) in
    ap (λ n. rows_of_lines (left_out s n ls label_extents) false
    (snippet_context s (width_of_lines n ls) (gutter_columns labels ls) labels (cells_of s bytes)) (n + 1) pieces
    ls) (block_line source b h)
    ∙ body_from s label_extents kept labels bytes pieces b.low (min (b.high + 1) (length (lines_of bytes)) - b.low) ls
    (block_lines source b some h) alike

pub block_bodies : (s : SnippetSettings) (label_extents : List LabelExtent) (kept : ℕ → Bool) (labels : List DrawnLabel)
    (source : Source) (pieces : List (List (List Highlight))) (bs : List Block) → s.layout.context_lines ≡ 0 → 0
    < length source.bytes → AreBlocks (length (lines_of source.bytes)) bs →
    AllByRecursion (KeepsAlike s label_extents source.bytes kept) (map (numbers_of (length (lines_of source.bytes))) bs)
    →
    bodies s label_extents labels source pieces (map (span_of source.bytes) bs)
    ≡ rows_of_ranges kept s labels source.bytes pieces (map (numbers_of (length (lines_of source.bytes))) bs)
block_bodies s label_extents kept labels source pieces [] e some h alike = refl
block_bodies s label_extents kept labels source pieces (b ∷ bs) e some h alike =
    ap₂ (λ x xs. x ∷ xs)
    (ap (λ c. body_rows s label_extents labels source.bytes (contents c source (span_of source.bytes b))
    (first_of pieces)) e
    ∙ block_body s label_extents kept labels source b (first_of pieces) some h.0 alike.0)
    (block_bodies s label_extents kept labels source (drop 1 pieces) bs e some h.1 alike.1)

-- ---- an empty source

abbrev pub nowhere : Span
nowhere = record { offset = 0; len = 0 }

stretch_none : (context : ℕ) (source : Source) (all : List Label) (label : Label) → 1 ≤ label_context context all label
    → length source.bytes ≡ 0 → label_data_span context source all label ≡ nowhere
stretch_none context source all label one none =
    let c : ℕ = label_context context all label in
    let bytes : List ℕ = source.bytes in
    let from : data_start bytes label.span c ≡ 0 = omega (
      arith,
      none,
      start_is bytes label.span c one,
      line_start_within bytes (first_line bytes label.span c),
    ) in
    let to : data_end bytes label.span c ≡ 0 = omega (arith, none, end_within bytes label.span c) in
    ap₂ (λ x y. record { offset = x; len = y - x }) from to

abbrev pub AreNowhere : List Span → Type 0
AreNowhere spans = AllByRecursion (λ span. span ≡ nowhere) spans

stretches_none : (context : ℕ) (source : Source) (all labels : List Label) → Around context all labels
    → length source.bytes ≡ 0 → AreNowhere (map (label_data_span context source all) labels)
stretches_none context source all [] h none = tt
stretches_none context source all (label ∷ labels) h none =
    (stretch_none context source all label h.0 none, stretches_none context source all labels h.1 none)

order_nowhere : (spans : List Span) → AreNowhere spans → AreNowhere (by_begin spans)
order_nowhere spans h = subst (λ (ss : List Span). AreNowhere ss) (by_begin_is spans)
    (sorted_each (λ s. s.offset) (λ s. s ≡ nowhere) spans h)

from_nowhere : (before : Span) (spans : List Span) → before ≡ nowhere → AreNowhere spans
    → merged_spans_from before spans
    ≡ nowhere ∷ []
from_nowhere before [] e h = ap (λ s. s ∷ []) e
from_nowhere before (span ∷ spans) e h =
    ap₂ (λ x y. merged_spans_from x (y ∷ spans)) e h.0 ∙ from_nowhere nowhere spans refl h.1

one_nowhere : (spans : List Span) → 0 < length spans → AreNowhere spans → merged_data_spans spans ≡ nowhere ∷ []
one_nowhere [] some h = absurd (omega (arith, some))
one_nowhere (span ∷ spans) some h = from_nowhere span spans h.0 h.1

pub groups_nowhere : (context : ℕ) (source : Source) (labels : List Label) → 0 < length labels
    → Around context labels labels → length source.bytes ≡ 0 →
    own_groups context source labels ≡ nowhere ∷ []
groups_nowhere context source [] some h none = absurd (omega (arith, some))
groups_nowhere context source (label ∷ labels) some h none =
    let ss : List Span = map (label_data_span context source (label ∷ labels)) labels in
    let first : Span = label_data_span context source (label ∷ labels) label in
    one_nowhere (by_begin (first ∷ ss)) (omega (
      arith,
      ap length (by_begin_is (first ∷ ss)),
      sorted_length (λ s. s.offset) (first ∷ ss),
    ))
    (order_nowhere (first ∷ ss) (stretches_none context source (label ∷ labels) (label ∷ labels) h none))

pub lines_nowhere : (source : Source) → length source.bytes ≡ 0 → G.lines_of_groups 0 source (nowhere ∷ []) ≡ [] ∷ []
lines_nowhere source none = ap (λ r. r ∷ []) (none_in source.bytes (contents 0 source nowhere)
    (ap length (no_lines 0 source.bytes none)))

pub body_nowhere : (s : SnippetSettings) (label_extents : List LabelExtent) (labels : List DrawnLabel) (source : Source)
    (pieces : List (List Highlight)) → length source.bytes ≡ 0 →
    body_rows s label_extents labels source.bytes (contents 0 source nowhere) pieces ≡ []
body_nowhere s label_extents labels source pieces none =
    let read : Contents = contents 0 source nowhere in
    ap (λ ls. rows_of_lines (left_out s read.line ls label_extents) false
    (snippet_context s (width_of_lines read.line ls) (gutter_columns labels ls) labels (cells_of s source.bytes))
    (read.line + 1) pieces ls)
    (no_lines 0 read.bytes (omega (
      arith,
      none,
      end_within source.bytes nowhere 0,
      part_length source.bytes 0 (data_end source.bytes nowhere 0) (end_within source.bytes nowhere 0),
    )))
