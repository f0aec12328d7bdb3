-- Snippets draw the maximal runs of shown lines, whichever way their labels are grouped.
use Rattle.std.proofs.Common.{ℕ, ◌<◌, ◌≤◌, ◌≡◌, ◌⊎◌, max, inl, inr, Bool, true, false, cond, List, [], ◌∷◌, ◌||◌}
use Rattle.std.proofs.Common.{length, map, Some, None, sym, ap, ap₂, ◌∙◌, subst, arith}
use Rattle.std.specs.Prelude.{unwrap_or, is_some}
use Rattle.std.specs.Option.{option_map}
use Rattle.std.specs.List.{range_with_len, AllByRecursion}
use Rattle.std.proofs.lemmas.List.Elements.{filter_agree}
use Rattle.std.proofs.lemmas.Bool.{or_parts}
use Rattle.miette_lines.specs.rules.Lines.{lines_of}
use Rattle.miette_protocol.specs.views.Meaning.{Label}
use Rattle.miette_protocol.specs.rules.Reading.{Span, Source, IsInBounds}
use Rattle.miette_labels.specs.rules.Answers.{Answers, Highlight, first_of, NoneFails, AlwaysReads}
use Rattle.miette_labels.specs.rules.Around.{has_own_context, label_context, HaveContext, group_context}
use Rattle.miette_labels.specs.rules.Contexts.{contents}
use Rattle.miette_snippet_rules.specs.rules.FoldedLabels.{LabelExtent, extents_of_labels}
use Rattle.miette_snippet_rules.specs.rules.Frames.{refused_row}
use Rattle.miette_labels.specs.rules.Groups as G
use Rattle.miette_labels.specs.rules.Groups.{in_order, spans_of, groups_answered, own_groups, groups_of}
use Rattle.miette_labels.specs.rules.Groups.{AreInBounds}
use Rattle.miette_labels.specs.rules.Labels.{DrawnLabel}
use Rattle.miette_snippet_rules.specs.rules.SnippetLayout.{body_rows, all_snippets, drawn_labels, settings_around}
use Rattle.miette_snippet_rules.specs.rules.SnippetLayout.{rows_unless, snippet_rows}
use Rattle.miette_snippet_rules.specs.rules.Numbers.{ranges}
use Rattle.miette_snippet_rules.specs.rules.ShownLines.{rows_of_ranges, bodies, framed_rows, framed_ranges}
use Rattle.miette_snippet_rules.specs.rules.Snippets as N
use Rattle.miette_lines.proofs.Cases.{by_cases}
use Rattle.miette_snippet_laws.proofs.ShownRuns.{groups_are_runs, no_labels, none_or_some, snippets_nowhere}
use Rattle.miette_snippet_laws.proofs.ShownRuns.{some_bytes}
use Rattle.miette_snippet_laws.proofs.SnippetBodies.{KeepsAlike, joined_bodies, all_framed}
use Rattle.miette_labels.proofs.RefusedLabel.{none_refused}
use Rattle.miette_labels.proofs.NoFailures.{some_none}
use Rattle.miette_snippet_laws.proofs.OwnGroups.{Around, group_blocks, groups_are, groups_there}
use Rattle.miette_snippet_laws.proofs.OwnGroups.{block_runs, lines_are, block_bodies, nowhere, groups_nowhere}
use Rattle.miette_snippet_laws.proofs.OwnGroups.{lines_nowhere, body_nowhere}
use Rattle.miette_snippet_laws.proofs.LeftOutRuns.{any_ordered, runs_alike, none_alike}
use Rattle.miette_labels.proofs.OwnContexts.{none_around, own_ordered, order_each}
use Rattle.miette_snippet_laws.proofs.Blocks.{numbers_of}
use Rattle.miette_labels.proofs.NoFailures.{none_unread}
use Rattle.miette_snippet_rules.specs.rules.SnippetSettings.{SnippetSettings}

-- ---- the order of labels changes nothing that is shown

shown_ordered : (context : ℕ) (bytes : List ℕ) (labels : List Label) → N.shown_numbers context bytes (in_order labels)
    ≡ N.shown_numbers context bytes labels
shown_ordered context bytes labels =
    filter_agree (N.is_context_line context bytes (in_order labels)) (N.is_context_line context bytes labels)
    (any_ordered context bytes labels) (range_with_len 0 (length (lines_of bytes)))

pub around_ordered : (context : ℕ) (labels : List Label) → HaveContext context labels
    → Around context (in_order labels) (in_order labels)
around_ordered context labels h =
    subst (λ (own : Bool). AllByRecursion (λ label. 1 ≤ unwrap_or label.context (cond own (max 1 context) context))
    (in_order labels)) (sym (own_ordered labels))
    (order_each (λ label. 1 ≤ label_context context labels label) labels h)

some_labels : (labels : List Label) → has_own_context labels ≡ true → 0 < length labels
some_labels [] h = cc
some_labels (label ∷ labels) h = omega arith

-- the maximal runs, as the lines of the blocks of groups
runs_same : (context : ℕ) (bytes : List ℕ) (labels : List Label) → HaveContext context labels → 0 < length bytes →
    map (numbers_of (length (lines_of bytes))) (group_blocks context bytes (in_order labels))
    ≡ N.snippets context bytes labels
runs_same context bytes labels h some =
    block_runs context bytes (in_order labels) (around_ordered context labels h) some
    ∙ ap ranges (shown_ordered context bytes labels) ∙ sym (some_bytes context bytes labels some)

-- ---- groups

own_by : (context : ℕ) (source : Source) (labels : List Label) → has_own_context (in_order labels) ≡ true
    → HaveContext context labels → (length source.bytes ≡ 0) ⊎ (0 < length source.bytes) →
    G.lines_of_groups 0 source (own_groups context source (in_order labels)) ≡ N.snippets context source.bytes labels
own_by context source labels own h (inl none) =
    ap (G.lines_of_groups 0 source) (groups_nowhere context source (in_order labels) (some_labels (in_order labels) own)
    (around_ordered context labels h) none)
    ∙ lines_nowhere source none
    ∙ sym (snippets_nowhere context source.bytes labels (some_labels labels (sym (own_ordered labels) ∙ own)) none)
own_by context source labels own h (inr some) =
    ap (G.lines_of_groups 0 source) (groups_are context source (in_order labels) (around_ordered context labels h) some)
    ∙ lines_are source (group_blocks context source.bytes (in_order labels)) some
    (groups_there context source.bytes (in_order labels) (around_ordered context labels h) some)
    ∙ runs_same context source.bytes labels h some

joined_by : (context : ℕ) (source : Source) (fails : List Bool) (labels : List Label) → has_own_context labels ≡ false
    → HaveContext context labels → NoneFails fails →
    G.lines_of_groups context source (groups_answered context source fails (spans_of (in_order labels)))
    ≡ N.snippets context source.bytes labels
joined_by context source fails [] own h none = sym (no_labels context source.bytes)
joined_by context source fails (label ∷ labels) own h none =
    let one : 1 ≤ context = omega (
      arith,
      h.0,
      none_around context (label ∷ labels) label own
          (or_parts (is_some label.context) (has_own_context labels) own).0,
    ) in
    groups_are_runs context source fails label labels one none own

pub groups_runs : (context : ℕ) (source : Source) (fails : List Bool) (labels : List Label) → HaveContext context labels
    → NoneFails fails →
    G.lines_of_groups (group_context context (in_order labels)) source
    (groups_of context source fails (in_order labels)) ≡ N.snippets context source.bytes labels
groups_runs context source fails labels h none =
    let ls : List Label = in_order labels in
    let either : (own : Bool) → has_own_context ls ≡ own → G.lines_of_groups (group_context context ls) source
    (groups_of context source fails ls)
    ≡ G.lines_of_groups (cond own 0 context) source (cond own (own_groups context source ls)
    (groups_answered context source fails (spans_of ls))) =
    λ own e. ap (λ b. G.lines_of_groups (cond b 0 context) source
    (cond b (own_groups context source ls) (groups_answered context source fails (spans_of ls)))) e in
    by_cases {C = G.lines_of_groups (group_context context ls) source (groups_of context source fails ls)
    ≡ N.snippets context source.bytes labels} (has_own_context ls)
    (λ t. either true t ∙ own_by context source labels t h (none_or_some (length source.bytes)))
    (λ f. either false f ∙ joined_by context source fails labels (sym (own_ordered labels) ∙ f) h none)

-- ---- the rows between the frames' rows

-- in each snippet the lines that are left out are those that aren't kept
snippets_by : (s : SnippetSettings) (context : ℕ) (source : Source) (labels : List Label) → HaveContext context labels
    → (length source.bytes ≡ 0) ⊎ (0 < length source.bytes) →
    AllByRecursion (KeepsAlike s (extents_of_labels s.layout.label_lines context source (in_order labels)) source.bytes
    (N.is_kept s.layout.label_lines context source.bytes labels)) (N.snippets context source.bytes labels)
snippets_by s context source [] h (inl none) = subst (λ rs. AllByRecursion
    (KeepsAlike s (extents_of_labels s.layout.label_lines context source []) source.bytes
    (N.is_kept s.layout.label_lines context source.bytes [])) rs) (sym (no_labels context source.bytes)) tt
snippets_by s context source (label ∷ labels) h (inl none) =
    let xs = extents_of_labels s.layout.label_lines context source (in_order (label ∷ labels)) in
    let kept = N.is_kept s.layout.label_lines context source.bytes (label ∷ labels) in
    subst (λ rs. AllByRecursion (KeepsAlike s xs source.bytes kept) rs)
    (sym (snippets_nowhere context source.bytes (label ∷ labels) (omega arith) none))
    (none_alike s xs source.bytes kept, tt)
snippets_by s context source labels h (inr some) =
    let alike = runs_alike s context source labels (around_ordered context labels h) some in
    subst (λ rs. AllByRecursion (KeepsAlike s (extents_of_labels s.layout.label_lines context source (in_order labels))
    source.bytes
    (N.is_kept s.layout.label_lines context source.bytes labels)) rs)
    (ap ranges (shown_ordered context source.bytes labels) ∙ sym (some_bytes context source.bytes labels some)) alike

own_bodies : (s : SnippetSettings) (label_extents : List LabelExtent) (kept : ℕ → Bool) (context : ℕ) (source : Source)
    (labels : List Label) (drawn : List DrawnLabel) (pieces : List (List (List Highlight))) → s.layout.context_lines ≡ 0
    → has_own_context (in_order labels) ≡ true → HaveContext context labels →
    AllByRecursion (KeepsAlike s label_extents source.bytes kept) (N.snippets context source.bytes labels)
    → (length source.bytes ≡ 0) ⊎ (0 < length source.bytes) →
    bodies s label_extents drawn source pieces (own_groups context source (in_order labels))
    ≡ rows_of_ranges kept s drawn source.bytes pieces (N.snippets context source.bytes labels)
own_bodies s label_extents kept context source labels drawn pieces bare own h alike (inl none) =
    ap (bodies s label_extents drawn source pieces) (groups_nowhere context source (in_order labels)
    (some_labels (in_order labels) own) (around_ordered context labels h) none)
    ∙ ap (λ c. body_rows s label_extents drawn source.bytes (contents c source nowhere) (first_of pieces) ∷ []) bare
    ∙ ap (λ rows. rows ∷ []) (body_nowhere s label_extents drawn source (first_of pieces) none)
    ∙ ap (rows_of_ranges kept s drawn source.bytes pieces)
    (sym (snippets_nowhere context source.bytes labels (some_labels labels (sym (own_ordered labels) ∙ own)) none))
own_bodies s label_extents kept context source labels drawn pieces bare own h alike (inr some) =
    ap (bodies s label_extents drawn source pieces) (groups_are context source (in_order labels)
    (around_ordered context labels h) some)
    ∙ block_bodies s label_extents kept drawn source pieces (group_blocks context source.bytes (in_order labels)) bare
    some
    (groups_there context source.bytes (in_order labels) (around_ordered context labels h) some)
    (subst (λ rs. AllByRecursion (KeepsAlike s label_extents source.bytes kept) rs)
    (sym (runs_same context source.bytes labels h some)) alike)
    ∙ ap (rows_of_ranges kept s drawn source.bytes pieces) (runs_same context source.bytes labels h some)

joined_rows : (s : SnippetSettings) (label_extents : List LabelExtent) (kept : ℕ → Bool) (context : ℕ) (source : Source)
    (labels : List Label) (drawn : List DrawnLabel) (fails : List Bool) (pieces : List (List (List Highlight)))
    → s.layout.context_lines ≡ context → has_own_context labels ≡ false →
    HaveContext context labels → AllByRecursion (KeepsAlike s label_extents source.bytes kept)
    (N.snippets context source.bytes labels) → NoneFails fails →
    bodies s label_extents drawn source pieces (groups_answered context source fails (spans_of (in_order labels)))
    ≡ rows_of_ranges kept s drawn source.bytes pieces (N.snippets context source.bytes labels)
joined_rows s label_extents kept context source [] drawn fails pieces same own h alike none =
    ap (rows_of_ranges kept s drawn source.bytes pieces) (sym (no_labels context source.bytes))
joined_rows s label_extents kept context source (label ∷ labels) drawn fails pieces same own h alike none =
    let one : 1 ≤ s.layout.context_lines = omega (
      arith,
      same,
      h.0,
      none_around context (label ∷ labels) label own
          (or_parts (is_some label.context) (has_own_context labels) own).0,
    ) in
    ap (λ c. bodies s label_extents drawn source pieces (groups_answered c source fails
    (spans_of (in_order (label ∷ labels))))) (sym same)
    ∙ joined_bodies s label_extents kept source label labels drawn fails pieces one none own
    (subst (λ (c : ℕ). AllByRecursion (KeepsAlike s label_extents source.bytes kept)
    (N.snippets c source.bytes (label ∷ labels))) (sym same) alike)
    ∙ ap (λ c. rows_of_ranges kept s drawn source.bytes pieces (N.snippets c source.bytes (label ∷ labels))) same

bodies_are_runs : (s : SnippetSettings) (source : Source) (labels : List Label) (drawn : List DrawnLabel)
    (fails : List Bool) (pieces : List (List (List Highlight))) → HaveContext s.layout.context_lines labels
    → NoneFails fails →
    bodies (settings_around s (in_order labels)) (extents_of_labels s.layout.label_lines s.layout.context_lines source
    (in_order labels)) drawn
    source pieces (groups_of s.layout.context_lines source fails (in_order labels))
    ≡ rows_of_ranges (N.is_kept s.layout.label_lines s.layout.context_lines source.bytes labels)
    (settings_around s (in_order labels)) drawn
    source.bytes pieces (N.snippets s.layout.context_lines source.bytes labels)
bodies_are_runs s source labels drawn fails pieces h none =
    let ls : List Label = in_order labels in
    let s' : SnippetSettings = settings_around s ls in
    let xs : List LabelExtent = extents_of_labels s.layout.label_lines s.layout.context_lines source ls in
    let kept : ℕ → Bool = N.is_kept s.layout.label_lines s.layout.context_lines source.bytes labels in
    let alike : AllByRecursion (KeepsAlike s' xs source.bytes kept)
    (N.snippets s.layout.context_lines source.bytes labels) =
    snippets_by s' s.layout.context_lines source labels h (none_or_some (length source.bytes)) in
    let either : (own : Bool) → has_own_context ls ≡ own → bodies s' xs drawn source pieces
    (groups_of s.layout.context_lines source fails ls)
    ≡ bodies s' xs drawn source pieces (cond own (own_groups s.layout.context_lines source ls)
    (groups_answered s.layout.context_lines source fails (spans_of ls))) =
    λ own e. ap (λ b. bodies s' xs drawn source pieces (cond b (own_groups s.layout.context_lines source ls)
    (groups_answered s.layout.context_lines source fails (spans_of ls)))) e in
    by_cases {C = bodies s' xs drawn source pieces (groups_of s.layout.context_lines source fails ls)
    ≡ rows_of_ranges kept s' drawn source.bytes pieces (N.snippets s.layout.context_lines source.bytes labels)}
    (has_own_context ls)
    (λ t. either true t ∙ own_bodies s' xs kept s.layout.context_lines source labels drawn pieces
    (ap (λ b. cond b 0 s.layout.context_lines) t) t
    h alike (none_or_some (length source.bytes)))
    (λ f. either false f ∙ joined_rows s' xs kept s.layout.context_lines source labels drawn fails pieces
    (ap (λ b. cond b 0 s.layout.context_lines) f) (sym (own_ordered labels) ∙ f) h alike none)

pub snippets_are_runs : (s : SnippetSettings) (source : Source) (labels : List Label) (answers : Answers)
    → HaveContext s.layout.context_lines labels → AreInBounds source.bytes labels → AlwaysReads answers →
    snippet_rows s source labels answers ≡ Some (framed_ranges s source labels answers)
snippets_are_runs s source labels answers h accepted always =
    let ls : List Label = in_order labels in
    let s' : SnippetSettings = settings_around s ls in
    let gs : List Span = groups_of s.layout.context_lines source answers.join_fails ls in
    let drawn : List DrawnLabel = drawn_labels s' (length source.bytes) ls in
    ap (λ r. rows_unless s source ls answers (option_map (refused_row s) r))
    (none_refused source.bytes answers.label_fails ls always.labels
    (order_each (λ label. IsInBounds source.bytes label.span) labels accepted))
    ∙ ap₂ (λ a b. cond (a || b) None (Some (all_snippets s'
    (extents_of_labels s.layout.label_lines s.layout.context_lines source ls) source ls
    answers.pieces gs))) (none_unread s.layout.context_lines source answers.join_fails ls always.joins)
    (some_none answers.place_fails gs always.places)
    ∙ ap Some (all_framed s' (extents_of_labels s.layout.label_lines s.layout.context_lines source ls) source ls
    answers.pieces
    gs
    ∙ ap (framed_rows s' source ls gs) (bodies_are_runs s source labels drawn answers.join_fails answers.pieces h
    always.joins))
