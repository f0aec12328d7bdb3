-- Labels that were read, as they may be folded, are those of the definition.
use Rattle.std.proofs.Common.{ℕ, suc, ◌+◌, ◌-◌, ◌≡◌, min, max, cond, List, [], ◌∷◌, length, map, Option, Some, None}
use Rattle.std.proofs.Common.{refl, sym, ap, ap₂, ◌∙◌, arith, All}
use Rattle.std.specs.Prelude.{unwrap_or}
use Rattle.miette_protocol.specs.views.Meaning.{Label}
use Rattle.miette_protocol.specs.rules.Reading.{Span, Source, Contents}
use Rattle.miette_labels.specs.declared.reading.ReadLabel.{ReadLabel}
use Rattle.miette_labels.specs.rules.Around.{has_own_context}
use Rattle.miette_labels.specs.rules.Contexts as C
use Rattle.miette_labels.specs.rules.Contexts.{contents}
use Rattle.miette_labels.specs.rules.Groups.{in_order}
use Rattle.miette_labels.specs.views.ProgramLabels.{label_at}
use Rattle.miette_labels.specs.views.Placing.{end_drawn}
use Rattle.miette_labels.specs.views.Reads.{IsRead}
use Rattle.miette_snippet_rules.specs.rules.FoldedLabels.{label_extent, extents_of_labels, last_byte}
use Rattle.miette_snippet_folds.specs.views.ReadExtents.{read_extent, read_extents}
use Rattle.miette_labels.proofs.OwnContexts.{own_ordered}
use Rattle.miette_labels.proofs.RefusedLabel.{read_of}
use Rattle.miette_labels.proofs.LabelEnds.{end_is}

last_by : (o e n d : ℕ) → d ≡ max o (min e n) → max o (d - 1) ≡ max o (min e n - 1)
last_by o e n d h = omega (arith, h)

-- of one label, where all have this number for labels without their own
one_is : (context : ℕ) (source : Source) (labels : List Label) (r : ReadLabel) → IsRead context source labels r →
    read_extent context (has_own_context labels) labels r ≡ label_extent context source labels (label_at labels r.index)
one_is context source labels r h =
    let l : Label = label_at labels r.index in
    let around : ℕ = unwrap_or l.context (cond (has_own_context labels) (max 1 context) context) in
    let last : max r.span.offset (end_drawn r - 1) ≡ last_byte source.bytes l.span =
    ap (λ s. max s.offset (end_drawn r - 1)) h.span ∙ last_by l.span.offset (C.end_of_span l.span) (length source.bytes)
    (end_drawn r) (end_is context source labels r h) in
    ap (λ (s : Span). record {
      first = s.offset;
      last = max r.span.offset (end_drawn r - 1);
      from =
          r.contents.span.offset;
      until = max (C.end_of_span r.contents.span) (r.contents.span.offset + 1);
      around =
          around;
    }) h.span
    ∙ ap (λ (n : ℕ). record {
      first = l.span.offset;
      last = n;
      from = r.contents.span.offset;
      until =
          max (C.end_of_span r.contents.span) (r.contents.span.offset + 1);
      around = around;
    }) last
    ∙ ap (λ (c : Contents). record {
      first = l.span.offset;
      last = last_byte source.bytes l.span;
      from =
          c.span.offset;
      until = max (C.end_of_span c.span) (c.span.offset + 1);
      around = around;
    }) h.contents_are

-- the same by labels in order
ordered : (context : ℕ) (source : Source) (labels : List Label) (label : Label)
    → label_extent context source labels label
    ≡ label_extent context source (in_order labels) label
ordered context source labels label =
    ap (λ own. let c : ℕ = unwrap_or label.context (cond own (max 1 context) context) in let span : Span =
    (contents c source label.span).span in
    record {
      first = label.span.offset;
      last = last_byte source.bytes label.span;
      from = span.offset;
      until =
          max (C.end_of_span span) (span.offset + 1);
      around = c;
    }) (sym (own_ordered labels))

all_are : (context : ℕ) (source : Source) (labels : List Label) (reads : List ReadLabel)
    → All (IsRead context source labels) reads →
    map (read_extent context (has_own_context labels) labels) reads
    ≡ map (label_extent context source (in_order labels)) (map (read_of labels) reads)
all_are context source labels [] h = refl
all_are context source labels (r ∷ rs) h =
    ap₂ (λ x xs. x ∷ xs) (one_is context source labels r (h 0 r (omega arith))
    ∙ ordered context source labels (label_at labels r.index))
    (all_are context source labels rs (λ k d lt. h (suc k) d (omega arith)))

pub spreads_are : (limit : Option ℕ) (context : ℕ) (source : Source) (labels : List Label) (reads : List ReadLabel)
    → map (read_of labels) reads ≡ in_order labels → All (IsRead context source labels) reads →
    read_extents limit context labels reads ≡ extents_of_labels limit context source (in_order labels)
spreads_are None context source labels reads order h = refl
spreads_are (Some limit) context source labels reads order h = all_are context source labels reads h
    ∙ ap (map (label_extent context source (in_order labels))) order
