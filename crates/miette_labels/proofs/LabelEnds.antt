-- A label's end, cut to the end of its read's contents, is cut to the source's end. So labels are drawn as the
-- definition says.
use Rattle.std.proofs.Common.{ℕ, zero, suc, ◌+◌, ◌-◌, ◌≡◌, min, max, Bool, true, false, cond, eqb, ◌&&◌, Option, Some}
use Rattle.std.proofs.Common.{None, List, [], ◌∷◌, length, map, refl, sym, ap, ◌∙◌, subst, arith, All}
use Rattle.std.proofs.lemmas.Bool.{eqb-true}
use Rattle.miette_protocol.specs.views.Meaning.{Label}
use Rattle.miette_protocol.specs.rules.Reading.{Span, Source, IsInBounds}
use Rattle.miette_style.specs.declared.style.Style.{Style}
use Rattle.miette_labels.specs.declared.reading.ReadLabel.{ReadLabel}
use Rattle.miette_labels.specs.rules.Around.{label_context}
use Rattle.miette_labels.specs.rules.Contexts.{contents, end_of_span}
use Rattle.miette_labels.specs.rules.Labels.{DrawnLabel, drawn_from, drawn_label, style_at, parts_of}
use Rattle.miette_labels.specs.views.ProgramLabels.{label_at, label_text_at, drawn_of}
use Rattle.miette_labels.specs.views.Reads.{IsRead}
use Rattle.miette_labels.specs.views.Placing.{begins_at_end, end_drawn, placement_of, place_label, placements_from}
use Rattle.miette_labels.specs.views.Placing.{drawn_placement}
use Rattle.miette_labels.specs.declared.placed.PlacedLabel.{PlacedLabel}
use Rattle.miette_lines.proofs.Cases.{by_cases}
use Rattle.miette_protocol.proofs.Wholes.{shown_end}
use Rattle.miette_labels.proofs.RefusedLabel.{read_of}

pub cut_is : (c : ℕ) (source : Source) (span : Span) → IsInBounds source.bytes span
    → min (end_of_span span) (end_of_span (contents c source span).span)
    ≡ min (end_of_span span) (length source.bytes)
cut_is c source span h = sym (shown_end source span c c h)

pub end_is : (context : ℕ) (source : Source) (labels : List Label) (r : ReadLabel) → IsRead context source labels r →
    end_drawn r ≡ max (label_at labels r.index).span.offset
    (min (end_of_span (label_at labels r.index).span) (length source.bytes))
end_is context source labels r h =
    let l : Label = label_at labels r.index in
    ap (λ s. max s.offset (min (end_of_span s) (end_of_span r.contents.span))) h.span
    ∙ ap (λ it. max l.span.offset (min (end_of_span l.span) (end_of_span it.span))) h.contents_are
    ∙ ap (max l.span.offset) (cut_is (label_context context labels l) source l.span
    (subst (λ (s : Span). IsInBounds source.bytes s) h.span h.accepted))

text_is : (labels : List Label) (i : ℕ) → label_text_at labels i ≡ (label_at labels i).text
text_is [] i = refl
text_is (l ∷ ls) zero = refl
text_is (l ∷ ls) (suc i) = text_is ls i

-- Where the source's end is told, or isn't.
abbrev pub end_told : Bool → ℕ → Option ℕ
end_told ends n = cond ends (Some n) None

after_is : (ends : Bool) (n offset : ℕ) → begins_at_end (end_told ends n) offset ≡ (ends && eqb offset n)
after_is true n offset = refl
after_is false n offset = refl

-- a label at this offset and with this end, at the byte before where it stands after its line's text
abbrev made : Style → List (List ℕ) → Bool → ℕ → ℕ → DrawnLabel
made style parts after_text offset after = record {
  start = cond after_text (offset - 1) offset;
  after =
      cond after_text (offset - 1) after;
  style = style;
  parts = parts;
  after_text = after_text;
}

at_last : (style : Style) (parts : List (List ℕ)) (ends : Bool) (n offset after : ℕ) →
    made style parts (ends && eqb offset n) offset after
    ≡ record {
      start = cond (ends && eqb offset n) (n - 1) offset;
      after =
          cond (ends && eqb offset n) (n - 1) after;
      style = style;
      parts = parts;
      after_text = ends && eqb offset n;
    }
at_last style parts false n offset after = refl
at_last style parts true n offset after =
    by_cases {C = made style parts (eqb offset n) offset after
    ≡ record {
      start = cond (eqb offset n) (n - 1) offset;
      after = cond (eqb offset n) (n - 1) after;
      style =
          style;
      parts = parts;
      after_text = eqb offset n;
    }} (eqb offset n)
    (λ t. rw t (ap (λ x. record { start = x - 1; after = x - 1; style = style; parts = parts; after_text = true })
    (eqb-true offset n t)))
    (λ f. rw f refl)

-- a label as it is placed is the label as it is drawn
one_is : (ends : Bool) (styles : List Style) (context : ℕ) (source : Source) (labels : List Label) (i : ℕ)
    (r : ReadLabel) → IsRead context source labels r →
    drawn_placement (place_label (end_told ends (length source.bytes)) styles i labels r)
    ≡ drawn_label ends styles (length source.bytes) i (label_at labels r.index)
one_is ends styles context source labels i r h =
    let n : ℕ = length source.bytes in
    let l : Label = label_at labels r.index in
    let style : Style = style_at styles i in
    let parts : List (List ℕ) = parts_of (label_text_at labels r.index) in
    let drawn : Span → ℕ = λ s. max s.offset (min (end_of_span s) n) in
    ap (λ b. made style parts b r.span.offset (end_drawn r)) (after_is ends n r.span.offset)
    ∙ ap (made style parts (ends && eqb r.span.offset n) r.span.offset) (end_is context source labels r h)
    ∙ ap (λ s. made style parts (ends && eqb s.offset n) s.offset (drawn l.span)) h.span
    ∙ ap (λ t. made style (parts_of t) (ends && eqb l.span.offset n) l.span.offset (drawn l.span))
    (text_is labels r.index)
    ∙ at_last style (parts_of l.text) ends n l.span.offset (drawn l.span)

placed_reads : (ends : Bool) (styles : List Style) (context : ℕ) (source : Source) (labels : List Label) (i : ℕ)
    (reads : List ReadLabel) → All (IsRead context source labels) reads →
    map drawn_placement (placements_from (end_told ends (length source.bytes)) styles i labels reads)
    ≡ drawn_from ends styles (length source.bytes) i (map (read_of labels) reads)
placed_reads ends styles context source labels i [] h = refl
placed_reads ends styles context source labels i (r ∷ rs) h =
    ap (λ d. d ∷ map drawn_placement (placements_from (end_told ends (length source.bytes)) styles (i + 1) labels rs))
    (one_is ends styles context source labels i r (h 0 r (omega arith)))
    ∙ ap (λ ds. drawn_label ends styles (length source.bytes) i (label_at labels r.index) ∷ ds)
    (placed_reads ends styles context source labels (i + 1) rs (λ k d lt. h (suc k) d (omega arith)))

drawn_twice : (placed : List PlacedLabel) → map drawn_of placed ≡ map drawn_placement (map placement_of placed)
drawn_twice [] = refl
drawn_twice (p ∷ ps) = ap (λ ds. drawn_of p ∷ ds) (drawn_twice ps)

pub placed_drawn : (ends : Bool) (styles : List Style) (context : ℕ) (source : Source) (labels : List Label)
    (reads : List ReadLabel) (placed : List PlacedLabel) → All (IsRead context source labels) reads →
    map placement_of placed ≡ placements_from (end_told ends (length source.bytes)) styles 0 labels reads →
    map drawn_of placed ≡ drawn_from ends styles (length source.bytes) 0 (map (read_of labels) reads)
placed_drawn ends styles context source labels reads placed h e =
    drawn_twice placed ∙ ap (map drawn_placement) e ∙ placed_reads ends styles context source labels 0 reads h
