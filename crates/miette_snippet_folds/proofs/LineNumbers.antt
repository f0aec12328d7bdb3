-- A read's contents are a part of its source's bytes, so the numbers of the lines of labels are true among the lines of
-- the contents.
use Rattle.std.proofs.Common.{ℕ, zero, suc, ◌+◌, ◌-◌, ◌≤◌, ◌≡◌, min, max, Bool, true, false, cond, ◌&&◌, List, length}
use Rattle.std.proofs.Common.{take, drop, get_or, refl, sym, ap, ap₂, ◌∙◌, inl, inr, subst, arith, All}
use Rattle.std.specs.Prelude.{◌==◌, count_by, slice_index, slice_range}
use Rattle.std.proofs.lemmas.Bool.{and_parts, cases_lt, eqb-true}
use Rattle.miette_lines.specs.rules.Lines.{LF, CR, is_terminated, lines_from, line_of}
use Rattle.miette_lines.proofs.Places.{line_of_mono, line_of_within, line_of_start_before}
use Rattle.miette_lines.proofs.Places.{terminators_in-line_of}
use Rattle.miette_lines.proofs.Parts.{IsWhole, past_whole, line_whole, part_length, part_place}
use Rattle.miette_snippet_folds.proofs.PartCounts.{line_in_part, part_count, rest_line}
use Rattle.miette_protocol.specs.views.Meaning.{Label}
use Rattle.miette_protocol.specs.rules.Reading.{Span, Source, Contents, IsInBounds, span_end, splits_crlf, reading_end}
use Rattle.miette_protocol.specs.rules.Reading.{data_start, data_end}
use Rattle.miette_protocol.specs.rules.Context.{last_line}
use Rattle.miette_protocol.proofs.Wholes.{start_is, end_is, start_before_span, end_after_span, end_within}
use Rattle.miette_labels.specs.declared.reading.ReadLabel.{ReadLabel}
use Rattle.miette_labels.specs.rules.Around.{label_context}
use Rattle.miette_labels.specs.rules.Contexts.{end_of_span, contents, lines_of_contents}
use Rattle.miette_labels.specs.views.ProgramLabels.{label_at}
use Rattle.miette_labels.specs.views.Placing.{end_drawn}
use Rattle.miette_labels.specs.views.Reads.{IsRead, AreContents}
use Rattle.miette_snippet_rules.specs.rules.FoldedLabels.{line_index_of}
use Rattle.miette_snippet_folds.specs.declared.folds.LabelExtent.{LabelExtent as MadeExtent}
use Rattle.miette_snippet_folds.specs.views.ExtentIndex.{IsNumbered, AreNumbered}
use Rattle.miette_snippet_folds.specs.steps.LineNumbers.{IsLineIn}
use Rattle.miette_snippet_folds.specs.views.ReadExtents.{HasLines}

-- ---- where the data of a read begin and end

begins_at : (bytes : List ℕ) (span : Span) (c : ℕ) → line_of bytes span.offset - c
    ≡ line_of bytes (data_start bytes span c)
begins_at bytes span zero = omega arith
begins_at bytes span (suc c) = line_of_start_before bytes span.offset (suc c)
    ∙ sym (ap (line_of bytes) (start_is bytes span (suc c) (omega arith)))

ends : (bytes : List ℕ) (span : Span) (c : ℕ) → IsInBounds bytes span → span.offset ≤ data_end bytes span c
ends bytes span c ok = omega (arith, ok.begins, end_after_span bytes span c)

-- ---- a read parts no CRLF at its end

after_lf : (bytes : List ℕ) (e : ℕ) → splits_crlf bytes e ≡ true → IsWhole bytes (e + 1)
after_lf bytes e t = λ k s.
    let here : k ≡ e = omega (arith, s) in
    let lf : slice_index bytes k ≡ 10 = ap (slice_index bytes) here
    ∙ eqb-true (slice_index bytes e) 10 ((and_parts (slice_index bytes (e - 1) == CR) (slice_index bytes e == LF) t).1)
    in
    ap (λ (b : ℕ). (b == CR) && (slice_index bytes (suc k) == LF)) lf

not_parted : (bytes : List ℕ) (e : ℕ) → splits_crlf bytes e ≡ false → IsWhole bytes e
not_parted bytes e f = λ k s.
    let before : k ≡ e - 1 = omega (arith, s) in
    ap₂ (λ a b. (slice_index bytes a == CR) && (slice_index bytes b == LF)) before s ∙ f

whole_if : (bytes : List ℕ) (e : ℕ) (x : Bool) → (x ≡ true → IsWhole bytes (e + 1)) → (x ≡ false → IsWhole bytes e)
    → IsWhole bytes (cond x (e + 1) e)
whole_if bytes e true f g = f refl
whole_if bytes e false f g = g refl

reading_whole : (bytes : List ℕ) (span : Span) → IsWhole bytes (reading_end bytes span)
reading_whole bytes span =
    whole_if bytes (span_end span) (splits_crlf bytes (span_end span)) (after_lf bytes (span_end span))
    (not_parted bytes (span_end span))

bare_whole : (bytes : List ℕ) (span : Span) → IsWhole bytes (min (length bytes) (reading_end bytes span))
bare_whole bytes span =
    elim (cases_lt (reading_end bytes span) (length bytes)) [
      | inl h ↦
          (let e : reading_end bytes span ≡ min (length bytes) (reading_end bytes span) = omega (arith, h) in
          subst (λ (n : ℕ). IsWhole bytes n) e (reading_whole bytes span))
      | inr h ↦ past_whole bytes (min (length bytes) (reading_end bytes span)) (omega (arith, h))
    ]

ends_whole : (bytes : List ℕ) (span : Span) (c : ℕ) → IsWhole bytes (data_end bytes span c)
ends_whole bytes span zero = bare_whole bytes span
ends_whole bytes span (suc c) =
    subst (λ (n : ℕ). IsWhole bytes n) (sym (end_is bytes span (suc c) (omega arith)))
    (line_whole bytes (last_line bytes span (suc c)))

-- ---- a part of the bytes

-- the contents are a part of the bytes that the span's offset lies in, part no CRLF at their end, and say which lines
-- they have
pub record IsPart (bytes : List ℕ) (span : Span) (held : Contents) : Type 0 where
  pub from : held.span.offset ≤ span.offset
  pub to : span.offset ≤ end_of_span held.span
  pub within : end_of_span held.span ≤ length bytes
  pub whole : IsWhole bytes (end_of_span held.span)
  pub data_are : held.bytes ≡ slice_range bytes held.span.offset (end_of_span held.span)
  pub line : held.line ≡ line_of bytes held.span.offset
  pub count : held.line_count + held.line ≡ line_of bytes (end_of_span held.span)

part_of : (c : ℕ) (source : Source) (span : Span) → IsInBounds source.bytes span
    → IsPart source.bytes span (contents c source span)
part_of c source span ok =
    let bytes : List ℕ = source.bytes in
    let from : ℕ = data_start bytes span c in
    let to : ℕ = data_end bytes span c in
    let low : from ≤ span.offset = start_before_span bytes span c in
    let high : span.offset ≤ to = ends bytes span c ok in
    let sums : to ≡ from + (to - from) = omega (arith, low, high) in
    record {
      from = low;
      to = omega (arith, sums, high);
      within = omega (arith, sums, end_within bytes span c);
      whole = subst (λ (n : ℕ). IsWhole bytes n) sums (ends_whole bytes span c);
      data_are = ap (λ (n : ℕ). slice_range bytes from n) sums;
      line = begins_at bytes span c;
      count = omega (
        arith,
        terminators_in-line_of bytes from to (omega (arith, low, high)),
        begins_at bytes span c,
        ap (line_of bytes) sums,
      );
    }

pub part_contents : (context : ℕ) (source : Source) (span : Span) (held : Contents)
    → AreContents context source span held → IsPart source.bytes span held
part_contents context source span held h = subst (λ (c : Contents). IsPart source.bytes span c) (sym h.is)
    (part_of context source span h.accepted)

-- ---- the line of an offset that a read reaches

-- it stands so far into the read's contents
reached : (bytes : List ℕ) (span : Span) (held : Contents) (offset before : ℕ) → IsPart bytes span held
    → offset ≤ end_of_span held.span → before ≡ min (offset - held.span.offset) (length held.bytes)
    → before ≡ offset - held.span.offset
reached bytes span held offset before p high b =
    omega (arith, b, high, ap length p.data_are, part_length bytes held.span.offset (end_of_span held.span) p.within)

pub front_is : (held : Contents) (offset before lines line : ℕ) → before
    ≡ min (offset - held.span.offset) (length held.bytes) → lines ≡ line_of held.bytes before → line ≡ held.line + lines
    → IsLineIn held offset line
front_is held offset before lines line b l e = λ context source span h low high.
    let bytes : List ℕ = source.bytes in
    let from : ℕ = held.span.offset in
    let to : ℕ = end_of_span held.span in
    let p : IsPart bytes span held = part_contents context source span held h in
    let here : before ≡ offset - from = reached bytes span held offset before p high b in
    let own : lines ≡ line_of (slice_range bytes from to) (offset - from) = l
    ∙ ap₂ (λ xs n. line_of xs n) p.data_are here in
    omega (arith, e, own, p.line, line_in_part bytes from to offset low high p.whole)

pub back_is : (held : Contents) (offset before ended lines line : ℕ) (all rest : List ℕ) → before
    ≡ min (offset - held.span.offset) (length held.bytes) → all ≡ held.bytes →
    rest ≡ take (length all - before) (drop before all) → ended ≡ line_of rest (length rest) → lines ≡ held.line_count
    - ended → line ≡ held.line + lines → IsLineIn held offset line
back_is held offset before ended lines line all rest b d r l m e = λ context source span h low high.
    let bytes : List ℕ = source.bytes in
    let from : ℕ = held.span.offset in
    let to : ℕ = end_of_span held.span in
    let p : IsPart bytes span held = part_contents context source span held h in
    let here : before ≡ offset - from = reached bytes span held offset before p high b in
    let is : rest ≡ take (length (slice_range bytes from to) - before) (drop before (slice_range bytes from to)) =
    r ∙ ap (λ (xs : List ℕ). take (length xs - before) (drop before xs)) (d ∙ p.data_are) in
    let left : line_of rest (length rest) + line_of bytes offset ≡ line_of bytes to =
    rest_line bytes from to offset before rest low high p.within p.whole here is in
    omega (arith, e, m, l, left, p.line, p.count, line_of_mono bytes from offset low)

-- ---- the numbers of a label's lines

-- a label's read
pub read_contents : (context : ℕ) (source : Source) (labels : List Label) (r : ReadLabel)
    → IsRead context source labels r
    → AreContents (label_context context labels (label_at labels r.index)) source r.span r.contents
read_contents context source labels r h = record {
  accepted = h.accepted;
  is = h.contents_are ∙ ap (λ (s : Span). contents (label_context context labels (label_at labels r.index)) source s)
      (sym h.span);
}

last_within : (o e t last : ℕ) → last ≡ max o (max o (min e t) - 1) → o ≤ t → last ≤ t
last_within o e t last l h = omega (arith, l, h)

pub label_lines : (context : ℕ) (source : Source) (labels : List Label) (r : ReadLabel) (label : MadeExtent)
    → IsRead context source labels r →
    label.first ≡ r.span.offset → label.last ≡ max r.span.offset (end_drawn r - 1) → label.from ≡ r.contents.span.offset
    →
    IsLineIn r.contents label.first label.first_line → IsLineIn r.contents label.last label.last_line → label.from_line
    ≡ r.contents.line → HasLines source.bytes label
label_lines context source labels r label h f l b first last from =
    let c : ℕ = label_context context labels (label_at labels r.index) in
    let contents_are : AreContents c source r.span r.contents = read_contents context source labels r h in
    let p : IsPart source.bytes r.span r.contents = part_contents c source r.span r.contents contents_are in
    record {
      first = first c source r.span contents_are (omega (arith, f, p.from)) (omega (arith, f, p.to));
      last = last c source r.span contents_are (omega (arith, l, p.from))
          (last_within r.span.offset (end_of_span r.span) (end_of_span r.contents.span) label.last l p.to);
      from = from ∙ p.line ∙ ap (line_of source.bytes) (sym b);
    }

-- ---- among the lines of a read's contents

contents_place : (bytes : List ℕ) (span : Span) (held : Contents) (o : ℕ) → IsPart bytes span held →
    line_index_of (lines_of_contents held) o + held.line ≡ line_of bytes
    (max held.span.offset (min o (end_of_span held.span)))
contents_place bytes span held o p =
    let from : ℕ = held.span.offset in
    let to : ℕ = end_of_span held.span in
    let a : line_index_of (lines_of_contents held) o ≡ line_index_of (lines_from from (slice_range bytes from to)) o =
    ap (λ (xs : List ℕ). line_index_of (lines_from held.span.offset xs) o) p.data_are in
    omega (arith, a, p.line, part_place bytes from to o (omega (arith, p.from, p.to)) p.whole)

pub contents_placed : (bytes : List ℕ) (span : Span) (held : Contents) (o line : ℕ) → IsPart bytes span held → line
    ≡ line_of bytes o →
    line_index_of (lines_of_contents held) o ≡ min (line - held.line) held.line_count
contents_placed bytes span held o line p e =
    let from : ℕ = held.span.offset in
    let to : ℕ = end_of_span held.span in
    let order : from ≤ to = omega (arith, p.from, p.to) in
    let is : line_index_of (lines_of_contents held) o + held.line ≡ line_of bytes (max from (min o to)) =
    contents_place bytes span held o p in
    omega (
      arith,
      is,
      line_of_within bytes from to o order,
      e,
      p.line,
      p.count,
      line_of_mono bytes from to order,
    )

pub contents_counted : (bytes : List ℕ) (span : Span) (held : Contents) → IsPart bytes span held → held.line_count
    ≡ count_by is_terminated (lines_of_contents held)
contents_counted bytes span held p =
    let from : ℕ = held.span.offset in
    let to : ℕ = end_of_span held.span in
    let a : count_by is_terminated (lines_of_contents held)
    ≡ count_by is_terminated (lines_from from (slice_range bytes from to)) =
    ap (λ (xs : List ℕ). count_by is_terminated (lines_from held.span.offset xs)) p.data_are in
    omega (arith, a, p.line, p.count, part_count bytes from to (omega (arith, p.from, p.to)) p.within p.whole)

label_numbered : (bytes : List ℕ) (span : Span) (held : Contents) (label : MadeExtent) → IsPart bytes span held
    → HasLines bytes label → IsNumbered held label
label_numbered bytes span held label p h = record {
  first = contents_placed bytes span held label.first label.first_line p h.first;
  last = contents_placed bytes span held label.last label.last_line p h.last;
  from = contents_placed bytes span held label.from label.from_line p h.from;
}

-- the labels' numbers are true among the lines of the contents of a group's read
pub are_numbered : (context : ℕ) (source : Source) (span : Span) (held : Contents) (labels : List MadeExtent)
    → AreContents context source span held → All (HasLines source.bytes) labels → AreNumbered held labels
are_numbered context source span held labels h all =
    let p : IsPart source.bytes span held = part_contents context source span held h in
    record {
      counted = contents_counted source.bytes span held p;
      each = λ k d lt. label_numbered source.bytes span held (get_or labels k d) p (all k d lt);
    }
