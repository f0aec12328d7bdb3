-- What a read with context shows, in lines of the source.
use Rattle.std.proofs.Common.{◌≡◌, ◌↔◌, ℕ, suc, zero, ◌+◌, ◌-◌, ◌<◌, ◌≤◌, min, max, Bool, true, false, cond, List}
use Rattle.std.proofs.Common.{length, refl, sym}
use Rattle.std.proofs.Common.{ap, ◌∙◌, inl, inr, arith}
use Rattle.std.specs.Prelude.{◌==◌, slice_range}
use Rattle.std.proofs.lemmas.Bool.{cases_lt, ne_eqb}
use Rattle.miette_lines.specs.rules.Lines.{lines_from, lines_of, line_of, line_start, line_end, terminators_in}
use Rattle.miette_protocol.specs.rules.Reading.{Span, Source, IsInBounds, span_end, splits_crlf, reading_end}
use Rattle.miette_protocol.specs.rules.Reading.{data_start, data_end, contents_of}
use Rattle.miette_protocol.specs.rules.Context.{first_line, last_line}
use Rattle.miette_lines.proofs.Places.{line_of_mono, line_of_past, line_of_all, line_of_start_before}
use Rattle.miette_lines.proofs.Places.{line_of_next, line_end_le, line_end_after, line_start_next}
use Rattle.miette_lines.proofs.Places.{line_start_mono, line_start_le, terminators_in-is}
use Rattle.miette_lines.proofs.Cuts.{few_lines, nonempty, some_line}
use Rattle.miette_lines.proofs.Only.{lines_between}

-- where a span's read ends

one_end : (n : ℕ) → cond (n == 0) 1 n ≡ max 1 n
one_end zero = omega arith
one_end (suc n) = rw (ne_eqb (suc n) 0 (λ e. omega (arith, e))) (omega arith)

and_one : (x : Bool) (n : ℕ) → (n ≤ cond x (n + 1) n) × (cond x (n + 1) n ≤ n + 1)
and_one true n = (omega arith, omega arith)
and_one false n = (omega arith, omega arith)

pub end-le-reading : (bytes : List ℕ) (span : Span) → span.offset + span.len ≤ reading_end bytes span
end-le-reading bytes span =
    omega (arith, one_end (span.offset + span.len), (and_one (splits_crlf bytes (span_end span)) (span_end span)).0)

pub offset-le-reading : (bytes : List ℕ) (span : Span) → span.offset ≤ reading_end bytes span
offset-le-reading bytes span = omega (arith, end-le-reading bytes span)

-- of a span that ends later, later
pub reading_mono : (bytes : List ℕ) (a b : Span) → a.offset + a.len ≤ b.offset + b.len → reading_end bytes a
    ≤ reading_end bytes b
reading_mono bytes a b le =
    let whole : ℕ → ℕ = λ n. cond (splits_crlf bytes n) (n + 1) n in
    let ends : span_end a ≤ span_end b = omega (arith, le, one_end (a.offset + a.len), one_end (b.offset + b.len)) in
    elim (cases_lt (span_end a) (span_end b)) [
      | inl h ↦
          omega (
            arith,
            h,
            (and_one (splits_crlf bytes (span_end a)) (span_end a)).1,
            (and_one (splits_crlf bytes (span_end b)) (span_end b)).0,
          )
      | inr h ↦ (let e : span_end a ≡ span_end b = omega (arith, ends, h) in
          let same : whole (span_end a) ≡ whole (span_end b) = ap whole e in omega (arith, same))
    ]

-- the first and the last line of a context

pub first-le-last : (bytes : List ℕ) (span : Span) (before after : ℕ) → first_line bytes span before
    ≤ last_line bytes span after
first-le-last bytes span before after =
    omega (arith, line_of_mono bytes span.offset (reading_end bytes span) (offset-le-reading bytes span))

pub first_mono : (bytes : List ℕ) (a b : Span) (before : ℕ) → a.offset ≤ b.offset → first_line bytes a before
    ≤ first_line bytes b before
first_mono bytes a b before le = omega (arith, line_of_mono bytes a.offset b.offset le)

pub last_mono : (bytes : List ℕ) (a b : Span) (after : ℕ) → a.offset + a.len ≤ b.offset + b.len
    → last_line bytes a after ≤ last_line bytes b after
last_mono bytes a b after le =
    omega (arith, line_of_mono bytes (reading_end bytes a) (reading_end bytes b) (reading_mono bytes a b le))

-- with a line of context or more the first one is there
pub first-lt : (c : ℕ) (bytes : List ℕ) (span : Span) → 1 ≤ c → 0 < length bytes → first_line bytes span c
    < length (lines_of bytes)
first-lt c bytes span one some = omega (arith, few_lines bytes span.offset, some_line bytes some, one)

-- with lines of context the data are whole lines

pub start_is : (bytes : List ℕ) (span : Span) (before : ℕ) → 1 ≤ before → data_start bytes span before
    ≡ line_start bytes (first_line bytes span before)
start_is bytes span before h = rw (ne_eqb before 0 (λ e. omega (arith, h, e))) refl

pub end_is : (bytes : List ℕ) (span : Span) (after : ℕ) → 1 ≤ after → data_end bytes span after
    ≡ line_end bytes (last_line bytes span after)
end_is bytes span after h = rw (ne_eqb after 0 (λ e. omega (arith, h, e))) refl

ends_before_next : (bytes : List ℕ) (span : Span) (after : ℕ) → 1 ≤ after → data_end bytes span after
    ≡ line_start bytes (last_line bytes span after + 1)
ends_before_next bytes span after h =
    end_is bytes span after h ∙ sym (line_start_next bytes (last_line bytes span after))

-- the place of the data
pub data_are : (bytes : List ℕ) (span : Span) (before after : ℕ) → 1 ≤ before → 1 ≤ after →
    data_start bytes span before + (data_end bytes span after - data_start bytes span before)
    ≡ line_start bytes (last_line bytes span after + 1)
data_are bytes span before after h g =
    omega (
      arith,
      start_is bytes span before h,
      ends_before_next bytes span after g,
      line_start_mono bytes (first_line bytes span before) (last_line bytes span after + 1)
          (omega (arith, first-le-last bytes span before after)),
    )

pub lines : (source : Source) (span : Span) (before after : ℕ) → 1 ≤ before → 1 ≤ after →
    lines_from (contents_of source span before after).span.offset (contents_of source span before after).bytes
    ≡ slice_range (lines_of source.bytes) (first_line source.bytes span before) (last_line source.bytes span after + 1)
lines source span before after h g =
    let bytes : List ℕ = source.bytes in
    ap (λ from. lines_from from (slice_range bytes from (data_end bytes span after))) (start_is bytes span before h)
    ∙ ap (λ to. lines_from (line_start bytes (first_line bytes span before))
    (slice_range bytes (line_start bytes (first_line bytes span before)) to)) (ends_before_next bytes span after g)
    ∙ lines_between bytes (first_line bytes span before) (last_line bytes span after + 1)
    (omega (arith, first-le-last bytes span before after))

pub count : (source : Source) (span : Span) (before after : ℕ) → 1 ≤ before → 1 ≤ after →
    (contents_of source span before after).line + (contents_of source span before after).line_count
    ≡ min (last_line source.bytes span after + 1) (line_of source.bytes (length source.bytes))
count source span before after h g =
    let bytes : List ℕ = source.bytes in
    let first : ℕ = first_line bytes span before in
    let last : ℕ = last_line bytes span after in
    let from : ℕ = data_start bytes span before in
    let to : ℕ = data_end bytes span after in
    let order : first ≤ last = first-le-last bytes span before after in
    let a : from ≡ line_start bytes first = start_is bytes span before h in
    let b : to ≡ line_start bytes (last + 1) = ends_before_next bytes span after g in
    let c : line_start bytes first ≤ line_start bytes (last + 1) =
    line_start_mono bytes first (last + 1) (omega (arith, order)) in
    let d : terminators_in bytes from to ≡ line_of bytes to - line_of bytes from =
    terminators_in-is bytes from to (omega (arith, a, b, c)) in
    let e : line_of bytes from ≡ first = ap (line_of bytes) a ∙ sym (line_of_start_before bytes span.offset before) in
    let f : line_of bytes to ≡ min (last + 1) (line_of bytes (length bytes)) = ap (line_of bytes) b
    ∙ line_of_next bytes last in
    omega (arith, order, d, e, f, line_of_all bytes span.offset)

-- which lines lie between the start of one and the end of another
pub between : (bytes : List ℕ) (low high k from to : ℕ) → k < length (lines_of bytes) → from ≡ line_start bytes low → to
    ≡ line_start bytes (high + 1) →
    ((from ≤ line_start bytes k) × (line_end bytes k ≤ to)) ↔ ((low ≤ k) × (k ≤ high))
between bytes low high k from to lt e f = (
  λ h. (
    elim (cases_lt k low) [
      | inl g ↦ absurd (omega (
        arith,
        e,
        h.0,
        nonempty bytes k lt,
        line_start_next bytes k,
        line_start_mono bytes (k + 1) low (omega (arith, g)),
      ))
      | inr g ↦ omega (arith, g)
    ],
    elim (cases_lt high k) [
      | inl g ↦ absurd (omega (
        arith,
        f,
        h.1,
        nonempty bytes k lt,
        line_start_mono bytes (high + 1) k (omega (arith, g)),
      ))
      | inr g ↦ omega (arith, g)
    ],
  ),
  λ h. (
    omega (arith, e, line_start_mono bytes low k h.0),
    omega (arith, f, line_start_next bytes k, line_start_mono bytes (k + 1) (high + 1) (omega (arith, h.1))),
  ),
)

pub numbers : (source : Source) (span : Span) (before after k : ℕ) → 1 ≤ before → 1 ≤ after → k
    < length (lines_of source.bytes) →
    (((contents_of source span before after).span.offset ≤ line_start source.bytes k)
    × (line_end source.bytes k ≤ (contents_of source span before after).span.offset
    + (contents_of source span before after).span.len))
    ↔ ((first_line source.bytes span before ≤ k) × (k ≤ last_line source.bytes span after))
numbers source span before after k h g lt =
    let bytes : List ℕ = source.bytes in
    between bytes (first_line bytes span before) (last_line bytes span after) k (data_start bytes span before)
    (data_start bytes span before + (data_end bytes span after - data_start bytes span before)) lt
    (start_is bytes span before h) (data_are bytes span before after h g)

-- the data reach the end of the span, as far as there are bytes

pub before_le : (x : Bool) (a b m : ℕ) → a ≤ m → b ≤ m → cond x a b ≤ m
before_le true a b m h g = h
before_le false a b m h g = g

pub after_ge : (x : Bool) (a b m : ℕ) → m ≤ a → m ≤ b → m ≤ cond x a b
after_ge true a b m h g = h
after_ge false a b m h g = g

pub start_before_span : (bytes : List ℕ) (span : Span) (before : ℕ) → data_start bytes span before ≤ span.offset
start_before_span bytes span before =
    before_le (before == 0) span.offset (line_start bytes (line_of bytes span.offset - before)) span.offset
    (omega arith)
    (line_start_le bytes (line_of bytes span.offset - before) span.offset (omega arith))

line_reaches : (bytes : List ℕ) (o k : ℕ) → line_of bytes o ≤ k → min (length bytes) o ≤ line_end bytes k
line_reaches bytes o k h =
    elim (cases_lt (length bytes) o) [
      | inl g ↦
          omega (
            arith,
            line_end_after bytes (length bytes) k (omega arith)
                (omega (arith, h, line_of_past bytes o (omega (arith, g)))),
          )
      | inr g ↦ omega (arith, line_end_after bytes o k (omega (arith, g)) h)
    ]

pub end_after_span : (bytes : List ℕ) (span : Span) (after : ℕ) → min (length bytes) (span.offset + span.len)
    ≤ data_end bytes span after
end_after_span bytes span after =
    let r : ℕ = reading_end bytes span in
    let e : span.offset + span.len ≤ r = end-le-reading bytes span in
    after_ge (after == 0) (min (length bytes) r) (line_end bytes (line_of bytes r + after))
    (min (length bytes) (span.offset + span.len)) (omega (arith, e))
    (omega (arith, e, line_reaches bytes r (line_of bytes r + after) (omega arith)))

pub end_within : (bytes : List ℕ) (span : Span) (after : ℕ) → data_end bytes span after ≤ length bytes
end_within bytes span after =
    before_le (after == 0) (min (length bytes) (reading_end bytes span))
    (line_end bytes (line_of bytes (reading_end bytes span) + after)) (length bytes)
    (omega arith) (line_end_le bytes (line_of bytes (reading_end bytes span) + after))

pub shown_end : (source : Source) (span : Span) (before after : ℕ) → IsInBounds source.bytes span →
    min (span.offset + span.len) (length source.bytes)
    ≡ min (span.offset + span.len) ((contents_of source span before after).span.offset
    + (contents_of source span before after).span.len)
shown_end source span before after ok =
    let bytes : List ℕ = source.bytes in
    omega (
      arith,
      ok.begins,
      start_before_span bytes span before,
      end_after_span bytes span after,
      end_within bytes span after,
    )
