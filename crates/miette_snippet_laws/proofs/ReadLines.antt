-- Which lines of a source the read of a span shows, by their numbers.
use Rattle.std.proofs.Common.{ℕ, zero, suc, ◌+◌, ◌-◌, ◌<◌, ◌≤◌, ◌≡◌, min, Bool, false, leb, List, [], ◌∷◌, length, map}
use Rattle.std.proofs.Common.{take, drop, refl, sym, ap, ◌∙◌, ◌&&◌, arith}
use Rattle.std.specs.Prelude.{slice_get, slice_range}
use Rattle.std.specs.Option.{option_map_or}
use Rattle.std.specs.List.{range_with_len, filter}
use Rattle.std.proofs.lemmas.Bool.{le-leb, leb-true, and_from, and_parts, false_from_ne_true}
use Rattle.std.proofs.lemmas.List.{length-drop}
use Rattle.std.proofs.Math.Seq.{take-nil}
use Rattle.miette_lines.specs.rules.Lines.{Line, lines_of, lines_from, line_start, line_end}
use Rattle.miette_protocol.specs.rules.Reading.{Span, Source, Contents, data_start}
use Rattle.miette_protocol.specs.rules.Context.{first_line, last_line}
use Rattle.miette_labels.specs.rules.Contexts.{contents, end_of_span, lines_in, lines_of_contents}
use Rattle.miette_snippet_rules.specs.rules.ShownLines.{line_at}
use Rattle.miette_lines.proofs.Cuts.{few_lines}
use Rattle.miette_protocol.proofs.Wholes.{between, data_are, lines, start_is}
use Rattle.miette_lines.proofs.Ranges.{filter-range}

-- ---- lines by their numbers

part_at : (n : ℕ) (part : Line → ℕ) (ls : List Line) (k : ℕ) → k < length ls → part (line_at ls k)
    ≡ option_map_or part (slice_get ls k) n
part_at n part [] k lt = absurd (omega (arith, lt))
part_at n part (l ∷ ls) zero lt = refl
part_at n part (l ∷ ls) (suc k) lt = part_at n part ls k (omega (arith, lt))

pub start_at : (bytes : List ℕ) (k : ℕ) → k < length (lines_of bytes) → (line_at (lines_of bytes) k).start
    ≡ line_start bytes k
unfolding line_start
start_at bytes k lt = part_at (length bytes) (λ l. l.start) (lines_of bytes) k lt

pub end_at : (bytes : List ℕ) (k : ℕ) → k < length (lines_of bytes) → (line_at (lines_of bytes) k).end
    ≡ line_end bytes k
unfolding line_end
end_at bytes k lt = part_at (length bytes) (λ l. l.end) (lines_of bytes) k lt

drop-line : (low : ℕ) (ls : List Line) → low < length ls → drop low ls ≡ line_at ls low ∷ drop (low + 1) ls
drop-line low [] lt = absurd (omega (arith, lt))
drop-line zero (l ∷ ls) lt = refl
drop-line (suc low) (l ∷ ls) lt = let e : suc low + 1 ≡ suc (low + 1) = omega arith in
    rw e (drop-line low ls (omega (arith, lt)))

take-lines-at : (many low : ℕ) (ls : List Line) → low + many ≤ length ls → take many (drop low ls)
    ≡ map (line_at ls) (range_with_len low many)
take-lines-at zero low ls le = refl
take-lines-at (suc many) low ls le =
    ap (take (suc many)) (drop-line low ls (omega (arith, le)))
    ∙ ap (λ r. line_at ls low ∷ r) (take-lines-at many (low + 1) ls (omega (arith, le)))

take-min : (m : ℕ) (ls : List Line) → take m ls ≡ take (min m (length ls)) ls
take-min m [] = take-nil m ∙ sym (take-nil (min m 0))
take-min zero (l ∷ ls) = let e : min zero (length (l ∷ ls)) ≡ 0 = omega arith in rw e refl
take-min (suc m) (l ∷ ls) = let e : min (suc m) (length (l ∷ ls)) ≡ suc (min m (length ls)) = omega arith in
    rw e (ap (λ r. l ∷ r) (take-min m ls))

-- some lines in the middle
pub middle_lines : (ls : List Line) (low high : ℕ) → low ≤ length ls → slice_range ls low high
    ≡ map (line_at ls) (range_with_len low (min high (length ls) - low))
middle_lines ls low high le =
    let same : min (high - low) (length (drop low ls)) ≡ min high (length ls) - low =
    omega (arith, length-drop low ls, le) in
    take-min (high - low) (drop low ls) ∙ ap (λ m. take m (drop low ls)) same
    ∙ take-lines-at (min high (length ls) - low) low ls (omega (arith, le))

-- bytes that are none have no lines
pub no_lines : (at : ℕ) (bytes : List ℕ) → length bytes ≡ 0 → lines_from at bytes ≡ []
no_lines at [] h = refl
no_lines at (b ∷ bs) h = absurd (omega (arith, h))

-- ---- the lines between two offsets

-- Between the beginning of line low and that of the line after line high lie these lines, as far as they are there.
pub numbers_within : (bytes : List ℕ) (low high from to : ℕ) → low ≤ length (lines_of bytes) → from
    ≡ line_start bytes low → to ≡ line_start bytes (high + 1) →
    filter (λ k. leb from (line_start bytes k) && leb (line_end bytes k) to)
    (range_with_len 0 (length (lines_of bytes)))
    ≡ range_with_len low (min (high + 1) (length (lines_of bytes)) - low)
numbers_within bytes low high from to there e f =
    let all : ℕ = length (lines_of bytes) in
    let many : ℕ = min (high + 1) all - low in
    let whole : all ≡ low + many + (all - (low + many)) = omega (arith, there) in
    let is_in : ℕ → Bool = λ k. leb from (line_start bytes k) && leb (line_end bytes k) to in
    let out : (k : ℕ) → k < all → ((low ≤ k) × (k ≤ high) → ⊥) → is_in k ≡ false =
    λ k lt not_in. false_from_ne_true (is_in k) (λ t.
    let both = and_parts (leb from (line_start bytes k)) (leb (line_end bytes k) to) t in
    not_in ((between bytes low high k from to lt e f).0 (leb-true _ _ both.0, leb-true _ _ both.1))) in
    ap (λ m. filter is_in (range_with_len 0 m)) whole
    ∙ filter-range is_in low many (all - (low + many))
    (λ k b. out k (omega (arith, there, b)) (λ h. omega (arith, b, h.0)))
    (λ k b d. let both = (between bytes low high k from to (omega (arith, there, d)) e f).1
    (b, omega (arith, b, d)) in and_from _ _ (le-leb _ _ both.0) (le-leb _ _ both.1))
    (λ k b d. out k (omega (arith, whole, d)) (λ h. omega (arith, b, d, whole, h.0, h.1)))

-- ---- the lines of a read with context

pub first_there : (c : ℕ) (bytes : List ℕ) (span : Span) → first_line bytes span c ≤ length (lines_of bytes)
first_there c bytes span = omega (arith, few_lines bytes span.offset)

-- how many there are
abbrev pub many_of : ℕ → List ℕ → Span → ℕ
many_of c bytes span = min (last_line bytes span c + 1) (length (lines_of bytes)) - first_line bytes span c

pub read_numbers : (c : ℕ) (source : Source) (span : Span) → 1 ≤ c → lines_in source.bytes (contents c source span)
    ≡ range_with_len (first_line source.bytes span c) (many_of c source.bytes span)
read_numbers c source span one =
    numbers_within source.bytes (first_line source.bytes span c) (last_line source.bytes span c)
    (data_start source.bytes span c) (end_of_span (contents c source span).span) (first_there c source.bytes span)
    (start_is source.bytes span c one) (data_are source.bytes span c c one one)

pub read_lines : (c : ℕ) (source : Source) (span : Span) → 1 ≤ c → lines_of_contents (contents c source span)
    ≡ map (line_at (lines_of source.bytes)) (range_with_len (first_line source.bytes span c)
    (many_of c source.bytes span))
read_lines c source span one =
    lines source span c c one one
    ∙ middle_lines (lines_of source.bytes) (first_line source.bytes span c) (last_line source.bytes span c + 1)
    (first_there c source.bytes span)

-- a read of a source without lines shows none
pub none_in : (bytes : List ℕ) (read : Contents) → length (lines_of bytes) ≡ 0 → lines_in bytes read ≡ []
none_in bytes read none = ap (λ n. filter (λ k. leb read.span.offset (line_start bytes k)
    && leb (line_end bytes k) (end_of_span read.span)) (range_with_len 0 n)) none
