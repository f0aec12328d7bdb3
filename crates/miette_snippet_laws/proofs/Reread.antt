-- Whole lines that are read as one span without context: the data are these lines.
use Rattle.std.proofs.Common.{ℕ, suc, ◌+◌, ◌-◌, ◌<◌, ◌≡◌, min, false, cond, List, length, map, refl, sym, ap, ◌∙◌}
use Rattle.std.proofs.Common.{◌&&◌, arith}
use Rattle.std.specs.Prelude.{◌==◌, slice_index, slice_range}
use Rattle.std.proofs.lemmas.Bool.{ne_eqb}
use Rattle.miette_lines.specs.rules.Lines.{LF, CR, lines_from, lines_of, line_start, line_end}
use Rattle.miette_protocol.specs.rules.Reading.{Span, Source, data_end, reading_end, span_end, splits_crlf}
use Rattle.miette_labels.specs.rules.Contexts.{contents, end_of_span, lines_in, lines_of_contents}
use Rattle.miette_snippet_rules.specs.rules.ShownLines.{line_at}
use Rattle.miette_lines.proofs.Places.{line_end_beyond, line_end_le, line_of_zero, line_start_mono}
use Rattle.miette_lines.proofs.Places.{line_start_next}
use Rattle.miette_lines.proofs.Cuts.{line_of_there}
use Rattle.miette_lines.proofs.Only.{lines_between}
use Rattle.miette_lines.proofs.Parts.{line_whole}
use Rattle.miette_snippet_laws.proofs.ReadLines.{middle_lines, numbers_within}
use Rattle.miette_snippet_laws.proofs.Blocks.{Block, IsBlock, span_of, block_end, numbers_of}

-- the reading of a span that ends where a line does ends there
ends_there : (bytes : List ℕ) (span : Span) (k : ℕ) → 0 < length bytes → span.offset + span.len ≡ line_end bytes k
    → reading_end bytes span ≡ line_end bytes k
ends_there bytes span k some e =
    let at : ℕ = line_end bytes k in
    let more : 0 < at = line_end_beyond bytes 0 k some (omega (arith, line_of_zero bytes)) in
    let one : span_end span ≡ at = rw (ne_eqb (span.offset + span.len) 0 (λ z. omega (arith, z, e, more))) e in
    let before : suc (at - 1) ≡ at = omega (arith, more) in
    let apart : splits_crlf bytes at ≡ false =
    ap (λ n. (slice_index bytes (at - 1) == CR) && (slice_index bytes n == LF)) (sym before)
    ∙ line_whole bytes k (at - 1) before in
    ap (λ n. cond (splits_crlf bytes n) (n + 1) n) one ∙ ap (λ b. cond b (at + 1) at) apart

block_ends : (source : Source) (b : Block) → 0 < length source.bytes → IsBlock (length (lines_of source.bytes)) b →
    data_end source.bytes (span_of source.bytes b) 0 ≡ line_start source.bytes (b.high + 1)
block_ends source b some h =
    let bytes : List ℕ = source.bytes in
    ap (min (length bytes)) (ends_there bytes (span_of bytes b) b.high some (block_end bytes b h))
    ∙ omega (arith, line_end_le bytes b.high, line_start_next bytes b.high)

pub block_line : (source : Source) (b : Block) → IsBlock (length (lines_of source.bytes)) b
    → (contents 0 source (span_of source.bytes b)).line ≡ b.low
block_line source b h = omega (arith, line_of_there source.bytes b.low h.there)

-- its lines
pub block_lines : (source : Source) (b : Block) → 0 < length source.bytes → IsBlock (length (lines_of source.bytes)) b →
    lines_of_contents (contents 0 source (span_of source.bytes b))
    ≡ map (line_at (lines_of source.bytes)) (numbers_of (length (lines_of source.bytes)) b)
block_lines source b some h =
    let bytes : List ℕ = source.bytes in
    let from : ℕ = line_start bytes b.low in
    ap (λ e. lines_from from (slice_range bytes from e)) (block_ends source b some h)
    ∙ lines_between bytes b.low (b.high + 1) (omega (arith, h.order))
    ∙ middle_lines (lines_of bytes) b.low (b.high + 1) (omega (arith, h.there))

-- and their numbers
pub block_numbers : (source : Source) (b : Block) → 0 < length source.bytes → IsBlock (length (lines_of source.bytes)) b
    → lines_in source.bytes (contents 0 source (span_of source.bytes b)) ≡ numbers_of (length (lines_of source.bytes)) b
block_numbers source b some h =
    let bytes : List ℕ = source.bytes in
    numbers_within bytes b.low b.high (line_start bytes b.low)
    (end_of_span (contents 0 source (span_of bytes b)).span) (omega (arith, h.there)) refl
    (omega (arith, block_ends source b some h, line_start_mono bytes b.low (b.high + 1) (omega (arith, h.order))))
