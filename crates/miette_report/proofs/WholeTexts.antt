-- What a read of a source gives with as many lines as can be asked for.
use Rattle.std.proofs.Common.{◌≡◌, ℕ, suc, ◌+◌, ◌-◌, ◌<◌, ◌≤◌, ◌^◌, List, [], ◌∷◌, length, Bool, true, false, ap, ◌∙◌}
use Rattle.std.proofs.Common.{arith}
use Rattle.std.proofs.lemmas.List.{take_all}
use Rattle.std.specs.Prelude.{slice_index, slice_range, if◌then◌else◌}
use Rattle.miette_protocol.specs.rules.Reading.{Source, reading_end}
use Rattle.miette_lines.specs.rules.Lines.{Line, ends_line, line_end, line_of, lines_from, with_byte}
use Rattle.miette_lines.proofs.Cuts.{few_lines}
use Rattle.miette_lines.proofs.Places.{line_end_past}
use Rattle.miette_report.specs.rules.AppliedFixes.{whole_text}

joined : (b at n : ℕ) (ls : List Line) → length ls ≤ n → length (with_byte b at ls) ≤ suc n
joined b at n [] h = omega arith
joined b at n (l ∷ ls) h = omega (arith, h)

either : (t : Bool) (l : Line) (b at n : ℕ) (ls : List Line) → length ls ≤ n
    → length (if t then (l ∷ ls) else (with_byte b at ls)) ≤ suc n
either true l b at n ls h = omega (arith, h)
either false l b at n ls h = joined b at n ls h

-- there are no more lines than bytes
fewer : (at : ℕ) (bytes : List ℕ) → length (lines_from at bytes) ≤ length bytes
fewer at [] = omega arith
fewer at (b ∷ bs) = either (ends_line b (slice_index bs 0)) _ b at (length bs) (lines_from (at + 1) bs)
    (fewer (at + 1) bs)

pub whole : (source : Source) → length source.bytes < 2 ^ 64 → whole_text source ≡ source.bytes
whole source h =
    let bytes = source.bytes in
    let last = line_of bytes (reading_end bytes (record { offset = 0; len = 0 })) + 18446744073709551615 in
    let end : line_end bytes last ≡ length bytes =
    line_end_past bytes last (omega (arith, few_lines bytes (length bytes), fewer 0 bytes, h)) in
    ap (slice_range bytes 0) end ∙ take_all (length bytes - 0) bytes (omega arith)
