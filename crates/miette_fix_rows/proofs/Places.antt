-- Where blocks begin, and where lines end.
use Rattle.std.proofs.Common.{ℕ, zero, suc, ◌+◌, ◌-◌, ◌≤◌, ◌≡◌, Bool, true, false, cond, List, [], ◌∷◌}
use Rattle.std.proofs.Common.{length, drop, refl, sym, ap, ◌∙◌, arith}
use Rattle.std.specs.Prelude.{slice_index, slice_get}
use Rattle.std.specs.Option.{option_map_or}
use Rattle.miette_lines.specs.rules.Lines.{ends_line, line_of, line_start, line_end}
use Rattle.miette_lines.specs.declared.lines.LineOfText.{LineOfText}
use Rattle.miette_lines.specs.views.Walking.{IsFirst}
use Rattle.miette_lines.proofs.Places.{line_end-is, line_end_past, line_of-is, line_of_all, line_of_mono}
use Rattle.miette_lines.proofs.Places.{line_of_start, line_start_le}
use Rattle.miette_lines.proofs.Cases.{by_cases}
use Rattle.miette_lines.proofs.Scans.{after, end_at-lines_from, ends_before}
use Rattle.miette_fixes.specs.rules.Edits.{Replacement}
use Rattle.miette_fix_rows.specs.rules.Blocks.{block_from, joins_terminator, touched_from}

after-step : (x : Bool) (e o r : ℕ) (bs : List ℕ) → after (suc e) bs ≡ o + r
    → suc (after (cond x (cond x (suc e) e) (suc (cond x (suc e) e))) bs) ≡ suc o + r
after-step true e o r bs h = omega (arith, h)
after-step false e o r bs h = omega (arith, h)

-- the next terminator after an offset is the first of what stands there
after_rest : (o : ℕ) (bs : List ℕ) → o ≤ length bs → after (suc (ends_before o bs)) bs ≡ o + after 1 (drop o bs)
after_rest zero bs h = omega arith
after_rest (suc o) [] h = absurd (omega (arith, h))
after_rest (suc o) (b ∷ bs) h =
    after-step (ends_line b (slice_index bs 0)) (ends_before o bs) o (after 1 (drop o bs)) bs
    (after_rest o bs (omega (arith, h)))

-- the line of an offset ends where the first line does of what stands there
pub rest_line_end : (source rest : List ℕ) (o : ℕ) (line : LineOfText) → o ≤ length source → rest ≡ drop o source
    → IsFirst (record { start = o; bytes = rest }) line → line.end ≡ line_end source (line_of source o)
rest_line_end source rest o line le e h =
    let d : ℕ = o + length rest in
    let first : line.end ≡ o + after 1 rest =
    sym (ap (λ ls. option_map_or (λ l. l.end) (slice_get ls 0) d) h.lines) ∙ end_at-lines_from o rest 0 d refl in
    let there : line_end source (line_of source o) ≡ o + after 1 (drop o source) =
    line_end-is source (line_of source o) ∙ ap (λ k. after (suc k) source) (line_of-is source o)
    ∙ after_rest o source le in
    first ∙ ap (λ xs. o + after 1 xs) e ∙ sym there

-- at the end of the source
pub line_end_last : (source : List ℕ) (o : ℕ) → o ≡ length source → o ≡ line_end source (line_of source o)
line_end_last source o e =
    let past : line_end source (line_of source (length source)) ≡ length source =
    line_end_past source (line_of source (length source)) (omega arith) in
    e ∙ sym (ap (λ n. line_end source (line_of source n)) e ∙ past)

-- a block begins where its touched lines do, or before
pub block_from_le : (source : List ℕ) (edits : List Replacement) → block_from source edits ≤ touched_from source edits
block_from_le source edits =
    let at : ℕ = touched_from source edits in
    by_cases {C = block_from source edits ≤ touched_from source edits} (joins_terminator source edits)
    (λ t. rw t (line_start_le source (line_of source at - 1) at (omega arith)))
    (λ f. rw f (omega arith))

-- an offset between the start of a later one's line and that one is on the same line
pub same_line : (source : List ℕ) (start offset next : ℕ) → start ≡ line_start source (line_of source next)
    → offset ≤ next → start ≤ offset → start ≡ line_start source (line_of source offset)
same_line source start offset next e le h =
    let k : ℕ = line_of source next in
    let whole : k ≤ line_of source (length source) = line_of_all source next in
    let a : k ≡ line_of source (line_start source k) = line_of_start source k whole in
    let b : line_of source start ≤ line_of source offset = line_of_mono source start offset h in
    let c : line_of source offset ≤ k = line_of_mono source offset next le in
    let d : line_of source start ≡ k = ap (line_of source) e ∙ sym a in
    let same : line_of source offset ≡ k = omega (arith, b, c, d) in
    e ∙ sym (ap (line_start source) same)
