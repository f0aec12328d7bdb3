-- How many lines there are: one more than the terminators that end before the last byte.
use Rattle.std.proofs.Common.{ℕ, suc, ◌+◌, ◌-◌, ◌<◌, ◌≤◌, ◌≡◌, Bool, true, false, cond, List, [], ◌∷◌, length, refl, ap}
use Rattle.std.proofs.Common.{◌∙◌, arith}
use Rattle.std.specs.Prelude.{slice_index}
use Rattle.miette_lines.specs.rules.Lines as P
use Rattle.miette_lines.specs.rules.Lines.{Line, ends_line, with_byte, line_of}
use Rattle.miette_lines.proofs.Places.{line_of-is, line_of_le, line_of_zero}
use Rattle.miette_lines.proofs.Scans.{ends_before}

with_byte_length : (b at n : ℕ) (ls : List Line) → length ls ≡ suc n → length (with_byte b at ls) ≡ suc n
with_byte_length b at n [] h = absurd (cc)
with_byte_length b at n (l ∷ ls) h = h

only_length : (x : Bool) (a b : Line) → length (cond x (a ∷ []) (b ∷ [])) ≡ 1
only_length true a b = refl
only_length false a b = refl

more_length : (x : Bool) (a : Line) (b at n : ℕ) (ls : List Line) → length ls ≡ suc n
    → length (cond x (a ∷ ls) (with_byte b at ls)) ≡ suc (cond x (suc n) n)
more_length true a b at n ls h = ap suc h
more_length false a b at n ls h = with_byte_length b at n ls h

lines_length : (at b : ℕ) (bs : List ℕ) → length (P.lines_from at (b ∷ bs)) ≡ suc (ends_before (length bs) (b ∷ bs))
lines_length at b [] = only_length (ends_line b (slice_index [] 0)) (record { start = at; text_end = at; end = at + 1 })
    (record { start = at; text_end = at + 1; end = at + 1 })
lines_length at b (c ∷ cs) =
    more_length (ends_line b (slice_index (c ∷ cs) 0)) (record { start = at; text_end = at; end = at + 1 }) b at
    (ends_before (length cs) (c ∷ cs)) (P.lines_from (at + 1) (c ∷ cs)) (lines_length (at + 1) c cs)

lines_are : (bytes : List ℕ) (last at : ℕ) → length bytes ≡ suc last → line_of bytes last + 1
    ≡ length (P.lines_from at bytes)
lines_are [] last at size = absurd (cc)
lines_are (b ∷ bs) last at size =
    let same : last ≡ length bs = omega (arith, size) in
    let many : line_of (b ∷ bs) last ≡ ends_before (length bs) (b ∷ bs) = line_of-is (b ∷ bs) last
    ∙ ap (λ k. ends_before k (b ∷ bs)) same in
    omega (arith, many, lines_length at b bs)

pub counted_before : (bytes : List ℕ) (at : ℕ) → 0 < length bytes → line_of bytes (length bytes - 1) + 1
    ≡ length (P.lines_from at bytes)
counted_before bytes at some = lines_are bytes (length bytes - 1) at (omega (arith, some))

pub few_before : (bytes : List ℕ) (n : ℕ) → 0 < length bytes → n ≡ line_of bytes (length bytes - 1) → n + 1
    ≤ length bytes
few_before bytes n some is = omega (arith, some, is, line_of_le bytes (length bytes - 1) n is)

pub none_before : (bytes : List ℕ) → 0 ≡ line_of bytes 0
none_before bytes = line_of_zero bytes

pub ruleset counting = (counted_before, few_before, none_before)
