-- How many lines with a terminator a part of some bytes has, and how many from an offset in it on.
use Rattle.std.proofs.Common.{ℕ, suc, ◌+◌, ◌-◌, ◌≤◌, ◌≡◌, min, max, Bool, true, false, cond, ◌&&◌, List, [], ◌∷◌}
use Rattle.std.proofs.Common.{length}
use Rattle.std.proofs.Common.{take, drop, refl, sym, ap, ap₂, ◌∙◌, arith}
use Rattle.std.specs.Prelude.{count_by, slice_index, slice_range}
use Rattle.std.proofs.lemmas.List.{drop-drop, drop-take, take_rest}
use Rattle.std.proofs.lemmas.List.Sums.{sum_by-cons}
use Rattle.miette_lines.specs.rules.Lines.{Line, ends_line, is_terminated, lines_from, line_of}
use Rattle.miette_lines.proofs.Scans.{ends_before, ends_by, ends_count, ends_count-lines_from}
use Rattle.miette_lines.proofs.Places.{line_of-is}
use Rattle.miette_lines.proofs.Parts.{IsWhole, part_length, part_line}

-- the line of an offset in a part
pub line_in_part : (bs : List ℕ) (from to o : ℕ) → from ≤ o → o ≤ to → IsWhole bs to →
    line_of (slice_range bs from to) (o - from) + line_of bs from ≡ line_of bs o
line_in_part bs from to o low high w =
    let same : max from (min o to) ≡ o = omega (arith, low, high) in
    part_line bs from to o (omega (arith, low, high)) w ∙ ap (line_of bs) same

-- what is left of a part from an offset on is a part
part_rest : (bs : List ℕ) (from to o : ℕ) → from ≤ o → o ≤ to → drop (o - from) (slice_range bs from to)
    ≡ slice_range bs o to
part_rest bs from to o low high =
    let s : to - from ≡ o - from + (to - o) = omega (arith, low, high) in
    let t : from + (o - from) ≡ o = omega (arith, low) in
    ap (λ (n : ℕ). drop (o - from) (take n (drop from bs))) s
    ∙ drop-take (o - from) (to - o) (drop from bs)
    ∙ ap (take (to - o)) (drop-drop (o - from) from bs)
    ∙ ap (λ (n : ℕ). take (to - o) (drop n bs)) t

-- by the line where the part ends, and the lines from the offset on
pub rest_line : (bs : List ℕ) (from to o at : ℕ) (rest : List ℕ) → from ≤ o → o ≤ to → to ≤ length bs → IsWhole bs to
    → at ≡ o - from →
    rest ≡ take (length (slice_range bs from to) - at) (drop at (slice_range bs from to)) → line_of rest (length rest)
    + line_of bs o ≡ line_of bs to
rest_line bs from to o at rest low high within w here is =
    let e : rest ≡ slice_range bs o to =
    is ∙ take_rest (slice_range bs from to) at ∙ ap (λ (n : ℕ). drop n (slice_range bs from to)) here
    ∙ part_rest bs from to o low high in
    let size : length rest ≡ to - o = ap length e ∙ part_length bs o to within in
    let a : line_of rest (length rest) ≡ line_of (slice_range bs o to) (to - o) = ap₂ (λ xs n. line_of xs n) e size in
    omega (arith, a, line_in_part bs o to to high (omega arith) w)

-- how many lines of a part have a terminator

and_true : (b : Bool) → b ≡ (b && true)
and_true true = refl
and_true false = refl

all_counted : (ls : List Line) → count_by is_terminated ls ≡ ends_count (λ e. true) ls
all_counted [] = refl
all_counted (l ∷ ls) =
    sum_by-cons (λ m. cond (is_terminated m) 1 0) l ls
    ∙ ap₂ (λ b n. cond b 1 0 + n) (and_true (is_terminated l)) (all_counted ls)
    ∙ sym (sum_by-cons (λ m. cond (is_terminated m && true) 1 0) l ls)

one_more : (x : Bool) (m n : ℕ) → m ≡ n → cond x (1 + m) m ≡ cond x (suc n) n
one_more true m n e = omega (arith, e)
one_more false m n e = e

ends_by_all : (at : ℕ) (bs : List ℕ) → ends_by (λ e. true) at bs ≡ ends_before (length bs) bs
ends_by_all at [] = refl
ends_by_all at (b ∷ bs) =
    one_more (ends_line b (slice_index bs 0)) (ends_by (λ e. true) (at + 1) bs) (ends_before (length bs) bs)
    (ends_by_all (at + 1) bs)

pub part_count : (bs : List ℕ) (from to : ℕ) → from ≤ to → to ≤ length bs → IsWhole bs to →
    count_by is_terminated (lines_from from (slice_range bs from to)) + line_of bs from ≡ line_of bs to
part_count bs from to le within w =
    let part : List ℕ = slice_range bs from to in
    let a : count_by is_terminated (lines_from from part) ≡ ends_before (length part) part =
    all_counted (lines_from from part) ∙ ends_count-lines_from (λ e. true) from part ∙ ends_by_all from part in
    let b : line_of part (length part) ≡ line_of part (to - from) = ap (line_of part) (part_length bs from to within) in
    omega (arith, a, b, line_of-is part (length part), line_in_part bs from to to le (omega arith) w)
