-- The lines of a part of some bytes, by their numbers among the lines of all of these.
use Rattle.std.proofs.Common.{ℕ, zero, suc, ◌+◌, ◌-◌, ◌<◌, ◌≤◌, ◌≡◌, min, max, Bool, true, false, cond, not, ◌&&◌, ◌||◌}
use Rattle.std.proofs.Common.{List, [], ◌∷◌, length, take, drop, refl, sym, ap, ap₂, ◌∙◌, inl, inr, subst, arith}
use Rattle.std.specs.Prelude.{◌==◌, nat_le, count_by, slice_index, slice_range}
use Rattle.std.proofs.lemmas.Bool.{and_parts, and_right, cases_lt, eqb-true, false_from_ne_true}
use Rattle.std.proofs.lemmas.List.{get_or-drop, get_or_past, length-drop, length-take-le}
use Rattle.miette_lines.specs.rules.Lines.{LF, CR, ends_line, is_terminated, lines_from, line_of}
use Rattle.miette_lines.specs.rules.Lines.{line_start, line_end}
use Rattle.miette_lines.proofs.Scans.{ends_before, ends_count-lines_from}
use Rattle.miette_lines.proofs.Places.{line_of-is, line_of_no, line_of_end, line_end_past, line_start_next}
use Rattle.miette_lines.proofs.Places.{line_start_le, line_start_after, line_start_first, ends_by-le}

-- ---- terminators of a part

ends_nil : (o : ℕ) → ends_before o [] ≡ 0
ends_nil zero = refl
ends_nil (suc o) = refl

sum_more : (x : Bool) (m n k : ℕ) → m ≡ n + k → cond x (suc m) m ≡ cond x (suc n) n + k
sum_more true m n k e = omega (arith, e)
sum_more false m n k e = e

-- those up to an offset are those before another one, and those from there on
ends_drop : (from j : ℕ) (bs : List ℕ) → ends_before (from + j) bs ≡ ends_before from bs + ends_before j (drop from bs)
ends_drop zero j bs =
    let e : 0 + j ≡ j = omega arith in
    let f : ends_before j bs ≡ 0 + ends_before j bs = omega arith in
    ap (λ (n : ℕ). ends_before n bs) e ∙ f
ends_drop (suc from) j [] =
    let f : 0 ≡ 0 + ends_before j [] = omega (arith, ends_nil j) in
    ends_nil (suc from + j) ∙ f
ends_drop (suc from) j (b ∷ bs) =
    let e : suc from + j ≡ suc (from + j) = omega arith in
    ap (λ (n : ℕ). ends_before n (b ∷ bs)) e
    ∙ sum_more (ends_line b (slice_index bs 0)) (ends_before (from + j) bs) (ends_before from bs)
    (ends_before j (drop from bs)) (ends_drop from j bs)

-- no CRLF is parted at an offset
abbrev pub IsWhole : List ℕ → ℕ → Type 0
IsWhole bytes at = (k : ℕ) → suc k ≡ at → ((slice_index bytes k == CR) && (slice_index bytes (suc k) == LF)) ≡ false

whole_rest : (b m : ℕ) (bs : List ℕ) → IsWhole (b ∷ bs) (suc m) → IsWhole bs m
whole_rest b m bs w = λ k e. w (suc k) (ap suc e)

whole_drop : (from at : ℕ) (bs : List ℕ) → from ≤ at → IsWhole bs at → IsWhole (drop from bs) (at - from)
whole_drop from at bs le w = λ k e.
    let s : from + suc k ≡ suc (from + k) = omega arith in
    let here : slice_index (drop from bs) k ≡ slice_index bs (from + k) = get_or-drop from bs k 0 in
    let next : slice_index (drop from bs) (suc k) ≡ slice_index bs (suc (from + k)) = get_or-drop from bs (suc k) 0
    ∙ ap (λ (n : ℕ). slice_index bs n) s in
    ap₂ (λ a b. (a == CR) && (b == LF)) here next ∙ w (from + k) (omega (arith, e, le))

alone_or : (x y z : Bool) → (y && z) ≡ false → (x || (y && true)) ≡ (x || (y && not z))
alone_or true y z h = refl
alone_or false true true h = absurd (cc)
alone_or false true false h = refl
alone_or false false z h = refl

last_same : (b next : ℕ) → ((b == CR) && (next == LF)) ≡ false → ends_line b 0 ≡ ends_line b next
unfolding ends_line
last_same b next h = alone_or (b == LF) (b == CR) (next == LF) h

-- a byte that ends a line in front of the bytes ends one in front of the first of them
next_same : (b m : ℕ) (bs : List ℕ) → IsWhole (b ∷ bs) (suc m) → ends_line b (slice_index (take m bs) 0)
    ≡ ends_line b (slice_index bs 0)
next_same b zero bs w = last_same b (slice_index bs 0) (w 0 refl)
next_same b (suc m) [] w = refl
next_same b (suc m) (c ∷ cs) w = refl

-- the first bytes, whose last one parts no CRLF, have the terminators up to there
ends_take : (m j : ℕ) (bs : List ℕ) → IsWhole bs m → ends_before j (take m bs) ≡ ends_before (min j m) bs
ends_take zero j bs w =
    let e : 0 ≡ min j 0 = omega arith in
    ends_nil j ∙ ap (λ (n : ℕ). ends_before n bs) e
ends_take (suc m) j [] w = ends_nil j ∙ sym (ends_nil (min j (suc m)))
ends_take (suc m) zero (b ∷ bs) w =
    let e : 0 ≡ min 0 (suc m) = omega arith in
    ap (λ (n : ℕ). ends_before n (b ∷ bs)) e
ends_take (suc m) (suc j) (b ∷ bs) w =
    let e : suc (min j m) ≡ min (suc j) (suc m) = omega arith in
    ap (λ (x : Bool). cond x (suc (ends_before j (take m bs))) (ends_before j (take m bs))) (next_same b m bs w)
    ∙ ap (λ (n : ℕ). cond (ends_line b (slice_index bs 0)) (suc n) n) (ends_take m j bs (whole_rest b m bs w))
    ∙ ap (λ (n : ℕ). ends_before n (b ∷ bs)) e

-- the same of a part
ends_part : (bs : List ℕ) (from to o : ℕ) → from ≤ to → IsWhole bs to →
    ends_before (o - from) (slice_range bs from to) + ends_before from bs ≡ ends_before (max from (min o to)) bs
ends_part bs from to o le w =
    let many : ℕ = min (o - from) (to - from) in
    let a : ends_before (o - from) (slice_range bs from to) ≡ ends_before many (drop from bs) =
    ends_take (to - from) (o - from) (drop from bs) (whole_drop from to bs le w) in
    let b : ends_before (from + many) bs ≡ ends_before from bs + ends_before many (drop from bs) =
    ends_drop from many bs in
    let s : from + many ≡ max from (min o to) = omega (arith, le) in
    let c : ends_before (from + many) bs ≡ ends_before (max from (min o to)) bs = ap (λ (n : ℕ). ends_before n bs) s in
    omega (arith, a, b, c)

-- ---- the line of an offset

-- by the line where the part begins
pub part_line : (bs : List ℕ) (from to o : ℕ) → from ≤ to → IsWhole bs to →
    line_of (slice_range bs from to) (o - from) + line_of bs from ≡ line_of bs (max from (min o to))
part_line bs from to o le w =
    omega (
      arith,
      ends_part bs from to o le w,
      line_of-is (slice_range bs from to) (o - from),
      line_of-is bs from,
      line_of-is bs (max from (min o to)),
    )

pub part_length : (bs : List ℕ) (from to : ℕ) → to ≤ length bs → length (slice_range bs from to) ≡ to - from
part_length bs from to within = length-take-le (to - from) (drop from bs) (omega (arith, within, length-drop from bs))

-- ---- the place of an offset among the lines of a part

-- how many of the lines of bytes that begin further on end at an offset or before
pub place_shifted : (at : ℕ) (bs : List ℕ) (o : ℕ) →
    count_by (λ l. is_terminated l && nat_le l.end o) (lines_from at bs) ≡ line_of bs (o - at)
place_shifted at bs o =
    ends_count-lines_from (λ e. nat_le e o) at bs ∙ ends_by-le o at bs (o - at) refl ∙ sym (line_of-is bs (o - at))

pub part_place : (bs : List ℕ) (from to o : ℕ) → from ≤ to → IsWhole bs to →
    count_by (λ l. is_terminated l && nat_le l.end o) (lines_from from (slice_range bs from to)) + line_of bs from
    ≡ line_of bs (max from (min o to))
part_place bs from to o le w =
    omega (arith, place_shifted from (slice_range bs from to) o, part_line bs from to o le w)

-- ---- where no CRLF is parted

-- at the end of the bytes, or past it
pub past_whole : (bytes : List ℕ) (at : ℕ) → length bytes ≤ at → IsWhole bytes at
past_whole bytes at le = λ k e.
    let none : slice_index bytes (suc k) ≡ 0 = get_or_past bytes (suc k) 0 (omega (arith, e, le)) in
    ap (λ (b : ℕ). (slice_index bytes k == CR) && (b == LF)) none ∙ and_right (slice_index bytes k == CR) false refl

-- the CR of a CRLF ends no line
pair_goes_on : (b next : ℕ) → ((b == CR) && (next == LF)) ≡ true → ends_line b next ≡ false
unfolding ends_line
pair_goes_on b next t =
    let p : ((b == CR) ≡ true) × ((next == LF) ≡ true) = and_parts (b == CR) (next == LF) t in
    ap₂ (λ c n. ends_line c n) (eqb-true b 13 p.0) (eqb-true next 10 p.1)

ended_whole : (bytes : List ℕ) (i k : ℕ) → i < line_of bytes (length bytes) → suc k ≡ line_end bytes i
    → ((slice_index bytes k == CR) && (slice_index bytes (suc k) == LF)) ≡ false
ended_whole bytes i k h e =
    false_from_ne_true ((slice_index bytes k == CR) && (slice_index bytes (suc k) == LF)) (λ t.
    let one : k + 1 ≡ suc k = omega arith in
    let no : ends_line (slice_index bytes k) (slice_index bytes (k + 1)) ≡ false =
    ap (λ (n : ℕ). ends_line (slice_index bytes k) (slice_index bytes n)) one
    ∙ pair_goes_on (slice_index bytes k) (slice_index bytes (suc k)) t in
    let same : line_of bytes (k + 1) ≡ line_of bytes k = line_of_no bytes k no in
    let here : line_end bytes i ≡ k + 1 = omega (arith, e) in
    let next : i + 1 ≡ line_of bytes (k + 1) = line_of_end bytes i h ∙ ap (line_of bytes) here in
    omega (arith, e, line_start_next bytes i, line_start_le bytes (i + 1) k (omega (arith, same, next))))

-- at the end of a line
pub line_whole : (bytes : List ℕ) (i : ℕ) → IsWhole bytes (line_end bytes i)
line_whole bytes i =
    elim (cases_lt i (line_of bytes (length bytes))) [
      | inl h ↦ (λ k e. ended_whole bytes i k h e)
      | inr h ↦ past_whole bytes (line_end bytes i) (omega (arith, line_end_past bytes i h))
    ]

-- where a line begins
pub start_whole : (bytes : List ℕ) (i : ℕ) → IsWhole bytes (line_start bytes i)
start_whole bytes zero = λ k e. absurd (omega (arith, e, line_start_first bytes))
start_whole bytes (suc i) =
    subst (λ (n : ℕ). IsWhole bytes n) (sym (line_start_after bytes (suc i) i (omega arith))) (line_whole bytes i)
