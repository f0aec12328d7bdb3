-- Where lines begin, and how many there are.
use Rattle.std.proofs.Common.{ℕ, zero, suc, ◌+◌, ◌-◌, ◌<◌, ◌≤◌, ◌≡◌, Bool, true, false, cond, List, [], ◌∷◌, length}
use Rattle.std.proofs.Common.{take, drop, min, inl, inr, refl, sym, ap, ◌∙◌, arith}
use Rattle.std.specs.Prelude.{nat_eq, nat_le, slice_index}
use Rattle.std.proofs.lemmas.Bool.{cases_lt, le-leb, lt-leb}
use Rattle.std.proofs.lemmas.Bool.Decides.{nat_tests}
use Rattle.std.proofs.lemmas.List.{take-take, take_all}
use Rattle.miette_lines.specs.rules.Lines.{ends_line, line_of, line_start}
use Rattle.miette_lines.proofs.Places.{line_of-is, line_of_le, line_start-is}
use Rattle.miette_lines.proofs.Scans.{after, ends_before}
use Rattle.miette_fix_rows.specs.rules.Blocks.{bytes_of, line_texts, onto_line}
use Rattle.miette_fix_rows.proofs.Texts.{bytes_of-take, bytes_of_texts, first_some}

-- ---- where lines begin

starts-step : (x : Bool) (b k : ℕ) (ls : List (List ℕ))
    → bytes_of (take (suc k) (cond x ((b ∷ []) ∷ ls) (onto_line b ls))) ≡ suc (bytes_of (take (cond x k (suc k)) ls))
starts-step true b k ls = omega arith
starts-step false b k [] =
    let none : List (List ℕ) = [] in
    let e : take k none ≡ none = take_all k none (omega arith) in omega (arith, ap bytes_of e)
starts-step false b k (l ∷ ls) = omega arith

starts : (k : ℕ) (bs : List ℕ) → after k bs ≡ bytes_of (take k (line_texts bs))
starts zero bs = refl
starts (suc k) [] = refl
starts (suc k) (b ∷ bs) =
    ap suc (starts (cond (ends_line b (slice_index bs 0)) k (suc k)) bs)
    ∙ sym (starts-step (ends_line b (slice_index bs 0)) b k (line_texts bs))

-- a line begins after the bytes of those before it
pub start_is : (bs : List ℕ) (k : ℕ) → line_start bs k ≡ bytes_of (take k (line_texts bs))
start_is bs k = line_start-is bs k ∙ starts k bs

-- ---- how many lines there are

one-step : (x : Bool) (b : ℕ) → length (cond x ((b ∷ []) ∷ []) (onto_line b [])) ≡ 1
one-step true b = refl
one-step false b = refl

many-step : (x : Bool) (b m : ℕ) (ls : List (List ℕ)) → length ls ≡ suc m
    → length (cond x ((b ∷ []) ∷ ls) (onto_line b ls)) ≡ suc (cond x (suc m) m)
many-step true b m ls e = ap suc e
many-step false b m [] e = absurd (omega (arith, e))
many-step false b m (l ∷ ls) e = e

many : (n : ℕ) (bs : List ℕ) → n < length bs → length (line_texts (take (suc n) bs)) ≡ suc (ends_before n bs)
many n [] lt = absurd (omega (arith, lt))
many zero (b ∷ bs) lt = one-step (ends_line b 0) b
many (suc n) (b ∷ []) lt = absurd (omega (arith, lt))
many (suc n) (b ∷ c ∷ bs) lt =
    many-step (ends_line b c) b (ends_before n (c ∷ bs)) (line_texts (take (suc n) (c ∷ bs)))
    (many n (c ∷ bs) (omega (arith, lt)))

front-step : (x : Bool) (m n k : ℕ) → k ≡ m + n → cond x (suc k) k ≡ cond x (suc m) m + n
front-step true m n k e = omega (arith, e)
front-step false m n k e = e

ends_nil : (n : ℕ) → ends_before n [] ≡ 0
ends_nil zero = refl
ends_nil (suc n) = refl

after_front : (o n : ℕ) (bs : List ℕ) → ends_before (o + n) bs ≡ ends_before o bs + ends_before n (drop o bs)
after_front zero n bs = let e : 0 + n ≡ n = omega arith in omega (arith, ap (λ m. ends_before m bs) e)
after_front (suc o) n [] = omega (arith, ends_nil (suc o + n), ends_nil n)
after_front (suc o) n (b ∷ bs) =
    let e : suc o + n ≡ suc (o + n) = omega arith in
    ap (λ m. ends_before m (b ∷ bs)) e
    ∙ front-step (ends_line b (slice_index bs 0)) (ends_before o bs) (ends_before n (drop o bs))
    (ends_before (o + n) bs) (after_front o n bs)

take_no_more : (n : ℕ) (bs : List ℕ) → length (take n bs) ≤ length bs
take_no_more zero bs = omega arith
take_no_more (suc n) [] = omega arith
take_no_more (suc n) (b ∷ bs) = omega (arith, take_no_more n bs)

-- lines from an offset on: those from the one of their first byte up to the one of their last byte
pub lines_over : (bs part : List ℕ) (at size : ℕ) → 0 < size → size ≤ length part
    → part ≡ take (length part) (drop at bs)
    → length (line_texts (take size part)) + line_of bs at ≡ line_of bs (at + size - 1) + 1
lines_over bs part at zero some within e = absurd (omega (arith, some))
lines_over bs part at (suc n) some within e =
    let rest : List ℕ = drop at bs in
    let le : length part ≤ length rest = omega (arith, ap length e, take_no_more (length part) rest) in
    let same : take (suc n) part ≡ take (suc n) rest =
    ap (take (suc n)) e ∙ take-take (suc n) (length part) rest within in
    let own : length (line_texts (take (suc n) rest)) ≡ suc (ends_before n rest) =
    many n rest (omega (arith, le, within)) in
    let last : at + suc n - 1 ≡ at + n = omega arith in
    omega (
      arith,
      ap (λ l. length (line_texts l)) same,
      own,
      after_front at n bs,
      line_of-is bs at,
      line_of-is bs (at + n),
      ap (line_of bs) last,
    )

-- all lines: those from the first one up to the one of the last byte
lines_all : (bs : List ℕ) → 0 < length bs → length (line_texts bs) ≡ line_of bs (length bs - 1) + 1
lines_all [] some = absurd (omega (arith, some))
lines_all (b ∷ bs) some =
    let n : length (b ∷ bs) - 1 ≡ length bs = omega arith in
    let whole : take (suc (length bs)) (b ∷ bs) ≡ b ∷ bs = take_all (suc (length bs)) (b ∷ bs) (omega arith) in
    omega (
      arith,
      ap (λ l. length (line_texts l)) whole,
      many (length bs) (b ∷ bs) (omega arith),
      line_of-is (b ∷ bs) (length bs),
      ap (line_of (b ∷ bs)) n,
    )

-- ---- the last lines

-- where the last `many` lines begin, found from the line of the last byte back
pub last_begin : (bs : List ℕ) (many start : ℕ) → 0 < length bs → 0 < many
    → start ≡ line_start bs (line_of bs (length bs - 1) - (many - 1))
    → start ≡ bytes_of (take (length (line_texts bs) - many) (line_texts bs))
last_begin bs many start some more e =
    let k : line_of bs (length bs - 1) - (many - 1) ≡ length (line_texts bs) - many =
    omega (arith, lines_all bs some, more) in
    e ∙ start_is bs (line_of bs (length bs - 1) - (many - 1)) ∙ ap (λ n. bytes_of (take n (line_texts bs))) k

-- no line is one of the last none, all bytes stand before them
pub none_last : (bs : List ℕ) (many : ℕ) → many ≡ 0
    → length bs ≡ bytes_of (take (length (line_texts bs) - many) (line_texts bs))
none_last bs many e =
    let n : length (line_texts bs) ≤ length (line_texts bs) - many = omega (arith, e) in
    sym (bytes_of_texts bs)
    ∙ ap bytes_of (sym (take_all (length (line_texts bs) - many) (line_texts bs) n))

pub nothing_last : (bs : List ℕ) (many : ℕ) → length bs ≡ 0
    → length bs ≡ bytes_of (take (length (line_texts bs) - many) (line_texts bs))
nothing_last bs many e =
    omega (arith, e, bytes_of-take (length (line_texts bs) - many) (line_texts bs), bytes_of_texts bs)

some_bytes : (bs : List ℕ) (ls : List (List ℕ)) (k : ℕ) → line_texts bs ≡ ls → 0 < k → 0 < length ls
    → 0 < bytes_of (take k ls)
some_bytes bs [] k e more some = absurd (omega (arith, some))
some_bytes bs (l ∷ ls) zero e more some = absurd (omega (arith, more))
some_bytes bs (l ∷ ls) (suc k) e more some = omega (arith, first_some bs l ls e)

-- there are at most `many` lines where nothing stands before the last `many`
pub at_most : (bs : List ℕ) (many before : ℕ)
    → before ≡ bytes_of (take (length (line_texts bs) - many) (line_texts bs))
    → nat_eq before 0 ≡ nat_le (length (line_texts bs)) many
at_most bs many before e =
    let ls : List (List ℕ) = line_texts bs in
    elim (cases_lt many (length ls)) [
      | inl lt ↦ (
          let some : 0 < before = omega (
            arith,
            e,
            some_bytes bs ls (length ls - many) refl (omega (arith, lt)) (omega (arith, lt)),
          ) in
          let a : nat_eq before 0 ≡ false = grind (arith, nat_tests, some) in
          let b : nat_le (length ls) many ≡ false = lt-leb (length ls) many lt in a ∙ sym b)
      | inr le ↦ (
          let none : length ls - many ≡ 0 = omega (arith, le) in
          let zero : before ≡ 0 = e ∙ ap (λ n. bytes_of (take n ls)) none in
          let b : nat_le (length ls) many ≡ true = le-leb (length ls) many le in ap (λ n. nat_eq n 0) zero ∙ sym b)
    ]

-- ---- no more lines than bytes

few_lines : (bs : List ℕ) → length (line_texts bs) ≤ length bs
few_lines [] = omega arith
few_lines (b ∷ bs) =
    omega (
      arith,
      lines_all (b ∷ bs) (omega arith),
      line_of_le (b ∷ bs) (length (b ∷ bs) - 1) (line_of (b ∷ bs) (length (b ∷ bs) - 1)) refl,
    )

-- a bound that is past the largest number of bytes bounds as that number does
pub bounded : (bs : List ℕ) (many most all : ℕ) → length bs ≤ most → many ≡ min all most
    → nat_le (length (line_texts bs)) many ≡ nat_le (length (line_texts bs)) all
bounded bs many most all le e =
    let few : length (line_texts bs) ≤ length bs = few_lines bs in grind (arith, nat_tests, few, le, e)
