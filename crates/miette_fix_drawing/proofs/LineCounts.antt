-- Lines in front of others.
use Rattle.std.proofs.Common.{ℕ, zero, suc, ◌+◌, ◌-◌, ◌<◌, ◌≤◌, ◌≡◌, List, [], ◌∷◌, length, take, drop, refl, sym, ap}
use Rattle.std.proofs.Common.{◌∙◌, arith}
use Rattle.std.proofs.lemmas.List.{length-drop, take_rest}
use Rattle.miette_lines.specs.declared.lines.LineOfText.{LineOfText}
use Rattle.miette_lines.specs.views.Walking.{IsFirst}
use Rattle.miette_fix_rows.specs.rules.Blocks.{bytes_of, line_texts}
use Rattle.miette_fix_rows.proofs.Texts.{first_text}

-- what is left after the first line
pub rest_of : (rest : List ℕ) (line : LineOfText) → IsFirst (record { start = 0; bytes = rest }) line
    → line_texts rest ≡ take line.end rest ∷ line_texts (take (length rest - line.end) (drop line.end rest))
rest_of rest line h =
    first_text rest line h
    ∙ ap (λ ms. take line.end rest ∷ line_texts ms) (sym (take_rest rest line.end))

pub left_of : (rest : List ℕ) (n : ℕ) → n ≤ length rest → n + length (take (length rest - n) (drop n rest)) ≡ length
    rest
left_of rest n le = omega (arith, ap length (take_rest rest n), length-drop n rest, le)

pub no_bytes : (rest : List ℕ) (k : ℕ) → length rest ≡ 0 → bytes_of (take k (line_texts rest)) ≡ 0
no_bytes [] zero e = refl
no_bytes [] (suc k) e = refl
no_bytes (b ∷ bs) k e = absurd (omega (arith, e))

take_length : (n : ℕ) (bs : List ℕ) → n ≤ length bs → length (take n bs) ≡ n
take_length zero bs le = refl
take_length (suc n) [] le = absurd (omega (arith, le))
take_length (suc n) (b ∷ bs) le = ap suc (take_length n bs (omega (arith, le)))

taken : (k : ℕ) (l : List ℕ) (ls : List (List ℕ)) → 0 < k → bytes_of (take k (l ∷ ls)) ≡ length l + bytes_of
    (take (k - 1) ls)
taken zero l ls lt = absurd (omega (arith, lt))
taken (suc k) l ls lt = let e : suc k - 1 ≡ k = omega arith in ap (λ m. length l + bytes_of (take m ls)) (sym e)

pub sized : (rest : List ℕ) (line : LineOfText) (size left all : ℕ) → IsFirst (record { start = 0; bytes = rest }) line
    → 0 < left → size + bytes_of (take left (line_texts rest)) ≡ all
    → size + line.end + bytes_of (take (left - 1) (line_texts (take (length rest - line.end) (drop line.end rest)))) ≡
    all
sized rest line size left all h lt e =
    let ms : List (List ℕ) = line_texts (take (length rest - line.end) (drop line.end rest)) in
    let own : length (take line.end rest) ≡ line.end = take_length line.end rest (omega (arith, h.to)) in
    let t : bytes_of (take left (line_texts rest)) ≡ length (take line.end rest) + bytes_of (take (left - 1) ms) =
    ap (λ ls. bytes_of (take left ls)) (rest_of rest line h) ∙ taken left (take line.end rest) ms lt in
    omega (arith, e, t, own)

pub whole_more : (rest : List ℕ) (line : LineOfText) (size all : ℕ) → IsFirst (record { start = 0; bytes = rest }) line
    → size + length rest ≡ all → size + line.end + length (take (length rest - line.end) (drop line.end rest)) ≡ all
whole_more rest line size all h e =
    let to : line.end ≤ length rest = omega (arith, h.to) in
    omega (arith, e, left_of rest line.end to)

pub no_lines : (k : ℕ) (ls : List (List ℕ)) → k ≡ 0 → bytes_of (take k ls) ≡ 0
no_lines zero ls e = refl
no_lines (suc k) ls e = absurd (omega (arith, e))
