-- Numerals of numbers of any size: all their characters are digits, and a smaller number has no more of them.
use Rattle.std.proofs.Common.{ℕ, zero, suc, ◌+◌, ◌<◌, ◌≤◌, ◌≡◌, ◌/◌, ◌%◌, ◌==◌, if◌then◌else◌, Bool, true, false, List}
use Rattle.std.proofs.Common.{[], ◌∷◌, length, refl, ap, ◌∙◌, arith}
use Rattle.std.specs.Prelude.{decimal}
use Rattle.std.proofs.lemmas.Bool.{eqb-true, eqb-false, lt-ltb}
use Rattle.std.specs.Fmt.{digit_glyph, digits, digits_onto}
use Rattle.std.specs.List.{AllByRecursion}
use Rattle.miette_lines.proofs.Cases.{by_cases}

-- each character is a digit
abbrev pub AreDigits : List ℕ → Type 0
AreDigits text = AllByRecursion (λ c. (48 ≤ c) × (c < 58)) text

glyph_is : (d : ℕ) → d < 10 → digit_glyph false d ≡ 48 + d
glyph_is d h = ap (λ (b : Bool). if b then 48 + d else 87 + d) (lt-ltb d 10 h)

are_if : (b : Bool) (x y : List ℕ) → AreDigits x → AreDigits y → AreDigits (if b then x else y)
are_if true x y h k = h
are_if false x y h k = k

onto_digits : (k n : ℕ) (text : List ℕ) → AreDigits text → AreDigits (digits_onto k 10 false n text)
onto_digits zero n text h = h
onto_digits (suc k) n text h =
    let glyph = digit_glyph false (n % 10) in
    let first : AreDigits (glyph ∷ text) = (omega (arith, glyph_is (n % 10) (omega arith)), h) in
    are_if (n / 10 == 0) (glyph ∷ text) (digits_onto k 10 false (n / 10) (glyph ∷ text)) first
    (onto_digits k (n / 10) (glyph ∷ text) first)

-- how many digits a number has, at most k
abbrev many : ℕ → ℕ → ℕ
many zero n = 0
many (suc k) n = if n / 10 == 0 then 1 else 1 + many k (n / 10)

many_if : (b : Bool) (x y : List ℕ) (p q : ℕ) → length x ≡ p → length y ≡ q → length (if b then x else y)
    ≡ (if b then p else q)
many_if true x y p q h k = h
many_if false x y p q h k = k

plus_if : (b : Bool) (p q n : ℕ) → (if b then p + n else q + n) ≡ (if b then p else q) + n
plus_if true p q n = refl
plus_if false p q n = refl

length-onto : (k n : ℕ) (text : List ℕ) → length (digits_onto k 10 false n text) ≡ many k n + length text
length-onto zero n text = omega arith
length-onto (suc k) n text =
    let glyph = digit_glyph false (n % 10) in
    many_if (n / 10 == 0) (glyph ∷ text) (digits_onto k 10 false (n / 10) (glyph ∷ text)) (1 + length text)
    (1 + many k (n / 10) + length text) (omega arith)
    (omega (arith, length-onto k (n / 10) (glyph ∷ text))) ∙ plus_if (n / 10 == 0) 1 (1 + many k (n / 10)) (length text)

one-le : (b : Bool) (m : ℕ) → 1 ≤ (if b then 1 else 1 + m)
one-le true m = omega arith
one-le false m = omega arith

many-mono : (k a b : ℕ) → a ≤ b → many k a ≤ many k b
many-mono zero a b le = omega arith
many-mono (suc k) a b le =
    by_cases {C = many (suc k) a ≤ many (suc k) b} (a / 10 == 0)
    (λ t. rw (t) (one-le (b / 10 == 0) (many k (b / 10))))
    (λ f. by_cases {C = many (suc k) a ≤ many (suc k) b} (b / 10 == 0)
    (λ u. absurd (omega (arith, le, eqb-true (b / 10) 0 u, eqb-false (a / 10) 0 f)))
    (λ g. rw (f, g) (omega (arith, many-mono k (a / 10) (b / 10) (omega (arith, le))))))

-- ---- the numeral

pub are_digits : (n : ℕ) → AreDigits (decimal n)
unfolding digits
are_digits n = onto_digits 64 n [] tt

length-decimal : (n : ℕ) → length (decimal n) ≡ many 64 n
unfolding digits
length-decimal n = omega (arith, length-onto 64 n [])

-- a smaller number has no more digits
pub decimal-mono : (a b : ℕ) → a ≤ b → length (decimal a) ≤ length (decimal b)
decimal-mono a b le = omega (arith, length-decimal a, length-decimal b, many-mono 64 a b le)
