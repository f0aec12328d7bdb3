-- The codes of a style are digits and `;`, so what begins or ends a style is ASCII: its codes are its bytes.
use Rattle.std.proofs.Common.{◌≡◌, ℕ, zero, suc, ◌/◌, ◌%◌, ◌<◌, Bool, true, false, ◌&&◌, ◌||◌, ◌==◌, nat_le, List, []}
use Rattle.std.proofs.Common.{◌∷◌, ◌++◌, refl, ap, ap₂, ◌∙◌, arith, if◌then◌else◌, decimal, codes, Option, Some, None}
use Rattle.std.proofs.Common.{encode_utf8_all}
use Rattle.std.proofs.lemmas.Bool.{and_parts}
use Rattle.std.proofs.lemmas.Bool.Decides.{nat_tests}
use Rattle.std.proofs.lemmas.Str.{encode_ascii, encodes-append}
use Rattle.std.specs.Fmt.{digit_glyph, digits, digits_onto}
use Rattle.miette_style.specs.declared.style.Color.{Color}
use Rattle.miette_style.specs.declared.style.Color.TheVariants.{Red, Green, Yellow, Blue, Magenta, Cyan, Rgb}
use Rattle.miette_style.specs.declared.style.Style.{Style}
use Rattle.miette_style.specs.rules.Codes.{foreground, foreground_codes, flag, style_codes, separated_codes}
use Rattle.miette_style.specs.rules.Codes.{colour_start, colour_stop, after_separators}

-- digits and `;` alone
abbrev pub parameters : List ℕ → Bool
parameters [] = true
parameters (c ∷ cs) = ((nat_le 48 c && nat_le c 57) || (c == 59)) && parameters cs

parameters-append : (x y : List ℕ) → parameters x ≡ true → parameters y ≡ true → parameters (x ++ y) ≡ true
parameters-append [] y h k = k
parameters-append (c ∷ x) y h k = grind (arith, nat_tests, parameters-append x y)

-- a digit
digit_parameter : (d : ℕ) → d < 10 → ((nat_le 48 (digit_glyph false d) && nat_le (digit_glyph false d) 57)
    || (digit_glyph false d == 59)) ≡ true
digit_parameter d h = grind (arith, nat_tests)

digits_parameters : (k n : ℕ) (acc : List ℕ) → parameters acc ≡ true → parameters (digits_onto k 10 false n acc) ≡ true
digits_parameters zero n acc h = h
digits_parameters (suc k) n acc h =
    let first : parameters (digit_glyph false (n % 10) ∷ acc) ≡ true =
    ap₂ (λ a b. a && b) (digit_parameter (n % 10) (omega arith)) h in
    elim (n / 10 == 0) as (λ b. parameters (if b then digit_glyph false (n % 10) ∷ acc
    else digits_onto k 10 false (n / 10) (digit_glyph false (n % 10) ∷ acc)) ≡ true) [
      | true ↦ first
      | false ↦ digits_parameters k (n / 10) (digit_glyph false (n % 10) ∷ acc) first
    ]

decimal_parameters : (n : ℕ) → parameters (decimal n) ≡ true
unfolding digits
decimal_parameters n = digits_parameters 64 n [] refl

foreground_parameters : (c : Color) → parameters (foreground c) ≡ true
foreground_parameters Red = refl
foreground_parameters Green = refl
foreground_parameters Yellow = refl
foreground_parameters Blue = refl
foreground_parameters Magenta = refl
foreground_parameters Cyan = refl
foreground_parameters (Rgb r g b) =
    parameters-append (codes "38;2;" ++ decimal r ++ codes ";" ++ decimal g ++ codes ";") (decimal b)
    (parameters-append (codes "38;2;" ++ decimal r ++ codes ";" ++ decimal g) (codes ";")
    (parameters-append (codes "38;2;" ++ decimal r ++ codes ";") (decimal g)
    (parameters-append (codes "38;2;" ++ decimal r) (codes ";")
    (parameters-append (codes "38;2;") (decimal r) refl (decimal_parameters r)) refl)
    (decimal_parameters g))
    refl)
    (decimal_parameters b)

abbrev each_parameters : List (List ℕ) → Bool
each_parameters [] = true
each_parameters (x ∷ xs) = parameters x && each_parameters xs

after_parameters : (xs : List (List ℕ)) → each_parameters xs ≡ true → parameters (after_separators xs) ≡ true
after_parameters [] h = refl
after_parameters (x ∷ xs) h =
    let p = and_parts (parameters x) (each_parameters xs) h in
    parameters-append (59 ∷ x) (after_separators xs) p.0 (after_parameters xs p.1)

separated_parameters : (xs : List (List ℕ)) → each_parameters xs ≡ true → parameters (separated_codes xs) ≡ true
separated_parameters [] h = refl
separated_parameters (x ∷ xs) h =
    let p = and_parts (parameters x) (each_parameters xs) h in
    parameters-append x (after_separators xs) p.0 (after_parameters xs p.1)

each-append : (xs ys : List (List ℕ)) → each_parameters xs ≡ true → each_parameters ys ≡ true
    → each_parameters (xs ++ ys) ≡ true
each-append [] ys h k = k
each-append (x ∷ xs) ys h k = grind (arith, nat_tests, each-append xs ys)

flag-each : (b : Bool) (x : List ℕ) → parameters x ≡ true → each_parameters (flag b x) ≡ true
flag-each true x h = ap (λ v. v && true) h
flag-each false x h = refl

foreground-each : (c : Option Color) → each_parameters (foreground_codes c) ≡ true
foreground-each None = refl
foreground-each (Some c) = ap (λ v. v && true) (foreground_parameters c)

style_parameters : (s : Style) → each_parameters (style_codes s) ≡ true
style_parameters s =
    each-append (foreground_codes s.fg ++ flag s.bold (codes "1") ++ flag s.dimmed (codes "2")
    ++ flag s.italic (codes "3")) (flag s.underline (codes "4"))
    (each-append (foreground_codes s.fg ++ flag s.bold (codes "1") ++ flag s.dimmed (codes "2"))
    (flag s.italic (codes "3"))
    (each-append (foreground_codes s.fg ++ flag s.bold (codes "1")) (flag s.dimmed (codes "2"))
    (each-append (foreground_codes s.fg) (flag s.bold (codes "1")) (foreground-each s.fg)
    (flag-each s.bold (codes "1") refl))
    (flag-each s.dimmed (codes "2") refl))
    (flag-each s.italic (codes "3") refl))
    (flag-each s.underline (codes "4") refl)

pub separated_style : (s : Style) → parameters (separated_codes (style_codes s)) ≡ true
separated_style s = separated_parameters (style_codes s) (style_parameters s)

-- ---- their bytes

parameter_low : (c : ℕ) (cs : List ℕ) → parameters (c ∷ cs) ≡ true → c < 128
parameter_low c cs h = grind (arith, nat_tests)

parameters-bytes : (cs : List ℕ) → parameters cs ≡ true → encode_utf8_all cs ≡ cs
parameters-bytes [] h = refl
parameters-bytes (c ∷ cs) h =
    let p = and_parts ((nat_le 48 c && nat_le c 57) || (c == 59)) (parameters cs) h in
    ap₂ (λ x y. x ++ y) (encode_ascii c (parameter_low c cs h)) (parameters-bytes cs p.1)

pub start-bytes : (s : Style) → encode_utf8_all (colour_start s) ≡ colour_start s
unfolding lib.Utf8.encode
start-bytes s =
    let cs = separated_codes (style_codes s) in
    ap (λ x. 27 ∷ 91 ∷ x) (encodes-append cs (109 ∷ []) ∙ ap (λ x. x ++ 109 ∷ [])
    (parameters-bytes cs (separated_style s)))

pub stop-bytes : encode_utf8_all colour_stop ≡ colour_stop
unfolding lib.Utf8.encode
stop-bytes = refl
