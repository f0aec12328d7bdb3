-- The row of an edit, read back.
use Rattle.std.proofs.Common.{◌≡◌, ℕ, ◌+◌, ◌-◌, ◌*◌, ◌/◌, ◌%◌, ◌<◌, ◌^◌, ◌==◌, List, [], ◌∷◌, ◌++◌, Bool, true, false}
use Rattle.std.proofs.Common.{not}
use Rattle.std.proofs.Common.{Option, Some, None, IfSome, subst, refl, sym, ap, ap₂, ◌∙◌, append_assoc, arith, eq-eqb}
use Rattle.std.specs.Prelude.{◌||◌, ◌&&◌, decimal, drop, if◌then◌else◌, unwrap_or}
use Rattle.std.specs.List.{All, AllByRecursion, list_all}
use Rattle.std.specs.Str.Parse.{digits_value}
use Rattle.std.proofs.lemmas.Bool.{and_parts, not-true}
use Rattle.std.proofs.lemmas.Bool.Decides.{nat_tests}
use Rattle.std.proofs.lemmas.Fmt.{decimal_is_IsNumeral}
use Rattle.std.proofs.lemmas.List.Elements.{recursion_from_All}
use Rattle.miette_lines.proofs.Cases.{by_cases}
use Rattle.miette_brief.specs.declared.fix_its.LineColumn.{LineColumn}
use Rattle.miette_brief.specs.rules.FixIts.{FixIt, octal, is_printable_ascii, escaped_byte, escaped, position_text}
use Rattle.miette_brief.specs.rules.FixIts.{fix_it_text}
use Rattle.miette_brief.specs.laws.ReadBack.{is_digit}
use Rattle.miette_brief.specs.laws.EditBack.{as_it_is, text_to_quote, after_quote, up_to, after_end, position_to}
use Rattle.miette_brief.specs.laws.EditBack.{name_onwards, start_onwards, end_onwards, text_onwards, ReadsEdit}
use Rattle.miette_brief.proofs.Clean.{decimal_all, both_pass}

-- ---- bytes

-- these stand for a byte: a reader of a text gives it, and goes on after them
abbrev IsBack : ℕ → List ℕ → Type 0
IsBack b spelled = (more : List ℕ) → (text_to_quote as_it_is (spelled ++ more) ≡ b ∷ text_to_quote as_it_is more)
    × (after_quote as_it_is (spelled ++ more) ≡ after_quote as_it_is more)

choose : (b : ℕ) (test : Bool) (xs ys : List ℕ) → (test ≡ true → IsBack b xs) → (test ≡ false → IsBack b ys)
    → IsBack b (if test then xs else ys)
choose b true xs ys h g = h refl
choose b false xs ys h g = g refl

neither : (p q : Bool) → (p || q) ≡ false → (p ≡ false) × (q ≡ false)
neither true q h = (let no : true ≡ false = h in cc)
neither false q h = (refl, h)

quote_back : (b : ℕ) → ((b == 34) || (b == 92)) ≡ true → IsBack b (92 ∷ b ∷ [])
quote_back b h =
    by_cases {C = IsBack b (92 ∷ b ∷ [])} (b == 34)
    (λ t. let e : b ≡ 34 = grind (arith, nat_tests) in
    subst (λ n. IsBack n (92 ∷ n ∷ [])) (sym e) (λ more. (refl, refl)))
    (λ f. let e : b ≡ 92 = grind (arith, nat_tests) in
    subst (λ n. IsBack n (92 ∷ n ∷ [])) (sym e) (λ more. (refl, refl)))

feed_back : (b : ℕ) → (b == 10) ≡ true → IsBack b (92 ∷ 110 ∷ [])
feed_back b h =
    let e : b ≡ 10 = grind (arith, nat_tests) in
    subst (λ n. IsBack n (92 ∷ 110 ∷ [])) (sym e) (λ more. (refl, refl))

tab_back : (b : ℕ) → (b == 9) ≡ true → IsBack b (92 ∷ 116 ∷ [])
tab_back b h =
    let e : b ≡ 9 = grind (arith, nat_tests) in
    subst (λ n. IsBack n (92 ∷ 116 ∷ [])) (sym e) (λ more. (refl, refl))

itself_back : (b : ℕ) → ((b == 34) || (b == 92)) ≡ false → IsBack b (b ∷ [])
itself_back b h more =
    let p = neither (b == 34) (b == 92) h in
    (rw (p.0, p.1) refl, rw (p.0, p.1) refl)

octal_digit : (b : ℕ) → is_digit (48 + b / 64 % 8) ≡ true
octal_digit b = (let low : b / 64 % 8 < 8 = omega arith in grind (arith, nat_tests))

octal_value : (b : ℕ) → b < 256
    → ((48 + b / 64 % 8 - 48) * 8 + (48 + b / 8 % 8 - 48)) * 8 + (48 + b % 8 - 48) ≡ b
octal_value b h = omega arith

octal_back : (b : ℕ) → b < 256 → IsBack b (octal b)
octal_back b h more = (
  rw (octal_digit b) (ap (λ n. n ∷ text_to_quote as_it_is more) (octal_value b h)),
  rw (octal_digit b) refl,
)

byte_back : (b : ℕ) → b < 256 → IsBack b (escaped_byte b)
byte_back b small =
    choose b ((b == 34) || (b == 92)) (92 ∷ b ∷ []) _ (quote_back b)
    (λ plain. choose b (b == 10) (92 ∷ 110 ∷ []) _ (feed_back b)
    (λ no_feed. choose b (b == 9) (92 ∷ 116 ∷ []) _ (tab_back b)
    (λ no_tab. choose b (is_printable_ascii b) (b ∷ []) (octal b) (λ p. itself_back b plain)
    (λ q. octal_back b small))))

-- ---- texts

text_past : (bs rest : List ℕ) → AllByRecursion (λ b. b < 256) bs
    → text_to_quote as_it_is (escaped bs ++ 34 ∷ rest) ≡ bs
text_past [] rest h = refl
text_past (b ∷ bs) rest h =
    ap (text_to_quote as_it_is) (append_assoc (escaped_byte b) (escaped bs) (34 ∷ rest))
    ∙ (byte_back b h.0 (escaped bs ++ 34 ∷ rest)).0 ∙ ap (λ l. b ∷ l) (text_past bs rest h.1)

quote_past : (bs rest : List ℕ) → AllByRecursion (λ b. b < 256) bs
    → after_quote as_it_is (escaped bs ++ 34 ∷ rest) ≡ rest
quote_past [] rest h = refl
quote_past (b ∷ bs) rest h =
    ap (after_quote as_it_is) (append_assoc (escaped_byte b) (escaped bs) (34 ∷ rest))
    ∙ (byte_back b h.0 (escaped bs ++ 34 ∷ rest)).1 ∙ quote_past bs rest h.1

-- ---- numbers

abbrev pub lacks : ℕ → List ℕ → Bool
lacks end bs = list_all (λ b. not (b == end)) bs

pub up_past : (end : ℕ) (xs ys : List ℕ) → lacks end xs ≡ true → up_to end (xs ++ end ∷ ys) ≡ xs
up_past end [] ys h = rw (eq-eqb end end refl) refl
up_past end (x ∷ xs) ys h =
    let p = and_parts (not (x == end)) (lacks end xs) h in
    rw (not-true (x == end) p.0) (ap (λ l. x ∷ l) (up_past end xs ys p.1))

pub after_end_past : (end : ℕ) (xs ys : List ℕ) → lacks end xs ≡ true → after_end end (xs ++ end ∷ ys) ≡ ys
after_end_past end [] ys h = rw (eq-eqb end end refl) refl
after_end_past end (x ∷ xs) ys h =
    let p = and_parts (not (x == end)) (lacks end xs) h in
    rw (not-true (x == end) p.0) (after_end_past end xs ys p.1)

-- no digit is this byte
abbrev IsNoDigit : ℕ → Type 0
IsNoDigit end = (d : ℕ) → d < 10 → not ((48 + d) == end) ≡ true

no_colon : IsNoDigit 58
no_colon d h = grind (arith, nat_tests)

no_dash : IsNoDigit 45
no_dash d h = grind (arith, nat_tests)

no_brace : IsNoDigit 125
no_brace d h = grind (arith, nat_tests)

number_lacks : (end : ℕ) → IsNoDigit end → (n : ℕ) → lacks end (decimal n) ≡ true
number_lacks end h n = decimal_all (λ b. not (b == end)) h n

number_back : (end : ℕ) → IsNoDigit end → (n : ℕ) (rest : List ℕ) → n < 2 ^ 64
    → digits_value 10 (up_to end (decimal n ++ end ∷ rest)) ≡ n
number_back end none n rest h =
    ap (digits_value 10) (up_past end (decimal n) rest (number_lacks end none n)) ∙ (decimal_is_IsNumeral n h).1

position_lacks : (end : ℕ) → IsNoDigit end → not (58 == end) ≡ true → (at : LineColumn)
    → lacks end (position_text at) ≡ true
position_lacks end none colon at =
    both_pass (λ b. not (b == end)) (decimal at.line) (58 ∷ decimal at.column) (number_lacks end none at.line)
    (ap₂ (λ p q. p && q) colon (number_lacks end none at.column))

same_position : (l c : ℕ) (at : LineColumn) → l ≡ at.line → c ≡ at.column → record { line = l; column = c } ≡ at
same_position l c at p q = rw (p, q) refl

abbrev IsSmall : LineColumn → Type 0
IsSmall at = (at.line < 2 ^ 64) × (at.column < 2 ^ 64)

position_back : (end : ℕ) → IsNoDigit end → (at : LineColumn) (rest : List ℕ) → IsSmall at
    → position_to end (position_text at ++ end ∷ rest) ≡ at
position_back end none at rest small =
    let column : List ℕ = decimal at.column ++ end ∷ rest in
    let bs : List ℕ = position_text at ++ end ∷ rest in
    let shape : bs ≡ decimal at.line ++ 58 ∷ column =
    append_assoc (decimal at.line) (58 ∷ decimal at.column) (end ∷ rest) in
    same_position (digits_value 10 (up_to 58 bs)) (digits_value 10 (up_to end (after_end 58 bs))) at
    (ap (λ l. digits_value 10 (up_to 58 l)) shape ∙ number_back 58 no_colon at.line column small.0)
    (ap (λ l. digits_value 10 (up_to end (after_end 58 l))) shape
    ∙ ap (λ l. digits_value 10 (up_to end l))
    (after_end_past 58 (decimal at.line) column (number_lacks 58 no_colon at.line))
    ∙ number_back end none at.column rest small.1)

-- ---- rows

-- after `}`
abbrev text_part : FixIt → List ℕ
text_part it = 58 ∷ 34 ∷ (escaped it.text ++ 34 ∷ [])

-- after `-`
abbrev end_part : FixIt → List ℕ
end_part it = position_text it.end ++ 125 ∷ text_part it

-- after `{`
abbrev start_part : FixIt → List ℕ
start_part it = position_text it.start ++ 45 ∷ end_part it

shape : (name start end text : List ℕ)
    → (name ++ 34 ∷ []) ++ (58 ∷ ((123 ∷ (start ++ (45 ∷ (end ++ 125 ∷ [])))) ++ (58 ∷ 34 ∷ (text ++ 34 ∷ []))))
    ≡ name ++ 34 ∷ 58 ∷ 123 ∷ (start ++ 45 ∷ (end ++ 125 ∷ 58 ∷ 34 ∷ (text ++ 34 ∷ [])))
shape name start end text = simp append_assoc

name_bytes : (name : Option (List ℕ)) → IfSome name (All (λ b. b < 256))
    → AllByRecursion (λ b. b < 256) (unwrap_or name [])
name_bytes None h = tt
name_bytes (Some name) h = recursion_from_All (λ b. b < 256) name h

pub edit_back : (it : FixIt) → IfSome it.name (All (λ b. b < 256)) → All (λ b. b < 256) it.text
    → (it.start.line < 2 ^ 64) × (it.start.column < 2 ^ 64) → (it.end.line < 2 ^ 64) × (it.end.column < 2 ^ 64)
    → ReadsEdit it (fix_it_text it)
edit_back it hn ht hs he =
    let row : List ℕ = fix_it_text it in
    let name : List ℕ = unwrap_or it.name [] in
    let named = name_bytes it.name hn in
    let onwards : name_onwards row ≡ escaped name ++ 34 ∷ 58 ∷ 123 ∷ start_part it =
    shape (escaped name) (position_text it.start) (position_text it.end) (escaped it.text) in
    let start : start_onwards row ≡ start_part it =
    ap (λ l. drop 2 (after_quote as_it_is l)) onwards
    ∙ ap (drop 2) (quote_past name (58 ∷ 123 ∷ start_part it) named) in
    let end : end_onwards row ≡ end_part it =
    ap (after_end 45) start ∙ after_end_past 45 (position_text it.start) (end_part it)
    (position_lacks 45 no_dash refl it.start) in
    let text : text_onwards row ≡ escaped it.text ++ 34 ∷ [] =
    ap (λ l. drop 2 (after_end 125 l)) end ∙ ap (drop 2)
    (after_end_past 125 (position_text it.end) (text_part it) (position_lacks 125 no_brace refl it.end)) in
    record {
      name_is = ap (text_to_quote as_it_is) onwards ∙ text_past name (58 ∷ 123 ∷ start_part it) named;
      start_is = ap (position_to 45) start ∙ position_back 45 no_dash it.start (end_part it) hs;
      end_is = ap (position_to 125) end ∙ position_back 125 no_brace it.end (text_part it) he;
      text_is = ap (text_to_quote as_it_is) text
          ∙ text_past it.text [] (recursion_from_All (λ b. b < 256) it.text ht);
    }
