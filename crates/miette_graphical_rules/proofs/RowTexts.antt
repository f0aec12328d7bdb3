-- The texts of runs and of rows.
use Rattle.std.proofs.Common.{◌≡◌, ℕ, zero, suc, ◌+◌, ◌-◌, ◌*◌, ◌/◌, ◌%◌, ◌<◌, ◌≤◌, List, [], ◌∷◌, ◌++◌, map, refl, sym}
use Rattle.std.proofs.Common.{ap, ap₂, ◌∙◌, arith, encode_utf8_all, le-ltb, lt-ltb, ⊎_elim, append_assoc}
use Rattle.std.specs.Char.{encode_utf8}
use Rattle.std.specs.Str.{chars, chars_after, continuation_len, lead_bits}
use Rattle.std.proofs.lemmas.Bool.{cases_lt}
use Rattle.std.proofs.lemmas.Str.{chars-nil}
use Rattle.miette_runs.specs.rules.Runs.{print, Fragment}
use Rattle.miette_style.specs.rules.Rows.{Glyph, Run}
use Rattle.miette_graphical_rules.specs.rules.DiagnosticText.{line_feed, rows_text}
use Rattle.miette_graphical_rules.specs.rules.Snippets.{run_text}

-- ---- the bytes of any codes read as these codes

whole : (c : ℕ) (bs : List ℕ) → chars_after zero c bs ≡ c ∷ chars bs
unfolding chars
whole c [] = refl
whole c (b ∷ bs) = refl

led : (a n v : ℕ) (bs : List ℕ) → continuation_len a ≡ n → lead_bits a ≡ v → chars (a ∷ bs) ≡ chars_after n v bs
unfolding chars
led a n v bs p q = ap₂ (λ k x. chars_after k x bs) p q

one_byte : (c : ℕ) (rest : List ℕ) → c < 128 → chars (encode_utf8 c ++ rest) ≡ c ∷ chars rest
unfolding encode_utf8
one_byte c rest h = rw (lt-ltb c 128 h) (led c zero c rest (grind arith) (grind arith) ∙ whole c rest)

two_bytes : (c : ℕ) (rest : List ℕ) → 128 ≤ c → c < 2048 → chars (encode_utf8 c ++ rest) ≡ c ∷ chars rest
unfolding encode_utf8
two_bytes c rest l h =
    let a = 192 + c / 64 in
    let is : (a - 192) * 64 + ((128 + c % 64) - 128) ≡ c = omega arith in
    let low : a < 224 = omega arith in
    rw (le-ltb c 128 l, lt-ltb c 2048 h) (led a (suc zero) (a - 192) ((128 + c % 64) ∷ rest) (grind arith) (grind arith)
    ∙ whole ((a - 192) * 64 + ((128 + c % 64) - 128)) rest ∙ ap (λ x. x ∷ chars rest) is)

three_bytes : (c : ℕ) (rest : List ℕ) → 2048 ≤ c → c < 65536 → chars (encode_utf8 c ++ rest) ≡ c ∷ chars rest
unfolding encode_utf8
three_bytes c rest l h =
    let a = 224 + c / 4096 in
    let b = 128 + (c / 64) % 64 in
    let d = 128 + c % 64 in
    let is : ((a - 224) * 64 + (b - 128)) * 64 + (d - 128) ≡ c = omega arith in
    let low : a < 240 = omega arith in
    rw (le-ltb c 128 (omega arith), le-ltb c 2048 l, lt-ltb c 65536 h)
    (led a (suc (suc zero)) (a - 224) (b ∷ d ∷ rest) (grind arith) (grind arith)
    ∙ whole (((a - 224) * 64 + (b - 128)) * 64 + (d - 128)) rest ∙ ap (λ x. x ∷ chars rest) is)

four_bytes : (c : ℕ) (rest : List ℕ) → 65536 ≤ c → chars (encode_utf8 c ++ rest) ≡ c ∷ chars rest
unfolding encode_utf8
four_bytes c rest l =
    let a = 240 + c / 262144 in
    let b = 128 + (c / 4096) % 64 in
    let d = 128 + (c / 64) % 64 in
    let e = 128 + c % 64 in
    let is : (((a - 240) * 64 + (b - 128)) * 64 + (d - 128)) * 64 + (e - 128) ≡ c = omega arith in
    rw (le-ltb c 128 (omega arith), le-ltb c 2048 (omega arith), le-ltb c 65536 l)
    (led a (suc (suc (suc zero))) (a - 240) (b ∷ d ∷ e ∷ rest) (grind arith) (grind arith)
    ∙ whole ((((a - 240) * 64 + (b - 128)) * 64 + (d - 128)) * 64 + (e - 128)) rest ∙ ap (λ x. x ∷ chars rest) is)

reads : (c : ℕ) (rest : List ℕ) → chars (encode_utf8 c ++ rest) ≡ c ∷ chars rest
reads c rest = ⊎_elim (one_byte c rest) (λ l. ⊎_elim (two_bytes c rest l)
    (λ m. ⊎_elim (three_bytes c rest m) (four_bytes c rest) (cases_lt c 65536)) (cases_lt c 2048)) (cases_lt c 128)

encoded : (cs : List ℕ) → chars (encode_utf8_all cs) ≡ cs
encoded [] = chars-nil
encoded (c ∷ cs) = reads c (encode_utf8_all cs) ∙ ap (λ xs. c ∷ xs) (encoded cs)

-- ---- runs and rows

abbrev pub codes_of : List Glyph → List ℕ
codes_of pieces = map (λ p. p.code) pieces

pub run_codes : (run : Run) → run_text run ≡ codes_of run.glyphs
run_codes run = encoded (codes_of run.glyphs)

-- one row after the other
pub rows-appended : (xs ys : List (List Fragment)) → rows_text (xs ++ ys) ≡ rows_text xs ++ rows_text ys
rows-appended [] ys = refl
rows-appended (x ∷ xs) ys =
    ap (λ t. print x ++ line_feed ++ t) (rows-appended xs ys)
    ∙ sym (append_assoc (print x ++ line_feed) (rows_text xs) (rows_text ys))
