-- Colours and spaces at the front of a line: nothing of them is seen.
use Rattle.std.proofs.Common.{◌≡◌, ℕ, zero, suc, ◌+◌, ◌<◌, ◌≤◌, Bool, true, false, ◌&&◌, ◌==◌, List, [], ◌∷◌, ◌++◌}
use Rattle.std.proofs.Common.{IsAscii, IsUtf8, length, take, drop, get_or, refl, sym, ap, ◌∙◌, arith, subst, eqb-true}
use Rattle.std.proofs.Common.{if◌then◌else◌}
use Rattle.std.specs.Prelude.{chars, encode_utf8}
use Rattle.std.specs.Char.{is_whitespace}
use Rattle.std.specs.List.{All}
use Rattle.std.specs.Str.{IsCharBoundary}
use Rattle.std.proofs.lemmas.Bool.{and_parts}
use Rattle.std.proofs.lemmas.Bool.Decides.{nat_tests}
use Rattle.std.proofs.lemmas.List.{drop_more, take-append-drop}
use Rattle.std.proofs.lemmas.List.Elements.{All-cons, All-nil}
use Rattle.std.proofs.Math.Bool.{and-false}
use Rattle.std.proofs.lemmas.Str.{IsCharBoundary-from_take, IsUtf8-from_ascii, chars-IsAscii, chars-append}
use Rattle.std.proofs.lemmas.Str.{chars_past_char, encode_ascii}
use Rattle.std.proofs.lemmas.Str.Ascii.{IsAscii-cons, IsAscii-from_all, IsAscii-nil}
use Rattle.miette_lines.specs.rules.Lists.{is_nil}
use Rattle.miette_style.specs.rules.Escapes.{is_escape}
use Rattle.miette_runs.specs.rules.Colours.{is_colour, is_colour_after, is_colour_end}
use Rattle.miette_runs.specs.rules.Sequences.{after_colour_escape_len, after_escape_len, begins, colour_end_len}
use Rattle.miette_runs.specs.rules.Sequences.{colour_len, is_parameter, one_more, tokens}
use Rattle.miette_runs.proofs.Counting.{counted}
use Rattle.miette_runs.proofs.Tokens.{colour-sequence, nil_of, tokens_character, tokens_sequence}
use Rattle.miette_text.specs.steps.WholeText.{are_passed, front_len}
use Rattle.miette_text.proofs.ColouredTexts.{colour_begins}

-- ---- the loop up to the end of a colour

counted_more : (i n : ℕ) → counted i (one_more n) ≡ counted (i + 1) n
counted_more i zero = refl
counted_more i (suc n) = omega arith

colour_end_at : (c : ℕ) (cs : List ℕ) (i : ℕ) → (c == 109) ≡ false → is_parameter c ≡ true
    → counted i (colour_end_len (c ∷ cs)) ≡ counted (i + 1) (colour_end_len cs)
colour_end_at c cs i h p =
    ap (λ (b : Bool). counted i (if b then 1 else if is_parameter c then one_more (colour_end_len cs) else 0)) h
    ∙ ap (λ (b : Bool). counted i (if b then one_more (colour_end_len cs) else 0)) p
    ∙ counted_more i (colour_end_len cs)

pub colour_end_step : (cs : List ℕ) (i : ℕ) → i < length cs → (get_or cs i 0 == 109) ≡ false
    → is_parameter (get_or cs i 0) ≡ true
    → counted i (colour_end_len (drop i cs)) ≡ counted (i + 1) (colour_end_len (drop (i + 1) cs))
colour_end_step cs i l h p = ap (λ xs. counted i (colour_end_len xs)) (drop_more cs i 0 l)
    ∙ colour_end_at (get_or cs i 0) (drop (i + 1) cs) i h p

-- ---- a colour is ASCII, and a sequence

parameter_low : (c : ℕ) → is_parameter c ≡ true → c < 128
parameter_low c h = grind (arith, nat_tests)

escape_low : (c : ℕ) → is_escape c ≡ true → c < 128
escape_low c h = grind (arith, nat_tests)

abbrev is_low : ℕ → Type 0
is_low b = b < 128

end_low : (s : List ℕ) → is_colour_end s ≡ true → All is_low s
end_low [] h = cc
end_low (c ∷ s) h =
    elim (c == 109) as (λ b. (c == 109) ≡ b → (if b then is_nil s else is_parameter c && is_colour_end s) ≡ true
    → All is_low (c ∷ s)) [
      | true ↦ λ e g. subst (λ r. All is_low (c ∷ r)) (sym (nil_of s g)) (All-cons is_low c []
          (omega (arith, eqb-true c 109 e)) (All-nil is_low))
      | false ↦ λ e g.
          let p = and_parts (is_parameter c) (is_colour_end s) g in
          All-cons is_low c s (parameter_low c p.0) (end_low s p.1)
    ] refl h

colour_low : (s : List ℕ) → is_colour s ≡ true → All is_low s
colour_low [] h = cc
colour_low (c ∷ []) h = absurd (let p = (and_parts (is_escape c) (is_colour_after []) h).1 in cc)
colour_low (c ∷ d ∷ s) h =
    let p = and_parts (is_escape c) (is_colour_after (d ∷ s)) h in
    let q = and_parts (d == 91) (is_colour_end s) p.1 in
    All-cons is_low c (d ∷ s) (escape_low c p.0) (All-cons is_low d s (omega (arith, eqb-true d 91 q.0))
    (end_low s q.1))

colour_some : (s : List ℕ) → is_colour s ≡ true → 0 < length s
colour_some [] h = cc
colour_some (c ∷ s) h = omega arith

-- ---- what is passed at the front

-- nothing of it is seen
record Unseen (b : Bool) (s : List ℕ) : Type 0 where
  pub ascii : IsAscii s
  pub passed : (r : List ℕ) → are_passed b (tokens (s ++ r)) ≡ are_passed b (tokens r)

colour_unseen : (b : Bool) (s : List ℕ) → is_colour s ≡ true → Unseen b s
colour_unseen b s h = record {
  ascii = IsAscii-from_all s (colour_low s h);
  passed = λ r. ap (are_passed b) (tokens_sequence s r (colour_some s h) (colour-sequence s r h));
}

space_unseen : Unseen true (32 ∷ [])
space_unseen = record {
  ascii = IsAscii-cons 32 [] (omega arith) IsAscii-nil;
  passed = λ r. ap (are_passed true) (tokens_character 32 r refl);
}

space_front : (b : Bool) (bs : List ℕ) → (b && begins 32 bs) ≡ true → Unseen b (take 1 bs)
space_front false bs e = cc
space_front true [] e = cc
space_front true (c ∷ cs) e = subst (λ x. Unseen true (x ∷ [])) (sym (eqb-true c 32 e)) space_unseen

colour_begun : (c : ℕ) (cs : List ℕ) (n : ℕ) → is_escape c ≡ true → one_more (after_colour_escape_len cs) ≡ n → 0 < n
    → is_colour (take n (c ∷ cs)) ≡ true
colour_begun c cs zero e f p = absurd (omega arith)
colour_begun c cs (suc k) e f p = (colour_begins c cs k e f).colour

colour_front : (bs : List ℕ) → 0 < colour_len bs → is_colour (take (colour_len bs) bs) ≡ true
colour_front [] p = absurd (omega arith)
colour_front (c ∷ cs) p =
    elim (is_escape c) as (λ t. is_escape c ≡ t → 0 < (if t then one_more (after_colour_escape_len cs) else 0)
    → is_colour (take (if t then one_more (after_colour_escape_len cs) else 0) (c ∷ cs)) ≡ true) [
      | true ↦ λ e q. colour_begun c cs (one_more (after_colour_escape_len cs)) e refl q
      | false ↦ λ e q. absurd (omega arith)
    ] refl p

front_unseen : (b : Bool) (bs : List ℕ) → 0 < front_len b bs → Unseen b (take (front_len b bs) bs)
front_unseen b bs h =
    elim (b && begins 32 bs) as (λ t. (b && begins 32 bs) ≡ t → 0 < (if t then 1 else colour_len bs)
    → Unseen b (take (if t then 1 else colour_len bs) bs)) [
      | true ↦ λ e p. space_front b bs e
      | false ↦ λ e p. colour_unseen b (take (colour_len bs) bs) (colour_front bs p)
    ] refl h

-- a text after what is passed at its front
pub record IsAfter (b : Bool) (bs : List ℕ) (n : ℕ) : Type 0 where
  pub boundary : IsCharBoundary bs n
  pub same : are_passed b (tokens (chars (drop n bs))) ≡ are_passed b (tokens (chars bs))

pub front_passed : (b : Bool) (bs : List ℕ) (n : ℕ) → IsUtf8 bs → 0 < n → n ≤ length bs → n ≡ front_len b bs
    → IsAfter b bs n
front_passed b bs n u p w e =
    let some : 0 < front_len b bs = omega (arith, e, p) in
    let front = take n bs in
    let rest = chars (drop n bs) in
    let none : Unseen b front = subst (λ k. Unseen b (take k bs)) (sym e) (front_unseen b bs some) in
    let own : IsUtf8 front = IsUtf8-from_ascii front none.ascii in
    let text : chars bs ≡ front ++ rest = ap chars (sym (take-append-drop n bs)) ∙ chars-append front (drop n bs) own
    ∙ ap (λ cs. cs ++ rest) (chars-IsAscii front none.ascii) in
    record {
      boundary = IsCharBoundary-from_take bs n u w own;
      same = sym (ap (λ cs. are_passed b (tokens cs)) text ∙ none.passed rest);
    }

-- ---- what is seen at the front

pub visible : (c : ℕ) (b : Bool) (bs : List ℕ) → 33 ≤ c → c ≤ 126 → are_passed b (tokens (c ∷ bs)) ≡ false
visible c b bs h k =
    let own : is_escape c ≡ false = grind (arith, nat_tests) in
    let ink : is_whitespace c ≡ false = grind (arith, nat_tests) in
    ap (are_passed b) (tokens_character c bs (ap (λ (t : Bool). if t then one_more (after_escape_len bs) else 0) own))
    ∙ ap (λ t. (b && t) && are_passed b (tokens bs)) ink ∙ ap (λ t. t && are_passed b (tokens bs)) (and-false b)

pub seen_front : (bs rest : List ℕ) (c : ℕ) (b : Bool) → IsUtf8 bs → bs ≡ c ∷ rest → 33 ≤ c → c ≤ 126
    → are_passed b (tokens (chars bs)) ≡ false
seen_front bs rest c b u e h k =
    let own : encode_utf8 c ≡ c ∷ [] = encode_ascii c (omega (arith, k)) in
    ap (λ cs. are_passed b (tokens cs)) (chars_past_char bs rest c u (e ∙ ap (λ cs. cs ++ rest) (sym own)))
    ∙ visible c b (chars rest) h k
