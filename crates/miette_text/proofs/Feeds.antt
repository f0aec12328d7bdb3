-- No sequence holds a line feed: a text is cut at each.
use Rattle.std.proofs.Common.{◌≡◌, ℕ, zero, suc, ◌<◌, ◌≤◌, Bool, true, false, ◌&&◌, ◌==◌, List, [], ◌∷◌, ◌++◌, length}
use Rattle.std.proofs.Common.{take, refl, ap, ap₂, ◌∙◌, arith, if◌then◌else◌}
use Rattle.std.proofs.lemmas.Bool.Decides.{nat_tests}
use Rattle.std.proofs.lemmas.List.{take-append-le}
use Rattle.std.proofs.Math.Bool.{and-false}
use Rattle.miette_style.specs.rules.Escapes.{is_escape}
use Rattle.miette_runs.specs.rules.Sequences.{Token, Character, Sequence, after_escape_len, begins, begins_terminator}
use Rattle.miette_runs.specs.rules.Sequences.{command_len, control_len, is_bell, is_final, is_line_feed, one_more}
use Rattle.miette_runs.specs.rules.Sequences.{sequence_len, spell, tokens, tokens_after}
use Rattle.miette_runs.specs.rules.Colours.{is_colour}
use Rattle.miette_runs.specs.rules.Cutting.{cut_end, cut_front, only_feeds, trim_leading_feeds, trim_trailing_feeds}
use Rattle.miette_runs.proofs.Appending.{spell-append}
use Rattle.miette_runs.proofs.Tokens.{spell-tokens, tokens_character}
use Rattle.miette_text.specs.rules.Wrapping.{TextLine, no_characters, on_first, text_lines, with_code, with_tag}
use Rattle.miette_text.proofs.LineWise.{pieces-some}

-- ---- what begins in front of a line feed ends there

control-fed : (x y : List ℕ) → control_len (x ++ 10 ∷ y) ≡ control_len x
control-fed [] y = refl
control-fed (c ∷ x) y = ap (λ n. if is_line_feed c then 0 else if is_final c then 1 else one_more n) (control-fed x y)

begins-fed : (x y : List ℕ) → begins 92 (x ++ 10 ∷ y) ≡ begins 92 x
begins-fed [] y = refl
begins-fed (c ∷ x) y = refl

command-fed : (x y : List ℕ) → command_len (x ++ 10 ∷ y) ≡ command_len x
command-fed [] y = refl
command-fed (c ∷ x) y =
    ap₂ (λ b n. if is_line_feed c then 0 else if is_bell c then 1 else if is_escape c && b then 2 else one_more n)
    (begins-fed x y) (command-fed x y)

after-fed : (x y : List ℕ) → after_escape_len (x ++ 10 ∷ y) ≡ after_escape_len x
after-fed [] y = refl
after-fed (c ∷ x) y = ap₂ (λ m n. if c == 91 then one_more m else if c == 93 then one_more n else 0) (control-fed x y)
    (command-fed x y)

sequence-fed : (x y : List ℕ) → sequence_len (x ++ 10 ∷ y) ≡ sequence_len x
sequence-fed [] y = refl
sequence-fed (c ∷ x) y = ap (λ n. if is_escape c then one_more n else 0) (after-fed x y)

-- ---- a sequence is no longer than its text

pick : (b : Bool) (x y m : ℕ) → x ≤ m → y ≤ m → (if b then x else y) ≤ m
pick true x y m h k = h
pick false x y m h k = k

more-within : (n m : ℕ) → n ≤ m → one_more n ≤ suc m
more-within zero m h = omega arith
more-within (suc n) m h = omega (arith, h)

control-within : (x : List ℕ) → control_len x ≤ length x
control-within [] = omega arith
control-within (c ∷ x) =
    pick (is_line_feed c) 0 (if is_final c then 1 else one_more (control_len x)) (suc (length x)) (omega arith)
    (pick (is_final c) 1 (one_more (control_len x)) (suc (length x)) (omega arith)
    (more-within (control_len x) (length x) (control-within x)))

command-last : (c : ℕ) → command_len (c ∷ []) ≤ 1
command-last c = grind (arith, nat_tests)

command-within : (x : List ℕ) → command_len x ≤ length x
command-within [] = omega arith
command-within (c ∷ []) = command-last c
command-within (c ∷ d ∷ x) =
    let left = one_more (command_len (d ∷ x)) in
    let all = suc (suc (length x)) in
    pick (is_line_feed c) 0 (if is_bell c then 1 else if begins_terminator (c ∷ d ∷ x) then 2 else left) all
    (omega arith)
    (pick (is_bell c) 1 (if begins_terminator (c ∷ d ∷ x) then 2 else left) all (omega arith)
    (pick (begins_terminator (c ∷ d ∷ x)) 2 left all (omega arith)
    (more-within (command_len (d ∷ x)) (suc (length x)) (command-within (d ∷ x)))))

after-within : (x : List ℕ) → after_escape_len x ≤ length x
after-within [] = omega arith
after-within (c ∷ x) =
    pick (c == 91) (one_more (control_len x)) (if c == 93 then one_more (command_len x) else 0) (suc (length x))
    (more-within (control_len x) (length x) (control-within x))
    (pick (c == 93) (one_more (command_len x)) 0 (suc (length x))
    (more-within (command_len x) (length x) (command-within x)) (omega arith))

sequence-within : (x : List ℕ) → sequence_len x ≤ length x
sequence-within [] = omega arith
sequence-within (c ∷ x) =
    pick (is_escape c) (one_more (after_escape_len x)) 0 (suc (length x))
    (more-within (after_escape_len x) (length x) (after-within x)) (omega arith)

-- ---- tokens

-- the first token of a text, by the length of the sequence at its front
abbrev pub first_token : ℕ → List ℕ → ℕ → List Token
first_token c cs n = elim n as (λ _. List Token) [
  | zero ↦ Character c ∷ tokens_after 0 cs
  | suc k ↦ Sequence (take (suc k) (c ∷ cs)) ∷ tokens_after k cs
]

skipped-fed : (k : ℕ) (x y : List ℕ) → k ≤ length x → tokens_after k (x ++ 10 ∷ y) ≡ tokens_after k x ++ Character 10
    ∷ tokens y
skipped-fed zero [] y h = tokens_character 10 y refl
skipped-fed (suc k) [] y h = absurd (omega (arith, h))
skipped-fed (suc k) (c ∷ x) y h = skipped-fed k x y (omega (arith, h))
skipped-fed zero (c ∷ x) y h =
    ap (first_token c (x ++ 10 ∷ y)) (sequence-fed (c ∷ x) y)
    ∙ elim (sequence_len (c ∷ x)) as (λ n. n ≤ length (c ∷ x) → first_token c (x ++ 10 ∷ y) n ≡ first_token c x n
    ++ Character 10 ∷ tokens y) [
      | zero ↦ λ l. ap (λ ts. Character c ∷ ts) (skipped-fed 0 x y (omega arith))
      | suc k ↦ λ l. ap₂ (λ s ts. Sequence s ∷ ts) (take-append-le (suc k) (c ∷ x) (10 ∷ y) l)
          (skipped-fed k x y (omega (arith, l)))
    ] (sequence-within (c ∷ x))

pub tokens-fed : (x y : List ℕ) → tokens (x ++ 10 ∷ y) ≡ tokens x ++ Character 10 ∷ tokens y
tokens-fed x y = skipped-fed 0 x y (omega arith)

-- ---- lines

on-append : (f : TextLine → TextLine) (ps qs : List TextLine) → 0 < length ps → on_first f (ps ++ qs) ≡ on_first f ps
    ++ qs
on-append f [] qs h = absurd (omega arith)
on-append f (p ∷ ps) qs h = refl

lines-joined : (us vs : List Token) → text_lines (us ++ Character 10 ∷ vs) ≡ text_lines us ++ text_lines vs
lines-joined [] vs = refl
lines-joined (Sequence s ∷ us) vs =
    ap (on_first (with_tag s)) (lines-joined us vs)
    ∙ on-append (with_tag s) (text_lines us) (text_lines vs) (pieces-some us)
lines-joined (Character c ∷ us) vs =
    let all = text_lines (us ++ Character 10 ∷ vs) in
    elim (is_line_feed c) as (λ (b : Bool). (if b then no_characters ∷ all else on_first (with_code c) all)
    ≡ (if b then no_characters ∷ text_lines us else on_first (with_code c) (text_lines us)) ++ text_lines vs) [
      | true ↦ ap (λ ps. no_characters ∷ ps) (lines-joined us vs)
      | false ↦ ap (on_first (with_code c)) (lines-joined us vs)
          ∙ on-append (with_code c) (text_lines us) (text_lines vs) (pieces-some us)
    ]

-- the lines of a text
abbrev pub lines : List ℕ → List TextLine
lines text = text_lines (tokens text)

pub lines-fed : (x y : List ℕ) → lines (x ++ 10 ∷ y) ≡ lines x ++ lines y
lines-fed x y = ap text_lines (tokens-fed x y) ∙ lines-joined (tokens x) (tokens y)

-- ---- line feeds that are cut off

front-seen : (us vs : List Token) → only_feeds us ≡ false → cut_front (us ++ vs) ≡ cut_front us ++ vs
front-seen [] vs h = absurd (cc)
front-seen (Character c ∷ us) vs h = elim (is_line_feed c) as (λ (b : Bool). (b && only_feeds us) ≡ false
    → (if b then cut_front (us ++ vs) else Character c ∷ (us ++ vs)) ≡ (if b then cut_front us else Character c ∷ us)
    ++ vs) [ true ↦ λ k. front-seen us vs k | false ↦ λ k. refl ] h
front-seen (Sequence s ∷ us) vs h = elim (is_colour s) as (λ (b : Bool). (b && only_feeds us) ≡ false
    → (if b then Sequence s ∷ cut_front (us ++ vs) else Sequence s ∷ (us ++ vs))
    ≡ (if b then Sequence s ∷ cut_front us else Sequence s ∷ us) ++ vs) [
      | true ↦ λ k. ap (λ ts. Sequence s ∷ ts) (front-seen us vs k)
      | false ↦ λ k. refl
    ] h

-- where something is seen in front
pub leading-kept : (x y : List ℕ) → only_feeds (tokens x) ≡ false → trim_leading_feeds (x ++ 10 ∷ y)
    ≡ trim_leading_feeds x
    ++ 10 ∷ y
leading-kept x y h =
    ap (λ ts. spell (cut_front ts)) (tokens-fed x y)
    ∙ ap spell (front-seen (tokens x) (Character 10 ∷ tokens y) h)
    ∙ spell-append (cut_front (tokens x)) (Character 10 ∷ tokens y)
    ∙ ap (λ t. trim_leading_feeds x ++ 10 ∷ t) (spell-tokens y)

feeds-after : (us vs : List Token) → only_feeds vs ≡ false → only_feeds (us ++ vs) ≡ false
feeds-after [] vs h = h
feeds-after (Character c ∷ us) vs h = ap (λ b. is_line_feed c && b) (feeds-after us vs h) ∙ and-false (is_line_feed c)
feeds-after (Sequence s ∷ us) vs h = ap (λ b. is_colour s && b) (feeds-after us vs h) ∙ and-false (is_colour s)

-- where something is seen after a line feed
pub seen-after : (x y : List ℕ) → only_feeds (tokens y) ≡ false → only_feeds (tokens (x ++ 10 ∷ y)) ≡ false
seen-after x y h = ap only_feeds (tokens-fed x y) ∙ feeds-after (tokens x) (Character 10 ∷ tokens y) h

end-seen : (us vs : List Token) → only_feeds vs ≡ false → cut_end (us ++ vs) ≡ us ++ cut_end vs
end-seen [] vs h = refl
end-seen (Sequence s ∷ us) vs h = ap (λ ts. Sequence s ∷ ts) (end-seen us vs h)
end-seen (Character c ∷ us) vs h =
    ap (λ (b : Bool). if is_line_feed c && b then cut_end (us ++ vs) else Character c ∷ cut_end (us ++ vs))
    (feeds-after us vs h)
    ∙ ap (λ (b : Bool). if b then cut_end (us ++ vs) else Character c ∷ cut_end (us ++ vs)) (and-false (is_line_feed c))
    ∙ ap (λ ts. Character c ∷ ts) (end-seen us vs h)

pub trailing-kept : (x y : List ℕ) → only_feeds (tokens y) ≡ false → trim_trailing_feeds (x ++ 10 ∷ y) ≡ x
    ++ 10 ∷ trim_trailing_feeds y
trailing-kept x y h =
    let ts = tokens y in
    ap (λ us. spell (cut_end us)) (tokens-fed x y)
    ∙ ap spell (end-seen (tokens x) (Character 10 ∷ ts) h)
    ∙ spell-append (tokens x) (cut_end (Character 10 ∷ ts))
    ∙ ap₂ (λ a b. a ++ b) (spell-tokens x)
    (ap (λ (b : Bool). spell (if b then cut_end ts else Character 10 ∷ cut_end ts)) h)
