-- Deleting colours from a text's bytes is deleting them from its codes.
use Rattle.std.proofs.Common.{◌≡◌, ℕ, zero, suc, ◌<◌, ◌≤◌, Bool, true, false, ◌&&◌, ◌==◌, nat_lt, nat_le, List, [], ◌∷◌}
use Rattle.std.proofs.Common.{◌++◌, length, get_or, refl, sym, ap, ◌∙◌, subst, arith, append-nil, if◌then◌else◌}
use Rattle.std.proofs.Common.{encode_utf8, encode_utf8_all, ◌⊎◌, inl, inr, ltb-true, ltb-false, leb-true, ne_eqb}
use Rattle.std.proofs.Common.{eqb-true}
use Rattle.std.proofs.lemmas.Bool.{and_parts}
use Rattle.std.proofs.lemmas.Bool.Decides.{nat_tests}
use Rattle.std.proofs.lemmas.Str.{encode_ascii, inside_one, length-encode, len_utf8_bounds}
use Rattle.miette_runs.specs.rules.Sequences.{erase, erase_after, is_parameter, one_more, colour_end_len}
use Rattle.miette_runs.specs.rules.Sequences.{after_colour_escape_len}
use Rattle.miette_style.specs.rules.Escapes.{is_escape}
use Rattle.miette_text.proofs.Parsing.{erase_plain}
use Rattle.miette_text.proofs.ColouredTexts.{one_more_suc}

-- all bytes are 128 or more
abbrev high : List ℕ → Bool
high [] = true
high (b ∷ bs) = nat_le 128 b && high bs

high_by : (bs : List ℕ) → ((k : ℕ) → k < length bs → 128 ≤ get_or bs k 0) → high bs ≡ true
high_by [] h = refl
high_by (b ∷ bs) h =
    let first : 128 ≤ b = h 0 (omega arith) in
    let rest : high bs ≡ true = high_by bs (λ k l. h (suc k) (omega arith)) in
    grind (arith, nat_tests, first, rest)

low_or_high : (n : ℕ) → (128 ≤ n) ⊎ (n < 128)
low_or_high n = elim (nat_lt n 128) as (λ b. nat_lt n 128 ≡ b → (128 ≤ n) ⊎ (n < 128)) [
  | true ↦ λ e. inr (ltb-true n 128 e)
  | false ↦ λ e. inl (ltb-false n 128 e)
] refl

above : (c : ℕ) → 128 ≤ c → high (encode_utf8 c) ≡ true
above c l = high_by (encode_utf8 c) (λ k h. elim (low_or_high (get_or (encode_utf8 c) k 0)) [
  | inl a ↦ a
  | inr b ↦ absurd (let e : c ≡ get_or (encode_utf8 c) k 0 =
      inside_one c [] (encode_utf8 c) k (sym (append-nil (encode_utf8 c))) h b in omega arith)
])

some_byte : (c : ℕ) → 0 < length (encode_utf8 c)
some_byte c = omega (arith, length-encode c, len_utf8_bounds c)

erase_high : (bs r : List ℕ) → high bs ≡ true → erase (bs ++ r) ≡ bs ++ erase r
erase_high [] r h = refl
erase_high (b ∷ bs) r h =
    let p = and_parts (nat_le 128 b) (high bs) h in
    let l : 128 ≤ b = leb-true 128 b p.0 in
    erase_plain b (bs ++ r) (ne_eqb b 27 (λ e. omega arith)) ∙ ap (λ xs. b ∷ xs) (erase_high bs r p.1)

-- ---- the length of a colour at the front

none_high : (f : List ℕ → ℕ) → ((b : ℕ) (bs : List ℕ) → 128 ≤ b → f (b ∷ bs) ≡ 0) → (bs r : List ℕ) → high bs ≡ true
    → 0 < length bs → f (bs ++ r) ≡ 0
none_high f none [] r h l = absurd (omega arith)
none_high f none (b ∷ bs) r h l = none b (bs ++ r) (leb-true 128 b (and_parts (nat_le 128 b) (high bs) h).0)

-- a length that is 0 before what isn't ASCII
encode_first : (f : List ℕ → ℕ) → ((b : ℕ) (bs : List ℕ) → 128 ≤ b → f (b ∷ bs) ≡ 0) → (c : ℕ) (cs : List ℕ)
    → f (c ∷ encode_utf8_all cs) ≡ f (c ∷ cs) → f (encode_utf8_all (c ∷ cs)) ≡ f (c ∷ cs)
encode_first f none c cs h = elim (low_or_high c) [
  | inl a ↦ none_high f none (encode_utf8 c) (encode_utf8_all cs) (above c a) (some_byte c) ∙ sym (none c cs a)
  | inr b ↦ ap (λ xs. f (xs ++ encode_utf8_all cs)) (encode_ascii c b) ∙ h
]

end_high : (c : ℕ) (cs : List ℕ) → 128 ≤ c → colour_end_len (c ∷ cs) ≡ 0
end_high c cs l = grind (arith, nat_tests)

end_encode : (cs : List ℕ) → colour_end_len (encode_utf8_all cs) ≡ colour_end_len cs
end_encode [] = refl
end_encode (c ∷ cs) = encode_first colour_end_len end_high c cs
    (ap (λ n. if c == 109 then 1 else if is_parameter c then one_more n else 0) (end_encode cs))

after_high : (c : ℕ) (cs : List ℕ) → 128 ≤ c → after_colour_escape_len (c ∷ cs) ≡ 0
after_high c cs l = grind (arith, nat_tests)

after_encode : (cs : List ℕ) → after_colour_escape_len (encode_utf8_all cs) ≡ after_colour_escape_len cs
after_encode [] = refl
after_encode (c ∷ cs) = encode_first after_colour_escape_len after_high c cs
    (ap (λ n. if c == 91 then one_more n else 0) (end_encode cs))

-- ---- a colour is ASCII

abbrev Ascii : ℕ → List ℕ → Type 0
Ascii zero cs = Unit {0}
Ascii (suc k) [] = Unit {0}
Ascii (suc k) (c ∷ cs) = (c < 128) × Ascii k cs

end_low : (c : ℕ) → is_parameter c ≡ true → c < 128
end_low c h = grind (arith, nat_tests)

end_ascii : (cs : List ℕ) (k : ℕ) → colour_end_len cs ≡ suc k → Ascii (suc k) cs
end_ascii [] k h = tt
end_ascii (c ∷ cs) k h =
    elim (c == 109) as (λ b. (c == 109) ≡ b → (if b then 1 else if is_parameter c then one_more (colour_end_len cs)
    else 0) ≡ suc k → Ascii (suc k) (c ∷ cs)) [
      | true ↦ λ e g. (
        let d : c ≡ 109 = eqb-true c 109 e in omega arith,
        let P : ℕ → Type 0 = λ n. Ascii n cs in
            let z : 0 ≡ k = omega arith in subst P z tt,
      )
      | false ↦ λ e. elim (is_parameter c) as (λ b. is_parameter c ≡ b → (if b then one_more (colour_end_len cs) else 0)
          ≡ suc k → Ascii (suc k) (c ∷ cs)) [
            | true ↦ λ p g. (
              end_low c p,
              let s = one_more_suc (colour_end_len cs) k g in let P : ℕ → Type 0 =
                  λ n. Ascii n cs in subst P (sym s.2) (end_ascii cs s.0 s.1),
            )
            | false ↦ λ p g. absurd (cc)
          ] refl
    ] refl h

after_ascii : (cs : List ℕ) (k : ℕ) → one_more (after_colour_escape_len cs) ≡ suc k → Ascii k cs
after_ascii [] k h = absurd (cc)
after_ascii (c ∷ cs) k h =
    elim (c == 91) as (λ b. (c == 91) ≡ b → one_more (if b then one_more (colour_end_len cs) else 0) ≡ suc k
    → Ascii k (c ∷ cs)) [
      | true ↦ λ e g.
          let s = one_more_suc (one_more (colour_end_len cs)) k g in
          let t = one_more_suc (colour_end_len cs) s.0 s.1 in
          let P : ℕ → Type 0 = λ n. Ascii n (c ∷ cs) in
          let Q : ℕ → Type 0 = λ n. Ascii n cs in
          subst P (sym s.2) ((
            let d : c ≡ 91 = eqb-true c 91 e in omega arith,
            subst Q (sym t.2) (end_ascii cs t.0 t.1),
          ))
      | false ↦ λ e g. absurd (cc)
    ] refl h

-- ---- erasing

abbrev erase_by : ℕ → ℕ → List ℕ → List ℕ
erase_by n c cs = elim n as (λ _. List ℕ) [ zero ↦ c ∷ erase_after 0 cs | suc k ↦ erase_after k cs ]

encode_erased : (k : ℕ) (cs : List ℕ) → Ascii k cs → erase_after k (encode_utf8_all cs)
    ≡ encode_utf8_all (erase_after k cs)
encode_erased zero [] h = refl
encode_erased (suc k) [] h = refl
encode_erased (suc k) (c ∷ cs) h = ap (λ xs. erase_after (suc k) (xs ++ encode_utf8_all cs)) (encode_ascii c h.0)
    ∙ encode_erased k cs h.1
encode_erased zero (c ∷ cs) h = elim (low_or_high c) [
  | inl a ↦
      erase_high (encode_utf8 c) (encode_utf8_all cs) (above c a)
      ∙ ap (λ xs. encode_utf8 c ++ xs) (encode_erased zero cs tt)
      ∙ sym (ap encode_utf8_all (erase_plain c cs (ne_eqb c 27 (λ e. omega arith))))
  | inr b ↦
      ap (λ xs. erase (xs ++ encode_utf8_all cs)) (encode_ascii c b)
      ∙ ap (λ n. erase_by (if is_escape c then one_more n else 0) c (encode_utf8_all cs)) (after_encode cs)
      ∙ elim (is_escape c) as (λ v. erase_by (if v then one_more (after_colour_escape_len cs) else 0) c
      (encode_utf8_all cs) ≡ encode_utf8_all (erase_by (if v then one_more (after_colour_escape_len cs) else 0) c
      cs)) [
        | false ↦ ap (λ xs. c ∷ xs) (encode_erased zero cs tt)
            ∙ ap (λ xs. xs ++ encode_utf8_all (erase_after 0 cs)) (sym (encode_ascii c b))
        | true ↦ elim (one_more (after_colour_escape_len cs)) as
            (λ n. one_more (after_colour_escape_len cs) ≡ n → erase_by n c (encode_utf8_all cs)
            ≡ encode_utf8_all (erase_by n c cs)) [
              | zero ↦ λ e. ap (λ xs. c ∷ xs) (encode_erased zero cs tt)
                  ∙ ap (λ xs. xs ++ encode_utf8_all (erase_after 0 cs)) (sym (encode_ascii c b))
              | suc k ↦ λ e. encode_erased k cs (after_ascii cs k e)
            ] refl
      ]
]

pub erase-encode : (cs : List ℕ) → erase (encode_utf8_all cs) ≡ encode_utf8_all (erase cs)
erase-encode cs = encode_erased zero cs tt
