-- A text whose escapes all belong to colours is tame.
use Rattle.std.proofs.Common.{◌≡◌, ℕ, zero, suc, Bool, true, false, not, ◌||◌, ◌==◌, List, [], ◌∷◌, take, refl, sym, ap}
use Rattle.std.proofs.Common.{◌∙◌, subst, arith, eqb-true, if◌then◌else◌}
use Rattle.std.proofs.lemmas.Bool.{and_parts}
use Rattle.std.proofs.lemmas.Bool.Decides.{nat_tests}
use Rattle.miette_runs.specs.rules.Sequences.{Token, Character, Sequence, tokens_after, erase, erase_after}
use Rattle.miette_runs.specs.rules.Sequences.{is_parameter, one_more, control_len, colour_end_len, sequence_len}
use Rattle.miette_runs.specs.rules.Sequences.{after_escape_len, colour_len, after_colour_escape_len}
use Rattle.miette_style.specs.rules.Escapes.{is_escape}
use Rattle.miette_text.specs.laws.Tame.{Free, Escaped, Untamed, tame_after, IsTame}
use Rattle.miette_runs.specs.rules.Colours.{is_colour, is_colour_end, is_link}
use Rattle.miette_style.specs.rules.Escapes.{no_escape}

record Ends (cs : List ℕ) (k : ℕ) : Type 0 where
  pub control : control_len cs ≡ suc k
  pub colour : is_colour_end (take (suc k) cs) ≡ true

pub one_more_suc : (n k : ℕ) → one_more n ≡ suc k → (j : ℕ) × (n ≡ suc j) × (k ≡ suc j)
one_more_suc zero k h = cc
one_more_suc (suc n) k h = (n, refl, cc)

ends_here : (c : ℕ) (cs : List ℕ) → (c == 109) ≡ true → Ends (c ∷ cs) 0
ends_here c cs h = let d : c ≡ 109 = eqb-true c 109 h in record { control = rw d refl; colour = rw d refl }

ends_more : (c : ℕ) (cs : List ℕ) (j : ℕ) → (c == 109) ≡ false → is_parameter c ≡ true → Ends cs j
    → Ends (c ∷ cs) (suc j)
ends_more c cs j a b h = record {
  control = (let e = h.control in grind (arith, nat_tests, e));
  colour =
      (let e = h.colour in grind (arith, nat_tests, e));
}

colour_ends : (cs : List ℕ) (k : ℕ) → colour_end_len cs ≡ suc k → Ends cs k
colour_ends [] k h = cc
colour_ends (c ∷ cs) k h =
    elim (c == 109) as (λ b. (c == 109) ≡ b → (if b then 1 else if is_parameter c then one_more (colour_end_len cs)
    else 0) ≡ suc k → Ends (c ∷ cs) k) [
      | true ↦ λ e g. let P : ℕ → Type 0 = Ends (c ∷ cs) in subst P (omega arith) (ends_here c cs e)
      | false ↦ λ e. elim (is_parameter c) as (λ b. is_parameter c ≡ b → (if b then one_more (colour_end_len cs) else 0)
          ≡ suc k → Ends (c ∷ cs) k) [
            | true ↦ λ p g. let s = one_more_suc (colour_end_len cs) k g in let P : ℕ → Type 0 = Ends (c ∷ cs) in
                subst P (sym s.2) (ends_more c cs s.0 e p (colour_ends cs s.0 s.1))
            | false ↦ λ p g. cc
          ] refl
    ] refl h

pub record Begins (c : ℕ) (cs : List ℕ) (k : ℕ) : Type 0 where
  pub sequence : sequence_len (c ∷ cs) ≡ suc k
  pub colour : is_colour (c ∷ take k cs) ≡ true

begins_colour : (c d : ℕ) (cs : List ℕ) (j : ℕ) → is_escape c ≡ true → (d == 91) ≡ true → Ends cs j
    → Begins c (d ∷ cs) (suc (suc j))
begins_colour c d cs j a b h = record {
  sequence = (let e = h.control in grind (arith, nat_tests, e));
  colour =
      (let e = h.colour in grind (arith, nat_tests, e));
}

pub colour_begins : (c : ℕ) (cs : List ℕ) (k : ℕ) → is_escape c ≡ true → one_more (after_colour_escape_len cs) ≡ suc k
    → Begins c cs k
colour_begins c [] k a h = cc
colour_begins c (d ∷ cs) k a h =
    elim (d == 91) as (λ b. (d == 91) ≡ b → one_more (if b then one_more (colour_end_len cs) else 0) ≡ suc k
    → Begins c (d ∷ cs) k) [
      | true ↦ λ e g.
          let s = one_more_suc (one_more (colour_end_len cs)) k g in
          let t = one_more_suc (colour_end_len cs) s.0 s.1 in
          let P : ℕ → Type 0 = Begins c (d ∷ cs) in
          subst P (sym (s.2 ∙ ap suc t.2)) (begins_colour c d cs t.0 a e (colour_ends cs t.0 t.1))
      | false ↦ λ e g. cc
    ] refl h

-- the tokens after k codes, one step on
abbrev tokens_by : ℕ → ℕ → List ℕ → List Token
tokens_by n c cs = elim n as (λ _. List Token) [
  | zero ↦ Character c ∷ tokens_after 0 cs
  | suc k ↦ Sequence (take (suc k) (c ∷ cs)) ∷ tokens_after k cs
]

plain_begins : (c : ℕ) (cs : List ℕ) → is_escape c ≡ false → (sequence_len (c ∷ cs) ≡ 0) × (colour_len (c ∷ cs) ≡ 0)
plain_begins c cs h = (
  ap (λ (b : Bool). if b then one_more (after_escape_len cs) else 0) h,
  ap (λ (b : Bool). if b then one_more (after_colour_escape_len cs) else 0) h,
)

only_colours : (k : ℕ) (cs : List ℕ) → no_escape (erase_after k cs) ≡ true → tame_after Free (tokens_after k cs)
    ≡ Free
only_colours k [] h = refl
only_colours (suc k) (c ∷ cs) h = only_colours k cs h
only_colours zero (c ∷ cs) h =
    elim (is_escape c) as (λ b. is_escape c ≡ b → tame_after Free (tokens_by (sequence_len (c ∷ cs)) c cs) ≡ Free) [
      | false ↦ λ e.
          let p = plain_begins c cs e in
          let g : no_escape (c ∷ erase_after 0 cs) ≡ true =
          ap (λ (n : ℕ). no_escape (elim n as (λ _. List ℕ)
          [ zero ↦ c ∷ erase_after 0 cs | suc k ↦ erase_after k cs ])) (sym p.1) ∙ h in
          ap (λ n. tame_after Free (tokens_by n c cs)) p.0
          ∙ ap (λ (b : Bool). tame_after (if b then Escaped else Free) (tokens_after 0 cs)) e
          ∙ only_colours 0 cs (and_parts (not (is_escape c)) (no_escape (erase_after 0 cs)) g).1
      | true ↦ λ e.
          let u : colour_len (c ∷ cs) ≡ one_more (after_colour_escape_len cs) =
          ap (λ (b : Bool). if b then one_more (after_colour_escape_len cs) else 0) e in
          elim (one_more (after_colour_escape_len cs)) as (λ n. one_more (after_colour_escape_len cs) ≡ n
          → no_escape (elim n as (λ _. List ℕ) [ zero ↦ c ∷ erase_after 0 cs | suc k ↦ erase_after k cs ]) ≡ true
          → tame_after Free (tokens_by (sequence_len (c ∷ cs)) c cs) ≡ Free) [
            | zero ↦ λ n g. absurd (let x = (and_parts (not (is_escape c)) (no_escape (erase_after 0 cs)) g).0 in
                grind (arith, nat_tests, x))
            | suc k ↦ λ n g.
                let b = colour_begins c cs k e n in
                ap (λ n. tame_after Free (tokens_by n c cs)) b.sequence
                ∙ ap (λ (v : Bool). tame_after (if v || is_link (c ∷ take k cs) then Free else Untamed)
                (tokens_after k cs)) b.colour
                ∙ only_colours k cs g
          ] refl (ap (λ (n : ℕ). no_escape (elim n as (λ _. List ℕ)
          [ zero ↦ c ∷ erase_after 0 cs | suc k ↦ erase_after k cs ])) (sym u) ∙ h)
    ] refl

-- Where no escape is left without the colours, the text is tame.
pub coloured-tame : (text : List ℕ) → no_escape (erase text) ≡ true → IsTame text
coloured-tame text h = only_colours 0 text h
