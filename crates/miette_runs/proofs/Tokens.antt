-- A text is spelled by its tokens; a colour at the front is the first of them.
use Rattle.std.proofs.Common.{◌≡◌, ℕ, zero, suc, ◌<◌, true, List, [], ◌∷◌, ◌++◌, length, take, refl, ap, ◌∙◌, arith}
use Rattle.std.proofs.lemmas.Bool.Decides.{nat_tests}
use Rattle.std.proofs.lemmas.List.{take_at}
use Rattle.miette_runs.specs.rules.Sequences.{Token, Character, Sequence, tokens, tokens_after, spell, one_more}
use Rattle.miette_runs.specs.rules.Sequences.{control_len, sequence_len}
use Rattle.miette_runs.specs.rules.Colours.{is_colour, is_colour_end}
use Rattle.miette_lines.specs.rules.Lists.{is_nil}

pub one_more_pos : (n : ℕ) → 0 < n → one_more n ≡ suc n
one_more_pos zero h = omega arith
one_more_pos (suc n) h = refl

pub colour_end_some : (s : List ℕ) → is_colour_end s ≡ true → 0 < length s
colour_end_some [] h = cc
colour_end_some (c ∷ s) h = omega arith

pub nil_of : (s : List ℕ) → is_nil s ≡ true → s ≡ []
nil_of [] h = refl
nil_of (c ∷ s) h = cc

pub colour_end-control : (s r : List ℕ) → is_colour_end s ≡ true → control_len (s ++ r) ≡ length s
colour_end-control [] r h = cc
colour_end-control (c ∷ s) r h = grind (
  arith,
  nat_tests,
  nil_of s,
  colour_end-control s r,
  one_more_pos (control_len (s ++ r)),
  colour_end_some s,
)

pub colour-sequence : (s r : List ℕ) → is_colour s ≡ true → sequence_len (s ++ r) ≡ length s
colour-sequence [] r h = cc
colour-sequence (c ∷ []) r h = grind (arith, nat_tests)
colour-sequence (c ∷ d ∷ s) r h = grind (
  arith,
  nat_tests,
  colour_end-control s r,
  colour_end_some s,
  one_more_pos (control_len (s ++ r)),
)

tokens_skip : (s r : List ℕ) → tokens_after (length s) (s ++ r) ≡ tokens_after 0 r
tokens_skip [] [] = refl
tokens_skip [] (c ∷ r) = refl
tokens_skip (c ∷ s) r = tokens_skip s r

-- a sequence at the front is the first token
pub tokens_sequence : (s r : List ℕ) → 0 < length s → sequence_len (s ++ r) ≡ length s → tokens (s ++ r) ≡ Sequence s
    ∷ tokens r
tokens_sequence [] r p h = absurd (omega arith)
tokens_sequence (c ∷ s) r p h =
    ap (λ (n : ℕ). elim n as (λ _. List Token) [
      | zero ↦ Character c ∷ tokens_after 0 (s ++ r)
      | suc k ↦ Sequence (take (suc k) (c ∷ (s ++ r))) ∷ tokens_after k (s ++ r)
    ]) h
    ∙ ap (λ xs. Sequence (c ∷ xs) ∷ tokens_after (length s) (s ++ r)) (take_at s r (length s) refl)
    ∙ ap (λ ts. Sequence (c ∷ s) ∷ ts) (tokens_skip s r)

pub tokens_character : (c : ℕ) (r : List ℕ) → sequence_len (c ∷ r) ≡ 0 → tokens (c ∷ r) ≡ Character c ∷ tokens r
tokens_character c r h =
    ap (λ (n : ℕ). elim n as (λ _. List Token) [
      | zero ↦ Character c ∷ tokens_after 0 r
      | suc k ↦ Sequence (take (suc k) (c ∷ r)) ∷ tokens_after k r
    ]) h

spell-after : (k : ℕ) (cs : List ℕ) → take k cs ++ spell (tokens_after k cs) ≡ cs
spell-after zero [] = refl
spell-after (suc k) [] = refl
spell-after (suc k) (c ∷ cs) = ap (λ xs. c ∷ xs) (spell-after k cs)
spell-after zero (c ∷ cs) =
    elim (sequence_len (c ∷ cs)) as (λ n. spell (elim n as (λ _. List Token) [
      | zero ↦ Character c ∷ tokens_after 0 cs
      | suc k ↦ Sequence (take (suc k) (c ∷ cs)) ∷ tokens_after k cs
    ]) ≡ c ∷ cs) [
      | zero ↦ ap (λ xs. c ∷ xs) (spell-after 0 cs)
      | suc k ↦ ap (λ xs. c ∷ xs) (spell-after k cs)
    ]

pub spell-tokens : (text : List ℕ) → spell (tokens text) ≡ text
spell-tokens text = spell-after 0 text
