-- Loops that count up to the end of a sequence.
use Rattle.std.proofs.Common.{◌≡◌, ℕ, zero, suc, ◌+◌, ◌<◌, false, List, [], ◌∷◌, ◌++◌, length, take, drop, get_or, refl}
use Rattle.std.proofs.Common.{sym, ap, ◌∙◌, arith, append_assoc, drop-drop}
use Rattle.std.proofs.lemmas.Bool.Decides.{nat_tests}
use Rattle.std.proofs.lemmas.List.{drop_more}
use Rattle.miette_runs.specs.rules.Sequences.{command_len, one_more, is_line_feed, is_bell, begins_terminator}
use Rattle.miette_runs.specs.rules.Sequences.{sequence_len, Token, Character, Sequence, tokens, tokens_after}

-- i more, where there is any
abbrev pub counted : ℕ → ℕ → ℕ
counted i zero = 0
counted i (suc n) = i + suc n

counted_more : (i n : ℕ) → counted i (one_more n) ≡ counted (i + 1) n
counted_more i zero = refl
counted_more i (suc n) = omega arith

-- the same of commands
command_at : (c : ℕ) (cs : List ℕ) (i : ℕ) → is_line_feed c ≡ false → is_bell c ≡ false → begins_terminator (c ∷ cs)
    ≡ false → counted i (command_len (c ∷ cs)) ≡ counted (i + 1) (command_len cs)
command_at c cs i h k t = grind (arith, nat_tests, counted_more i (command_len cs))

pub command_step : (cs : List ℕ) (i : ℕ) → i < length cs → is_line_feed (get_or cs i 0) ≡ false
    → is_bell (get_or cs i 0) ≡ false → begins_terminator (drop i cs) ≡ false → counted i (command_len (drop i cs))
    ≡ counted (i + 1) (command_len (drop (i + 1) cs))
command_step cs i l h k t = ap (λ xs. counted i (command_len xs)) (drop_more cs i 0 l)
    ∙ command_at (get_or cs i 0) (drop (i + 1) cs) i h k (ap begins_terminator (sym (drop_more cs i 0 l)) ∙ t)

-- a text from its next token on
pub tokens_later : (k : ℕ) (cs : List ℕ) → tokens_after k cs ≡ tokens (drop k cs)
tokens_later zero [] = refl
tokens_later zero (c ∷ cs) = refl
tokens_later (suc k) [] = refl
tokens_later (suc k) (c ∷ cs) = tokens_later k cs

tokens_step : (c : ℕ) (cs : List ℕ) (n : ℕ) → sequence_len (c ∷ cs) ≡ suc n → tokens (c ∷ cs) ≡ Sequence (c ∷ take n cs)
    ∷ tokens (drop n cs)
tokens_step c cs n h =
    ap (λ (n : ℕ). elim n as (λ _. List Token) [
      | zero ↦ Character c ∷ tokens_after 0 cs
      | suc k ↦ Sequence (take (suc k) (c ∷ cs)) ∷ tokens_after k cs
    ]) h
    ∙ ap (λ ts. Sequence (c ∷ take n cs) ∷ ts) (tokens_later n cs)

-- a whole sequence is the next token
pub tokens_past : (cs : List ℕ) (n : ℕ) → 0 < n → sequence_len cs ≡ n → tokens cs ≡ Sequence (take n cs)
    ∷ tokens (drop n cs)
tokens_past [] n p h = absurd (omega arith)
tokens_past (c ∷ cs) zero p h = absurd (omega arith)
tokens_past (c ∷ cs) (suc n) p h = tokens_step c cs n h

-- the steps of the loop that cuts
pub cut_sequence : (front : List Token) (cs : List ℕ) (i n : ℕ) → 0 < n → sequence_len (drop i cs) ≡ n
    → (front ++ Sequence (take n (drop i cs)) ∷ []) ++ tokens (drop (i + n) cs) ≡ front ++ tokens (drop i cs)
cut_sequence front cs i n p h =
    append_assoc front (Sequence (take n (drop i cs)) ∷ []) (tokens (drop (i + n) cs))
    ∙ ap (λ ts. front ++ ts) (ap (λ xs. Sequence (take n (drop i cs)) ∷ tokens xs) (sym (drop-drop n i cs))
    ∙ sym (tokens_past (drop i cs) n p h))
