-- A tame text is cut into the tokens that it is spelled by, and colours can be deleted token by token.
use Rattle.std.proofs.Common.{◌≡◌, ℕ, zero, suc, ◌<◌, true, false, ◌||◌, ◌==◌, List, [], ◌∷◌, ◌++◌, length, refl, ap}
use Rattle.std.proofs.Common.{◌∙◌, arith, eqb-true, inl, inr, if◌then◌else◌}
use Rattle.std.proofs.lemmas.Bool.{and_parts, or_cases}
use Rattle.std.proofs.lemmas.Bool.Decides.{nat_tests}
use Rattle.miette_runs.specs.rules.Sequences.{Token, Character, Sequence, tokens, spell, erase, erase_after}
use Rattle.miette_runs.specs.rules.Sequences.{command_len, colour_end_len, sequence_len, after_escape_len, colour_len}
use Rattle.miette_runs.specs.rules.Sequences.{after_colour_escape_len}
use Rattle.miette_style.specs.rules.Escapes.{is_escape}
use Rattle.miette_text.specs.laws.Tame.{TameState, Free, Escaped, Opened, Waiting, Untamed, tame_step, tame_after}
use Rattle.miette_runs.specs.rules.Colours.{is_colour, is_colour_end, is_link, is_link_after, is_link_end}
use Rattle.miette_runs.specs.rules.Colours.{is_backslash}
use Rattle.miette_text.proofs.ErasedTokens.{erased}
use Rattle.miette_runs.proofs.Tokens.{one_more_pos, colour_end_some, nil_of, colour-sequence, tokens_sequence}
use Rattle.miette_runs.proofs.Tokens.{tokens_character}

pub colour_end-colour : (s r : List ℕ) → is_colour_end s ≡ true → colour_end_len (s ++ r) ≡ length s
colour_end-colour [] r h = cc
colour_end-colour (c ∷ s) r h = grind (
  arith,
  nat_tests,
  nil_of s,
  colour_end-colour s r,
  one_more_pos (colour_end_len (s ++ r)),
  colour_end_some s,
)

link_end_some : (s : List ℕ) → is_link_end s ≡ true → 0 < length s
link_end_some [] h = cc
link_end_some (c ∷ s) h = omega arith

backslash_of : (s : List ℕ) → is_backslash s ≡ true → s ≡ 92 ∷ []
backslash_of [] h = cc
backslash_of (c ∷ s) h = grind (arith, nat_tests, nil_of s)

pub link_end-command : (s r : List ℕ) → is_link_end s ≡ true → command_len (s ++ r) ≡ length s
link_end-command [] r h = cc
link_end-command (c ∷ s) r h = grind (
  arith,
  nat_tests,
  nil_of s,
  backslash_of s,
  link_end-command s r,
  one_more_pos (command_len (s ++ r)),
  link_end_some s,
)

-- what a sequence is
pub colour_len_of : (s r : List ℕ) → is_colour s ≡ true → colour_len (s ++ r) ≡ length s
colour_len_of [] r h = cc
colour_len_of (c ∷ []) r h = grind (arith, nat_tests)
colour_len_of (c ∷ d ∷ s) r h = grind (
  arith,
  nat_tests,
  colour_end-colour s r,
  colour_end_some s,
  one_more_pos (colour_end_len (s ++ r)),
)

pub link-sequence : (s r : List ℕ) → is_link s ≡ true → sequence_len (s ++ r) ≡ length s
link-sequence [] r h = cc
link-sequence (c ∷ []) r h = grind (arith, nat_tests)
link-sequence (c ∷ d ∷ s) r h = grind (
  arith,
  nat_tests,
  link_end-command s r,
  link_end_some s,
  one_more_pos (command_len (s ++ r)),
)

erase_skip : (s r : List ℕ) → erase_after (length s) (s ++ r) ≡ erase_after 0 r
erase_skip [] [] = refl
erase_skip [] (c ∷ r) = refl
erase_skip (c ∷ s) r = erase_skip s r

pub erase_colour : (s r : List ℕ) → 0 < length s → colour_len (s ++ r) ≡ length s → erase (s ++ r) ≡ erase r
erase_colour [] r p h = absurd (omega arith)
erase_colour (c ∷ s) r p h =
    ap (λ (n : ℕ). elim n as (λ _. List ℕ) [ zero ↦ c ∷ erase_after 0 (s ++ r) | suc k ↦ erase_after k (s ++ r) ]) h
    ∙ erase_skip s r

pub erase_character : (c : ℕ) (r : List ℕ) → colour_len (c ∷ r) ≡ 0 → erase (c ∷ r) ≡ c ∷ erase r
erase_character c r h =
    ap (λ (n : ℕ). elim n as (λ _. List ℕ) [ zero ↦ c ∷ erase_after 0 r | suc k ↦ erase_after k r ]) h

-- ---- characters that begin nothing

plain_colour : (c : ℕ) (r : List ℕ) → is_escape c ≡ false → colour_len (c ∷ r) ≡ 0
plain_colour c r h = grind (arith, nat_tests)

pub erase_plain : (c : ℕ) (r : List ℕ) → is_escape c ≡ false → erase (c ∷ r) ≡ c ∷ erase r
erase_plain c r h = erase_character c r (plain_colour c r h)

erase_backslash : (s r : List ℕ) → is_backslash s ≡ true → erase (s ++ r) ≡ s ++ erase r
erase_backslash s r h = rw (backslash_of s h) (erase_plain 92 r refl)

colour_backslash : (c : ℕ) (s r : List ℕ) → is_backslash s ≡ true → colour_len (c ∷ (s ++ r)) ≡ 0
colour_backslash c s r h = rw (backslash_of s h) (grind (arith, nat_tests))

erase_link_end : (s r : List ℕ) → is_link_end s ≡ true → erase (s ++ r) ≡ s ++ erase r
erase_link_end [] r h = cc
erase_link_end (c ∷ s) r h = grind (
  arith,
  nat_tests,
  nil_of s,
  erase_plain c (s ++ r),
  erase_character c (s ++ r),
  colour_backslash c s r,
  erase_backslash s r,
  erase_link_end s r,
)

pub erase_link : (s r : List ℕ) → is_link s ≡ true → erase (s ++ r) ≡ s ++ erase r
erase_link [] r h = cc
erase_link (c ∷ []) r h = grind (arith, nat_tests)
erase_link (c ∷ d ∷ s) r h =
    let p = and_parts (is_escape c) (is_link_after (d ∷ s)) h in
    let q = and_parts (d == 93) (is_link_end s) p.1 in
    let c_is : c ≡ 27 = eqb-true _ _ p.0 in
    let d_is : d ≡ 93 = eqb-true _ _ q.0 in
    rw (c_is, d_is) (erase_character 27 (93 ∷ (s ++ r)) refl
    ∙ ap (λ xs. 27 ∷ xs) (erase_plain 93 (s ++ r) refl ∙ ap (λ xs. 93 ∷ xs) (erase_link_end s r q.1)))

-- ---- tame texts

pub broken_stays : (ts : List Token) → tame_after Untamed ts ≡ Untamed
broken_stays [] = refl
broken_stays (Character c ∷ ts) = broken_stays ts
broken_stays (Sequence s ∷ ts) = broken_stays ts

-- what is after an `ESC ]` that isn't finished on its line
opened_command : (ts : List Token) → tame_after Opened ts ≡ Free → command_len (spell ts) ≡ 0
opened_command [] h = refl
opened_command (Sequence s ∷ ts) h = cc (broken_stays ts)
opened_command (Character c ∷ ts) h = grind (arith, nat_tests, broken_stays ts, opened_command ts)

escaped_sequence : (ts : List Token) → tame_after Escaped ts ≡ Free → after_escape_len (spell ts) ≡ 0
escaped_sequence [] h = refl
escaped_sequence (Sequence s ∷ ts) h = cc (broken_stays ts)
escaped_sequence (Character c ∷ ts) h = grind (arith, nat_tests, broken_stays ts, opened_command ts)

escaped_colour : (ts : List Token) → tame_after Escaped ts ≡ Free → after_colour_escape_len (spell ts) ≡ 0
escaped_colour [] h = refl
escaped_colour (Sequence s ∷ ts) h = cc (broken_stays ts)
escaped_colour (Character c ∷ ts) h = grind (arith, nat_tests, broken_stays ts)

character_sequence : (s : TameState) (c : ℕ) (ts : List Token) → tame_after (tame_step s (Character c)) ts ≡ Free
    → sequence_len (c ∷ spell ts) ≡ 0
character_sequence Free c ts h = grind (arith, nat_tests, escaped_sequence ts)
character_sequence Escaped c ts h = grind (arith, nat_tests, broken_stays ts)
character_sequence Opened c ts h = grind (arith, nat_tests, broken_stays ts)
character_sequence Waiting c ts h = grind (arith, nat_tests, escaped_sequence ts)
character_sequence Untamed c ts h = cc (broken_stays ts)

character_colour : (s : TameState) (c : ℕ) (ts : List Token) → tame_after (tame_step s (Character c)) ts ≡ Free
    → colour_len (c ∷ spell ts) ≡ 0
character_colour Free c ts h = grind (arith, nat_tests, escaped_colour ts)
character_colour Escaped c ts h = grind (arith, nat_tests, broken_stays ts)
character_colour Opened c ts h = grind (arith, nat_tests, broken_stays ts)
character_colour Waiting c ts h = grind (arith, nat_tests, escaped_colour ts)
character_colour Untamed c ts h = cc (broken_stays ts)

colour_some : (s : List ℕ) → is_colour s ≡ true → 0 < length s
colour_some [] h = cc
colour_some (c ∷ s) h = omega arith

link_some : (s : List ℕ) → is_link s ≡ true → 0 < length s
link_some [] h = cc
link_some (c ∷ s) h = omega arith

-- a sequence is a colour or a link's
sequence_allowed : (s : TameState) (q : List ℕ) (ts : List Token) → tame_after (tame_step s (Sequence q)) ts ≡ Free
    → (is_colour q || is_link q) ≡ true
sequence_allowed Free q ts h = grind (arith, nat_tests, broken_stays ts)
sequence_allowed Escaped q ts h = cc (broken_stays ts, h)
sequence_allowed Opened q ts h = cc (broken_stays ts, h)
sequence_allowed Waiting q ts h = grind (arith, nat_tests, broken_stays ts)
sequence_allowed Untamed q ts h = cc (broken_stays ts, h)

allowed_some : (q : List ℕ) → (is_colour q || is_link q) ≡ true → 0 < length q
allowed_some q h = elim (or_cases (is_colour q) (is_link q) h) [ inl a ↦ colour_some q a | inr a ↦ link_some q a ]

allowed_sequence : (q r : List ℕ) → (is_colour q || is_link q) ≡ true → sequence_len (q ++ r) ≡ length q
allowed_sequence q r h = elim (or_cases (is_colour q) (is_link q) h)
    [ inl a ↦ colour-sequence q r a | inr a ↦ link-sequence q r a ]

-- The tokens of what such tokens spell are those tokens.
pub tokens-spell : (s : TameState) (ts : List Token) → tame_after s ts ≡ Free → tokens (spell ts) ≡ ts
tokens-spell s [] h = refl
tokens-spell s (Character c ∷ ts) h =
    tokens_character c (spell ts) (character_sequence s c ts h)
    ∙ ap (λ us. Character c ∷ us) (tokens-spell (tame_step s (Character c)) ts h)
tokens-spell s (Sequence q ∷ ts) h =
    let p = sequence_allowed s q ts h in
    tokens_sequence q (spell ts) (allowed_some q p) (allowed_sequence q (spell ts) p)
    ∙ ap (λ us. Sequence q ∷ us) (tokens-spell (tame_step s (Sequence q)) ts h)

-- Colours can be deleted token by token.
pub erase-spell : (s : TameState) (ts : List Token) → tame_after s ts ≡ Free → erase (spell ts) ≡ spell (erased ts)
erase-spell s [] h = refl
erase-spell s (Character c ∷ ts) h =
    erase_character c (spell ts) (character_colour s c ts h)
    ∙ ap (λ us. c ∷ us) (erase-spell (tame_step s (Character c)) ts h)
erase-spell s (Sequence q ∷ ts) h =
    let p = sequence_allowed s q ts h in
    let rest = erase-spell (tame_step s (Sequence q)) ts h in
    elim (is_colour q) as (λ b. is_colour q ≡ b → erase (q ++ spell ts)
    ≡ spell (if b then erased ts else Sequence q ∷ erased ts)) [
      | true ↦ λ a. erase_colour q (spell ts) (colour_some q a) (colour_len_of q (spell ts) a) ∙ rest
      | false ↦ λ a. erase_link q (spell ts) (rw a at p) ∙ ap (λ us. q ++ us) rest
    ] refl
