-- The first word, and a row without its last spaces.
use Rattle.std.proofs.Common.{◌≡◌, ℕ, suc, Bool, true, false, not, ◌&&◌, List, [], ◌∷◌, ◌++◌, length, take, drop, refl}
use Rattle.std.proofs.Common.{sym, ap, ap₂, ◌∙◌, append_assoc, if◌then◌else◌}
use Rattle.std.specs.List.{concat}
use Rattle.miette_text.specs.rules.Wrapping.{Word, is_space}
use Rattle.miette_runs.specs.rules.Cells.{TaggedChar, piece_text, tags_text}
use Rattle.miette_text.specs.steps.Ends.{all_spaces, bare_len, spaced_words, with_letter, with_space}
use Rattle.miette_text.proofs.RowTexts.{shown}

-- ---- the first word

abbrev pub until_len : (ℕ → Bool) → List TaggedChar → ℕ
until_len stop [] = 0
until_len stop (c ∷ cs) = if stop c.code then 0 else suc (until_len stop cs)

abbrev pub letters_len : List TaggedChar → ℕ
letters_len = until_len is_space

abbrev pub spaces_len : List TaggedChar → ℕ
spaces_len [] = 0
spaces_len (c ∷ cs) = if is_space c.code then suc (spaces_len cs) else 0

abbrev cut : ℕ → ℕ → List TaggedChar → List Word
cut n m cs = record { letters = take n cs; spaces = take m (drop n cs) } ∷ spaced_words (drop m (drop n cs))

pub space_letter : (c d : TaggedChar) (ws : List Word) → with_space c (with_letter d ws)
    ≡ record { letters = []; spaces = c ∷ [] } ∷ with_letter d ws
space_letter c d [] = refl
space_letter c d (w ∷ ws) = refl

space_word : (c : TaggedChar) (cs : List TaggedChar) → with_space c (spaced_words cs)
    ≡ record { letters = []; spaces = c ∷ take (spaces_len cs) cs } ∷ spaced_words (drop (spaces_len cs) cs)
space_word c [] = refl
space_word c (d ∷ ds) =
    elim (is_space d.code) as (λ b. is_space d.code ≡ b → with_space c
    (if b then with_space d (spaced_words ds) else with_letter d (spaced_words ds))
    ≡ record { letters = []; spaces = c ∷ take (if b then suc (spaces_len ds) else 0) (d ∷ ds) }
    ∷ spaced_words (drop (if b then suc (spaces_len ds) else 0) (d ∷ ds))) [
      | true ↦ λ e. ap (with_space c) (space_word d ds)
      | false ↦ λ e. space_letter c d (spaced_words ds) ∙ ap (λ (b : Bool). record { letters = []; spaces = c ∷ [] }
          ∷ (if b then with_space d (spaced_words ds) else with_letter d (spaced_words ds))) (sym e)
    ] refl

first_space : (c : TaggedChar) (cs : List TaggedChar) → is_space c.code ≡ true → with_space c (spaced_words cs)
    ≡ cut 0 (spaces_len (c ∷ cs)) (c ∷ cs)
first_space c cs e = space_word c cs ∙ ap (λ (b : Bool). cut 0 (if b then suc (spaces_len cs) else 0) (c ∷ cs)) (sym e)

abbrev first : List TaggedChar → List Word
first cs = cut (letters_len cs) (spaces_len (drop (letters_len cs) cs)) cs

pub words-first : (c : TaggedChar) (cs : List TaggedChar) → spaced_words (c ∷ cs) ≡ first (c ∷ cs)
words-first c [] =
    elim (is_space c.code) as (λ b. is_space c.code ≡ b → (if b then with_space c [] else with_letter c [])
    ≡ cut (if b then 0 else 1) (spaces_len (drop (if b then 0 else 1) (c ∷ []))) (c ∷ [])) [
      | true ↦ λ e. first_space c [] e
      | false ↦ λ e. refl
    ] refl
words-first c (d ∷ ds) =
    elim (is_space c.code) as (λ b. is_space c.code ≡ b →
    (if b then with_space c (spaced_words (d ∷ ds)) else with_letter c (spaced_words (d ∷ ds)))
    ≡ cut (if b then 0 else suc (letters_len (d ∷ ds))) (spaces_len
    (drop (if b then 0 else suc (letters_len (d ∷ ds))) (c ∷ d ∷ ds))) (c ∷ d ∷ ds)) [
      | true ↦ λ e. first_space c (d ∷ ds) e
      | false ↦ λ e. ap (with_letter c) (words-first d ds)
    ] refl

-- ---- a row without its last spaces

pub and-right : (a b : Bool) → (a && b) ≡ true → b ≡ true
and-right true b e = e
and-right false true e = refl
and-right false false e = e

shown-spaces : (cs : List TaggedChar) → all_spaces cs ≡ true → shown cs ≡ tags_text cs
shown-spaces [] e = refl
shown-spaces (c ∷ cs) e =
    ap (λ (b : Bool). concat c.tags ++ ((if not b then c.code ∷ [] else []) ++ shown cs)) e
    ∙ ap (λ (xs : List ℕ). concat c.tags ++ xs) (shown-spaces cs (and-right (is_space c.code) (all_spaces cs) e))

pub shown-bare : (cs : List TaggedChar) → shown cs ≡ piece_text (take (bare_len cs) cs)
    ++ tags_text (drop (bare_len cs) cs)
shown-bare [] = refl
shown-bare (c ∷ cs) =
    elim (is_space c.code && all_spaces cs) as (λ b. (is_space c.code && all_spaces cs) ≡ b → concat c.tags
    ++ ((if not b then c.code ∷ [] else []) ++ shown cs)
    ≡ piece_text (take (if b then 0 else suc (bare_len cs)) (c ∷ cs))
    ++ tags_text (drop (if b then 0 else suc (bare_len cs)) (c ∷ cs))) [
      | true ↦ λ e. ap (λ (xs : List ℕ). concat c.tags ++ xs)
          (shown-spaces cs (and-right (is_space c.code) (all_spaces cs) e))
      | false ↦ λ e.
          sym (append_assoc (concat c.tags) (c.code ∷ []) (shown cs))
          ∙ ap (λ (xs : List ℕ). (concat c.tags ++ c.code ∷ []) ++ xs) (shown-bare cs)
          ∙ sym (append_assoc (concat c.tags ++ c.code ∷ []) (piece_text (take (bare_len cs) cs))
          (tags_text (drop (bare_len cs) cs)))
    ] refl

spaces-snoc : (cs : List TaggedChar) (c : TaggedChar) → all_spaces (cs ++ c ∷ []) ≡ (all_spaces cs && is_space c.code)
spaces-snoc [] c = elim (is_space c.code) as (λ b. (b && true) ≡ b) [ true ↦ refl | false ↦ refl ]
spaces-snoc (d ∷ ds) c = elim (is_space d.code) as (λ b. (b && all_spaces (ds ++ c ∷ []))
    ≡ ((b && all_spaces ds) && is_space c.code)) [
      | true ↦ spaces-snoc ds c
      | false ↦ refl
    ]

pub bare-space : (cs : List TaggedChar) (c : TaggedChar) → is_space c.code ≡ true → bare_len (cs ++ c ∷ [])
    ≡ bare_len cs
bare-space [] c e = ap (λ (b : Bool). if b && true then 0 else 1) e
bare-space (d ∷ ds) c e =
    ap₂ (λ (b : Bool) (n : ℕ). if is_space d.code && b then 0 else suc n)
    (spaces-snoc ds c ∙ ap (λ (b : Bool). all_spaces ds && b) e) (bare-space ds c e)
    ∙ elim (all_spaces ds) as (λ b. (if is_space d.code && (b && true) then 0 else suc (bare_len ds))
    ≡ (if is_space d.code && b then 0 else suc (bare_len ds))) [ true ↦ refl | false ↦ refl ]

pub bare-letter : (cs : List TaggedChar) (c : TaggedChar) → is_space c.code ≡ false → bare_len (cs ++ c ∷ [])
    ≡ suc (length cs)
bare-letter [] c e = ap (λ (b : Bool). if b && true then 0 else 1) e
bare-letter (d ∷ ds) c e =
    ap₂ (λ (b : Bool) (n : ℕ). if is_space d.code && b then 0 else suc n)
    (spaces-snoc ds c ∙ ap (λ (b : Bool). all_spaces ds && b) e) (bare-letter ds c e)
    ∙ elim (all_spaces ds) as (λ b. (if is_space d.code && (b && false) then 0 else suc (suc (length ds)))
    ≡ suc (suc (length ds))) [
      | true ↦ elim (is_space d.code) as (λ b. (if b && false then 0 else suc (suc (length ds)))
          ≡ suc (suc (length ds))) [ true ↦ refl | false ↦ refl ]
      | false ↦ elim (is_space d.code) as (λ b. (if b && false then 0 else suc (suc (length ds)))
          ≡ suc (suc (length ds))) [ true ↦ refl | false ↦ refl ]
    ]
