-- Codes that are passed at once, where words lie between the places at which a line may be broken.
use Rattle.std.proofs.Common.{◌≡◌, ℕ, zero, suc, ◌+◌, Bool, true, false, not, ◌||◌, List, []}
use Rattle.std.proofs.Common.{◌∷◌, drop, drop-drop}
use Rattle.std.proofs.Common.{refl, sym, ap, ap₂, ◌∙◌, if◌then◌else◌, None, arith}
use Rattle.std.proofs.lemmas.Bool.Decides.{nat_tests}
use Rattle.std.specs.Char.{is_ascii_alphabetic}
use Rattle.std.specs.Option.{is_some}
use Rattle.miette_line_breaks.specs.declared.state.BreakState.{BreakState}
use Rattle.miette_line_breaks.specs.views.Places.{after_code, found_before, is_in_word}
use Rattle.miette_text.specs.rules.Wrapping.{is_hyphen}
use Rattle.miette_text.specs.steps.Ends.{letters_len}
use Rattle.miette_text.specs.views.Breaks.{passed_len, piece_len, state_at}

state-none : (s : BreakState) (n : ℕ) → state_at s n [] ≡ s
state-none s zero = refl
state-none s (suc n) = refl

pub state-more : (s : BreakState) (i n k : ℕ) (cs : List ℕ) → k ≡ i + n → state_at s k cs
    ≡ state_at (state_at s i cs) n (drop i cs)
state-more s zero n k cs e = ap (λ j. state_at s j cs) (omega (arith, e))
state-more s (suc i) n zero cs e = absurd (omega (arith, e))
state-more s (suc i) n (suc k) [] e = sym (state-none s n)
state-more s (suc i) n (suc k) (c ∷ cs) e = state-more (after_code s c) i n k cs (omega (arith, e))

-- `n` more are passed
pub piece-passes : (s : BreakState) (joined : Bool) (all i n : ℕ) (cs : List ℕ) →
    all ≡ i + piece_len s joined (drop i cs) →
    piece_len s joined (drop i cs) ≡ n + piece_len s joined (drop n (drop i cs)) →
    all ≡ (i + n) + piece_len s joined (drop (i + n) cs)
piece-passes s joined all i n cs a b =
    let rest = piece_len s joined (drop n (drop i cs)) in
    let d : drop n (drop i cs) ≡ drop (i + n) cs = drop-drop n i cs ∙ ap (λ k. drop k cs) (omega arith) in
    let e : all ≡ (i + n) + rest = omega (arith, a, b) in
    e ∙ ap (λ xs. (i + n) + piece_len s joined xs) d

pub state-passes : (start s : BreakState) (i n : ℕ) (cs : List ℕ) → s ≡ state_at start i cs →
    state_at s n (drop i cs) ≡ s → s ≡ state_at start (i + n) cs
state-passes start s i n cs a b =
    sym b ∙ ap (λ t. state_at t n (drop i cs)) a ∙ sym (state-more start i n (i + n) cs refl)

-- ---- letters in a row

letter-hyphen : (c : ℕ) → is_ascii_alphabetic c ≡ true → is_hyphen c ≡ false
letter-hyphen c h = grind (arith, nat_tests)

-- letters of ASCII change nothing
abbrev pub Passes : BreakState → Type 0
Passes s = (c : ℕ) → is_in_word s ≡ true → is_ascii_alphabetic c ≡ true
    → (found_before s c ≡ None) × (after_code s c ≡ s)

letters-piece : (s : BreakState) (cs : List ℕ) → Passes s → is_in_word s ≡ true →
    piece_len s false cs ≡ letters_len cs + piece_len s false (drop (letters_len cs) cs)
letters-piece s [] law h = omega arith
letters-piece s (c ∷ cs) law h = elim (is_ascii_alphabetic c) as (λ v. is_ascii_alphabetic c ≡ v →
    piece_len s false (c ∷ cs) ≡ (if v then suc (letters_len cs) else 0)
    + piece_len s false (drop (if v then suc (letters_len cs) else 0) (c ∷ cs))) [
      | true ↦ λ e.
          let r = law c h e in
          ap (λ o. if is_some o then 0 else suc (piece_len (after_code s c) (is_hyphen c) cs)) r.0
          ∙ ap₂ (λ t j. suc (piece_len t j cs)) r.1 (letter-hyphen c e)
          ∙ (let n = letters_len cs in
          let all : suc (piece_len s false cs) ≡ suc n + piece_len s false (drop n cs) =
          omega (arith, letters-piece s cs law h) in all)
      | false ↦ λ e. omega arith
    ] refl

letters-state : (s : BreakState) (cs : List ℕ) → Passes s → is_in_word s ≡ true → state_at s (letters_len cs) cs ≡ s
letters-state s [] law h = refl
letters-state s (c ∷ cs) law h = elim (is_ascii_alphabetic c) as (λ v. is_ascii_alphabetic c ≡ v →
    state_at s (if v then suc (letters_len cs) else 0) (c ∷ cs) ≡ s) [
      | true ↦ λ e. ap (λ t. state_at t (letters_len cs) cs) (law c h e).1 ∙ letters-state s cs law h
      | false ↦ λ e. refl
    ] refl

in_word : (joined word : Bool) → (joined || not word) ≡ false → (joined ≡ false) × (word ≡ true)
in_word true word h = absurd (cc)
in_word false true h = (refl, refl)
in_word false false h = absurd (cc)

pub passed-piece : (s : BreakState) (joined : Bool) (cs : List ℕ) → Passes s →
    piece_len s joined cs ≡ passed_len s joined cs + piece_len s joined (drop (passed_len s joined cs) cs)
passed-piece s joined cs law = elim (joined || not (is_in_word s)) as (λ v. (joined || not (is_in_word s)) ≡ v →
    piece_len s joined cs ≡ (if v then 0 else letters_len cs)
    + piece_len s joined (drop (if v then 0 else letters_len cs) cs)) [
      | true ↦ λ e. omega arith
      | false ↦ λ e.
          let r = in_word joined (is_in_word s) e in
          ap (λ j. piece_len s j cs) r.0 ∙ letters-piece s cs law r.1
          ∙ ap (λ j. letters_len cs + piece_len s j (drop (letters_len cs) cs)) (sym r.0)
    ] refl

pub passed-state : (s : BreakState) (joined : Bool) (cs : List ℕ) → Passes s → state_at s (passed_len s joined cs) cs
    ≡ s
passed-state s joined cs law = elim (joined || not (is_in_word s)) as (λ v. (joined || not (is_in_word s)) ≡ v →
    state_at s (if v then 0 else letters_len cs) cs ≡ s) [
      | true ↦ λ e. refl
      | false ↦ λ e. letters-state s cs law (in_word joined (is_in_word s) e).1
    ] refl
