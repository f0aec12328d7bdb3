-- One step of a walk over a text's cells.
use Rattle.std.proofs.Common.{ℕ, ◌+◌, ◌<◌, ◌≡◌, Bool, List, [], ◌∷◌, map, length, drop, sym, ap, ◌∙◌}
use Rattle.bstr.specs.Utf8.{decoded, or_replacement, Decoded}
use Rattle.bstr.proofs.lemmas.PieceLemmas.{pieces-step, pieces-nil}
use Rattle.miette_columns.specs.rules.Cells.{Cell, Character, cells_from, characters, hides_next, width_at}

abbrev cell : ℕ → ℕ → ℕ → ℕ → ℕ → Cell
cell code start after from until = record { code = code; start = start; after = after; from = from; until = until }

abbrev pub character : Decoded → Character
character p = record { code = or_replacement p.char; bytes = p.size }

abbrev first_and_rest : (ℕ → ℕ) → ℕ → ℕ → ℕ → List ℕ → ℕ → ℕ → ℕ → Bool → List Cell
first_and_rest w tab offset column left code size until hides =
    cell code offset (offset + size) column until ∷ cells_from w tab hides (offset + size) until (characters left)

pub cells_step : (w : ℕ → ℕ) (tab : ℕ) (hidden hides : Bool) (offset column : ℕ) (bytes left : List ℕ)
    (code size width until : ℕ) → 0 < length bytes → left ≡ drop size bytes →
    code ≡ or_replacement (decoded bytes).char → size ≡ (decoded bytes).size → width ≡ width_at w tab hidden column code
    → until ≡ column + width → hides ≡ hides_next hidden code →
    cells_from w tab hidden offset column (characters bytes)
    ≡ first_and_rest w tab offset column left code size until hides
cells_step w tab hidden hides offset column bytes left code size width until some l c s k u h =
    let d : Decoded = decoded bytes in
    ap (λ ps. cells_from w tab hidden offset column (map character ps)) (pieces-step bytes some)
    ∙ ap (λ x. first_and_rest w tab offset column (drop d.size bytes) x d.size (column + width_at w tab hidden column x)
    (hides_next hidden x)) (sym c)
    ∙ ap (λ x. first_and_rest w tab offset column (drop x bytes) code x (column + width_at w tab hidden column code)
    (hides_next hidden code)) (sym s)
    ∙ ap (λ x. first_and_rest w tab offset column (drop size bytes) code size x (hides_next hidden code))
    (sym (u ∙ ap (λ n. column + n) k))
    ∙ ap (λ x. first_and_rest w tab offset column (drop size bytes) code size until x) (sym h)
    ∙ ap (λ x. first_and_rest w tab offset column x code size until hides) (sym l)

pub cells_end : (w : ℕ → ℕ) (tab : ℕ) (hidden : Bool) (offset column : ℕ) (bytes : List ℕ) → bytes ≡ []
    → cells_from w tab hidden offset column (characters bytes) ≡ []
cells_end w tab hidden offset column bytes e =
    ap (λ bs. cells_from w tab hidden offset column (characters bs)) e
    ∙ ap (λ ps. cells_from w tab hidden offset column (map character ps)) pieces-nil

abbrev pub made : ℕ → ℕ → Character
made code size = record { code = code; bytes = size }

-- the first character of some bytes, and those after it
pub record IsFirst (bytes left : List ℕ) (code size : ℕ) : Type 0 where
  pub some : 0 < length bytes
  pub left_is : left ≡ drop size bytes
  pub code_is : code ≡ or_replacement (decoded bytes).char
  pub size_is : size ≡ (decoded bytes).size

pub characters_step : (bytes left : List ℕ) (code size : ℕ) → IsFirst bytes left code size → characters bytes
    ≡ made code size ∷ characters left
characters_step bytes left code size h =
    let d : Decoded = decoded bytes in
    ap (λ ps. map character ps) (pieces-step bytes h.some)
    ∙ ap (λ x. made x d.size ∷ characters (drop d.size bytes)) (sym h.code_is)
    ∙ ap (λ x. made code x ∷ characters (drop x bytes)) (sym h.size_is)
    ∙ ap (λ x. made code size ∷ characters x) (sym h.left_is)

pub characters_end : (bytes : List ℕ) → bytes ≡ [] → characters bytes ≡ []
characters_end bytes e = ap characters e ∙ ap (λ ps. map character ps) pieces-nil
