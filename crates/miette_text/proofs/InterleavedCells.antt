-- The cells of characters with tags between them: a beginning, the rest, and a row without its last spaces.
use Rattle.std.proofs.Common.{◌≡◌, ℕ, zero, suc, ◌+◌, ◌-◌, ◌<◌, ◌≤◌, Bool, false, ◌&&◌, List, [], ◌∷◌, ◌++◌, map}
use Rattle.std.proofs.Common.{length, take, drop, get_or, refl, sym, ap, ap₂, ◌∙◌, if◌then◌else◌, arith}
use Rattle.std.proofs.Common.{length-take}
use Rattle.std.proofs.lemmas.Bool.Decides.{nat_tests}
use Rattle.std.proofs.lemmas.List.{map_more, length-map}
use Rattle.std.specs.List.{concat}
use Rattle.miette_text.specs.rules.Wrapping.{is_space}
use Rattle.miette_runs.specs.rules.Cells.{TaggedChar, piece_text, tags_text}
use Rattle.miette_runs.specs.steps.Cells.{plain_cell, bare_cells}
use Rattle.miette_text.specs.steps.Ends.{all_spaces, bare_len, codes_of}
use Rattle.miette_runs.specs.views.Interleaving.{beyond, cells_at, left_at, tag_text, tags_spelled, upto}
use Rattle.miette_runs.specs.declared.runs.sign.Tag.{Tag}
use Rattle.miette_text.proofs.RowTexts.{shown}
use Rattle.miette_text.proofs.Ending.{shown-bare, bare-space, bare-letter}

-- ---- a beginning and the rest

pub cells-codes : (at : ℕ) (cs : List ℕ) (ms : List Tag) → codes_of (cells_at at cs ms) ≡ cs
cells-codes at [] ms = refl
cells-codes at (c ∷ cs) ms = ap (λ xs. c ∷ xs) (cells-codes (suc at) cs (beyond at ms))

pub cells-take : (n at : ℕ) (cs : List ℕ) (ms : List Tag) → take n (cells_at at cs ms) ≡ cells_at at (take n cs) ms
cells-take zero at cs ms = refl
cells-take (suc n) at [] ms = refl
cells-take (suc n) at (c ∷ cs) ms = ap (λ xs. record { tags = map tag_text (upto at ms); code = c } ∷ xs)
    (cells-take n (suc at) cs (beyond at ms))

drop-left : (n at : ℕ) (cs : List ℕ) (ms : List Tag) → (drop n (cells_at at cs ms)
    ≡ cells_at (at + n) (drop n cs) (left_at at (take n cs) ms)) × (left_at at cs ms
    ≡ left_at (at + n) (drop n cs) (left_at at (take n cs) ms))
drop-left zero at cs ms = (ap (λ k. cells_at k cs ms) (omega arith), ap (λ k. left_at k cs ms) (omega arith))
drop-left (suc n) at [] ms = (refl, refl)
drop-left (suc n) at (c ∷ cs) ms =
    let left = left_at (suc at) (take n cs) (beyond at ms) in
    let rest = drop-left n (suc at) cs (beyond at ms) in (
      rest.0 ∙ ap (λ k. cells_at k (drop n cs) left) (omega arith),
      rest.1
          ∙ ap (λ k. left_at k (drop n cs) left) (omega arith),
    )

pub cells-drop : (n at : ℕ) (cs : List ℕ) (ms : List Tag) → drop n (cells_at at cs ms)
    ≡ cells_at (at + n) (drop n cs) (left_at at (take n cs) ms)
cells-drop n at cs ms = (drop-left n at cs ms).0

pub left-parts : (n at : ℕ) (cs : List ℕ) (ms : List Tag) → left_at at cs ms
    ≡ left_at (at + n) (drop n cs) (left_at at (take n cs) ms)
left-parts n at cs ms = (drop-left n at cs ms).1

-- ---- a row without its last spaces

spaces-codes : (cs : List TaggedChar) → all_spaces cs ≡ all_spaces (bare_cells (codes_of cs))
spaces-codes [] = refl
spaces-codes (c ∷ cs) = ap (λ v. is_space c.code && v) (spaces-codes cs)

pub bare-codes : (cs : List TaggedChar) → bare_len cs ≡ bare_len (bare_cells (codes_of cs))
bare-codes [] = refl
bare-codes (c ∷ cs) = ap₂ (λ (v : Bool) (n : ℕ). if is_space c.code && v then 0 else suc n) (spaces-codes cs)
    (bare-codes cs)

pub cells-bare : (at : ℕ) (cs : List ℕ) (ms : List Tag) → bare_len (cells_at at cs ms) ≡ bare_len (bare_cells cs)
cells-bare at cs ms = bare-codes (cells_at at cs ms) ∙ ap (λ xs. bare_len (bare_cells xs)) (cells-codes at cs ms)

pub cells-shown : (at n : ℕ) (cs : List ℕ) (ms : List Tag) → n ≡ bare_len (bare_cells cs) →
    shown (cells_at at cs ms) ≡ piece_text (cells_at at (take n cs) ms)
    ++ tags_text (cells_at (at + n) (drop n cs) (left_at at (take n cs) ms))
cells-shown at n cs ms e =
    shown-bare (cells_at at cs ms)
    ∙ ap (λ k. piece_text (take k (cells_at at cs ms)) ++ tags_text (drop k (cells_at at cs ms)))
    (cells-bare at cs ms ∙ sym e)
    ∙ ap₂ (λ us vs. piece_text us ++ tags_text vs) (cells-take n at cs ms) (cells-drop n at cs ms)

plain_taken : (row : List ℕ) (n d : ℕ) → 0 < n → n ≤ length row → bare_cells (take n row)
    ≡ bare_cells (take (n - 1) row) ++ plain_cell (get_or row (n - 1) d) ∷ []
plain_taken row n d h k = ap (λ m. bare_cells (take m row)) (omega arith)
    ∙ map_more plain_cell row (n - 1) d (omega arith)

pub plain_shorter : (row : List ℕ) (n d : ℕ) → 0 < n → n ≤ length row → get_or row (n - 1) d ≡ 32
    → bare_len (bare_cells (take (n - 1) row)) ≡ bare_len (bare_cells (take n row))
plain_shorter row n d h k e = sym (ap bare_len (plain_taken row n d h k)
    ∙ bare-space (bare_cells (take (n - 1) row)) (plain_cell (get_or row (n - 1) d)) (ap is_space e))

not_space : (c : ℕ) → (c ≡ 32 → ⊥) → is_space c ≡ false
not_space c h = grind (arith, nat_tests)

pub plain_found : (row : List ℕ) (n d : ℕ) → 0 < n → n ≤ length row → (get_or row (n - 1) d ≡ 32 → ⊥) → n
    ≡ bare_len (bare_cells (take n row))
plain_found row n d h k e =
    let l : suc (length (bare_cells (take (n - 1) row))) ≡ n =
    omega (arith, length-map (take (n - 1) row) plain_cell, length-take {A = ℕ} (n - 1) row) in
    sym (ap bare_len (plain_taken row n d h k) ∙ bare-letter (bare_cells (take (n - 1) row))
    (plain_cell (get_or row (n - 1) d)) (not_space (get_or row (n - 1) d) e) ∙ l)

-- ---- what tags print

pub spelled-flat : (ms : List Tag) → concat (map tag_text ms) ≡ tags_spelled ms
spelled-flat [] = refl
spelled-flat (m ∷ ms) = ap (λ us. tag_text m ++ us) (spelled-flat ms)
