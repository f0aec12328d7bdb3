-- The rows of a line, from the front.
use Rattle.std.proofs.Common.{◌≡◌, ℕ, ◌+◌, ◌<◌, ◌≤◌, List, [], ◌∷◌, ◌++◌, map, length, take, drop, refl, ap, ap₂, ◌∙◌}
use Rattle.std.proofs.Common.{append-nil, arith, length-drop}
use Rattle.std.proofs.Math.ListN.{drop_of_length-le}
use Rattle.miette_text.specs.rules.Wrapping.{Word, rows}
use Rattle.miette_runs.specs.rules.Cells.{TaggedChar}
use Rattle.miette_text.specs.steps.Ends.{row_cells, rows_left, IsFirstRow}
use Rattle.miette_runs.specs.views.Interleaving.{cells_at, left_at}
use Rattle.miette_runs.specs.declared.runs.sign.Tag.{Tag}
use Rattle.miette_text.proofs.RowTexts.{joined_lines, lines_of, shown}
use Rattle.miette_text.proofs.LineWise.{rows-some}
use Rattle.miette_text.proofs.InterleavedCells.{cells-codes, cells-take, cells-drop}

-- what the rows of what is left of a line print, where it has these codes
abbrev pub rows_text : (List TaggedChar → List Word) → List ℕ → ℕ → ℕ → ℕ → List ℕ → List Tag → List ℕ
rows_text left further room room' at codes ms =
    joined_lines [] further (lines_of [] (map row_cells (rows room room' (left (cells_at at codes ms)))))

rows-split : (left after : List TaggedChar → List Word) (room room' n at : ℕ) (codes : List ℕ) (ms : List Tag)
    → IsFirstRow left after room codes n →
    map row_cells (rows room room' (left (cells_at at codes ms)))
    ≡ cells_at at (take n codes) ms ∷ rows_left after room'
    (cells_at (at + n) (drop n codes) (left_at at (take n codes) ms))
rows-split left after room room' n at codes ms f =
    f (cells_at at codes ms) room' (cells-codes at codes ms)
    ∙ ap₂ (λ us vs. us ∷ rows_left after room' vs) (cells-take n at codes ms) (cells-drop n at codes ms)

two-rows : (further : List ℕ) (r : List TaggedChar) (rs : List (List TaggedChar)) → 0 < length rs
    → joined_lines [] further (lines_of [] (r ∷ rs)) ≡ shown r
    ++ ((10 ∷ further) ++ joined_lines [] further (lines_of [] rs))
two-rows further r [] l = absurd (omega arith)
two-rows further r (s ∷ []) l = refl
two-rows further r (s ∷ t ∷ ts) l = refl

one-row : (further : List ℕ) (r : List TaggedChar) → joined_lines [] further (lines_of [] (r ∷ [])) ≡ shown r
one-row further r = append-nil (shown r ++ []) ∙ append-nil (shown r)

left-rows : (left : List TaggedChar → List Word) (room at : ℕ) (further codes : List ℕ) (ms : List Tag)
    (r : List TaggedChar) → 0
    < length codes →
    joined_lines [] further (lines_of [] (r ∷ rows_left left room (cells_at at codes ms))) ≡ shown r
    ++ ((10 ∷ further) ++ rows_text left further room room at codes ms)
left-rows left room at further [] ms r l = absurd (omega arith)
left-rows left room at further (c ∷ cs) ms r l =
    two-rows further r (map row_cells (rows room room (left (cells_at at (c ∷ cs) ms))))
    (rows-some room room (left (cells_at at (c ∷ cs) ms)))

pub row-printed : (left after : List TaggedChar → List Word) (further : List ℕ) (room room' n at : ℕ) (codes : List ℕ)
    (ms : List Tag) → IsFirstRow left after room codes n → n < length codes →
    rows_text left further room room' at codes ms
    ≡ shown (cells_at at (take n codes) ms) ++ ((10 ∷ further)
    ++ rows_text after further room' room' (at + n) (drop n codes) (left_at at (take n codes) ms))
row-printed left after further room room' n at codes ms f l =
    ap (λ rs. joined_lines [] further (lines_of [] rs)) (rows-split left after room room' n at codes ms f)
    ∙ left-rows after room' (at + n) further (drop n codes) (left_at at (take n codes) ms)
    (cells_at at (take n codes) ms) (omega (arith, length-drop {A = ℕ} n codes))

pub last-printed : (left after : List TaggedChar → List Word) (further : List ℕ) (room room' n at : ℕ) (codes : List ℕ)
    (ms : List Tag) → IsFirstRow left after room codes n → length codes ≤ n →
    rows_text left further room room' at codes ms ≡ shown (cells_at at (take n codes) ms)
last-printed left after further room room' n at codes ms f l =
    ap (λ rs. joined_lines [] further (lines_of [] rs)) (rows-split left after room room' n at codes ms f
    ∙ ap (λ xs. cells_at at (take n codes) ms ∷ rows_left after room'
    (cells_at (at + n) xs (left_at at (take n codes) ms))) (drop_of_length-le codes l))
    ∙ one-row further (cells_at at (take n codes) ms)
