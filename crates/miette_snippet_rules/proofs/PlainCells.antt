-- Cells of printable ASCII characters.
use Rattle.std.proofs.Common.{ℕ, zero, suc, ◌+◌, ◌≡◌, true, false, List, [], ◌∷◌, ◌++◌, length, take, drop, refl}
use Rattle.std.proofs.Common.{ap, ap₂, ◌∙◌, append-nil, arith}
use Rattle.std.specs.List.{list_all}
use Rattle.std.proofs.lemmas.Bool.{and_parts}
use Rattle.std.proofs.lemmas.List.{take_all, drop_all}
use Rattle.miette_columns.specs.rules.Cells.{Cell, cells_from, characters}
use Rattle.miette_columns.specs.rules.Widths.{width_of}
use Rattle.miette_columns.specs.views.Printable.{is_printable, plain_cells}
use Rattle.miette_columns.proofs.Stepping.{cells_end}
use Rattle.miette_columns.proofs.Plaining.{printable_then}

-- a character
abbrev pub cell_of_byte : ℕ → ℕ → ℕ → Cell
cell_of_byte b o c = record { code = b; start = o; after = o + 1; from = c; until = c + 1 }

-- their cells
pub printable_cells : (tab offset column : ℕ) (bs : List ℕ) → list_all is_printable bs ≡ true
    → cells_from width_of tab false offset column (characters bs) ≡ plain_cells offset column bs
printable_cells tab offset column bs h =
    let all : take (length bs) bs ≡ bs = take_all (length bs) bs (omega arith) in
    let none : drop (length bs) bs ≡ [] = drop_all (length bs) bs (omega arith) in
    printable_then tab offset column (length bs) bs (omega arith) (ap (list_all is_printable) all ∙ h)
    ∙ ap₂ (λ xs ys. plain_cells offset column xs
    ++ cells_from width_of tab false (offset + length bs) (column + length bs) (characters ys)) all none
    ∙ ap (λ cs. plain_cells offset column bs ++ cs)
    (cells_end width_of tab false (offset + length bs) (column + length bs) [] refl)
    ∙ append-nil (plain_cells offset column bs)

-- what is left after some of them
pub dropped : (n : ℕ) (bs : List ℕ) → list_all is_printable bs ≡ true → list_all is_printable (drop n bs) ≡ true
dropped zero bs h = h
dropped (suc n) [] h = refl
dropped (suc n) (b ∷ bs) h = dropped n bs (and_parts (is_printable b) (list_all is_printable bs) h).1
