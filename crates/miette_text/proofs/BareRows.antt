-- A row without its last spaces, and the signs that stand in those.
use Rattle.std.proofs.Common.{◌≡◌, ℕ, ◌+◌, ◌-◌, ◌<◌, ◌≤◌, List, ◌++◌, flat_map, length, take, drop, sym, ap, ◌∙◌, arith}
use Rattle.std.proofs.Common.{append-nil, length-drop}
use Rattle.std.proofs.lemmas.List.{drop_all, take_all}
use Rattle.miette_runs.proofs.Weaving.{left-upto, tags-upto}
use Rattle.miette_runs.specs.rules.Cells.{piece_text, tags_text}
use Rattle.miette_runs.specs.rules.Sequences.{spell}
use Rattle.miette_runs.specs.steps.Cells.{bare_cells}
use Rattle.miette_runs.specs.views.Interleaving.{beyond, cells_at, left_at, tags_spelled, upto}
use Rattle.miette_runs.specs.declared.runs.sign.Tag.{Tag}
use Rattle.miette_text.proofs.InterleavedCells.{cells-shown, left-parts}
use Rattle.miette_text.proofs.Joining.{spell-trimmed}
use Rattle.miette_text.specs.rules.Wrapping.{cell_tokens, trimmed_row}
use Rattle.miette_text.specs.steps.Ends.{bare_len}

-- what a row prints
abbrev pub row_text : ℕ → List ℕ → List Tag → List ℕ
row_text s cs ms = spell (trimmed_row (flat_map cell_tokens (cells_at s cs ms)))

-- a row that ends with no space
pub bare-row : (s n : ℕ) (cs : List ℕ) (ms : List Tag) → n ≡ bare_len (bare_cells cs) → length cs ≤ n
    → piece_text (cells_at s (take n cs) ms) ≡ row_text s cs ms
bare-row s n cs ms e l =
    let front = piece_text (cells_at s (take n cs) ms) in
    sym (spell-trimmed (cells_at s cs ms) ∙ cells-shown s n cs ms e
    ∙ ap (λ xs. front ++ tags_text (cells_at (s + n) xs (left_at s (take n cs) ms))) (drop_all n cs l)
    ∙ append-nil front)

pub bare-left : (s n : ℕ) (cs : List ℕ) (ms : List Tag) → length cs ≤ n → left_at s (take n cs) ms ≡ left_at s cs ms
bare-left s n cs ms l = ap (λ xs. left_at s xs ms) (take_all n cs l)

-- a row that ends with spaces: the signs up to the last place stand in it
pub spaced-row : (s n : ℕ) (cs : List ℕ) (ms : List Tag) → n ≡ bare_len (bare_cells (drop s cs)) → n
    < length (drop s cs) → piece_text (cells_at s (take n (drop s cs)) ms)
    ++ tags_spelled (upto (length cs - 1) (left_at s (take n (drop s cs)) ms)) ≡ row_text s (drop s cs) ms
spaced-row s n cs ms e l =
    let xs = drop s cs in
    let left = left_at s (take n xs) ms in
    let some : 0 < length (drop n xs) = omega (arith, length-drop {A = ℕ} n xs) in
    ap (λ us. piece_text (cells_at s (take n xs) ms) ++ us)
    (sym (tags-upto (s + n) (length cs - 1) (drop n xs) left some
    (omega (arith, length-drop {A = ℕ} n xs, length-drop {A = ℕ} s cs))))
    ∙ sym (spell-trimmed (cells_at s xs ms) ∙ cells-shown s n xs ms e)

pub spaced-left : (s n : ℕ) (cs : List ℕ) (ms : List Tag) → n < length (drop s cs) → beyond (length cs - 1)
    (left_at s (take n (drop s cs)) ms) ≡ left_at s (drop s cs) ms
spaced-left s n cs ms l =
    let xs = drop s cs in
    let some : 0 < length (drop n xs) = omega (arith, length-drop {A = ℕ} n xs) in
    sym (left-parts n s xs ms ∙ left-upto (s + n) (length cs - 1) (drop n xs) (left_at s (take n xs) ms) some
    (omega (arith, length-drop {A = ℕ} n xs, length-drop {A = ℕ} s cs)))
