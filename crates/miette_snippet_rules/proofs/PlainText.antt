-- Texts of printable ASCII characters.
use Rattle.std.proofs.Common.{ℕ, ◌+◌, ◌-◌, ◌<◌, ◌≤◌, ◌≡◌, true, false, leb, ltb, List, [], ◌∷◌, ◌++◌, length, refl, sym}
use Rattle.std.proofs.Common.{ap, ap₂, ◌∙◌, arith, take, drop}
use Rattle.std.specs.List.{list_all, prefix_len}
use Rattle.std.proofs.lemmas.Bool.{leb-true, ltb-true, le-ltb, lt-leb, ltb-false, leb-false}
use Rattle.std.proofs.lemmas.List.{take_all, length-take-le}
use Rattle.miette_snippet_rules.specs.rules.PrintedCells.{first_column, last_column, cells_width}
use Rattle.miette_columns.specs.rules.Cells.{Cell, cells_from, characters}
use Rattle.miette_columns.specs.rules.Widths.{width_of}
use Rattle.miette_snippet_rules.specs.rules.SnippetLayout.{text_of_cells}
use Rattle.miette_snippet_rules.specs.rules.Underlines.{MeasuredText}
use Rattle.miette_columns.specs.views.Printable.{is_printable, plain_cells}
use Rattle.miette_lines.proofs.Cases.{by_cases}
use Rattle.miette_columns.proofs.Plaining.{printable_then}
use Rattle.miette_columns.proofs.Prefixes.{prefix_taken}

-- columns in them
pub plain_first : (offset column : ℕ) (bs : List ℕ) (cs : List Cell) (e w o : ℕ) → o - offset < length bs → column
    + (o - offset) ≡ first_column (plain_cells offset column bs ++ cs) e w o
plain_first offset column [] cs e w o h = absurd (omega arith)
plain_first offset column (b ∷ bs) cs e w o h =
    by_cases {C = column + (o - offset) ≡ first_column (plain_cells offset column (b ∷ bs) ++ cs) e w o}
    (ltb o (offset + 1))
    (λ y. let lt : o < offset + 1 = ltb-true o (offset + 1) y in rw y (omega arith))
    (λ n. let ge : offset + 1 ≤ o = ltb-false o (offset + 1) n in
    rw n (omega arith ∙ plain_first (offset + 1) (column + 1) bs cs e w o (omega arith)))

pub plain_first_end : (offset column : ℕ) (bs : List ℕ) (cs : List Cell) (e w o : ℕ) → length bs ≤ o - offset
    → first_column cs e w o ≡ first_column (plain_cells offset column bs ++ cs) e w o
plain_first_end offset column [] cs e w o h = refl
plain_first_end offset column (b ∷ bs) cs e w o h = rw (le-ltb o (offset + 1) (omega arith))
    (plain_first_end (offset + 1) (column + 1) bs cs e w o (omega arith))

pub plain_last : (offset column : ℕ) (bs : List ℕ) (cs : List Cell) (e w o : ℕ) → o - offset < length bs → column
    + (o - offset) ≡ last_column (plain_cells offset column bs ++ cs) e w o
plain_last offset column [] cs e w o h = absurd (omega arith)
plain_last offset column (b ∷ bs) cs e w o h =
    by_cases {C = column + (o - offset) ≡ last_column (plain_cells offset column (b ∷ bs) ++ cs) e w o} (leb o offset)
    (λ y. let le : o ≤ offset = leb-true o offset y in rw y (omega arith))
    (λ n. let gt : offset < o = leb-false o offset n in rw n
    (omega arith ∙ plain_last (offset + 1) (column + 1) bs cs e w o (omega arith)))

pub plain_last_end : (offset column : ℕ) (bs : List ℕ) (cs : List Cell) (e w o : ℕ) → length bs ≤ o - offset
    → last_column cs e w o ≡ last_column (plain_cells offset column bs ++ cs) e w o
plain_last_end offset column [] cs e w o h = refl
plain_last_end offset column (b ∷ bs) cs e w o h = rw (lt-leb o offset (omega arith))
    (plain_last_end (offset + 1) (column + 1) bs cs e w o (omega arith))

-- `n` of them come first
pub first_printable : (n : ℕ) (bs : List ℕ) → n ≡ prefix_len is_printable bs → list_all is_printable (take n bs) ≡ true
first_printable n bs is =
    ap (λ k. list_all is_printable (take k bs)) is
    ∙ ap (λ ys. list_all is_printable (take (prefix_len is_printable ys) bs))
    (sym (take_all (length bs) bs (omega arith)))
    ∙ prefix_taken is_printable (length bs) bs

-- the columns of cells with those in front of them
pub width_then : (o c : ℕ) (bs : List ℕ) (cs : List Cell) → cells_width (c + length bs) cs
    ≡ cells_width c (plain_cells o c bs ++ cs)
width_then o c [] cs = let none : c + 0 ≡ c = omega arith in ap (λ n. cells_width n cs) none
width_then o c (b ∷ bs) cs =
    let many : c + length (b ∷ bs) ≡ c + 1 + length bs = omega arith in
    ap (λ n. cells_width n cs) many ∙ width_then (o + 1) (c + 1) bs cs

-- where they stand, and what comes after them
pub plain_text : (tab offset e n w : ℕ) (bs plain : List ℕ) (rest : List Cell) → n ≤ length bs → n
    ≡ prefix_len is_printable bs → plain ≡ take n bs →
    rest ≡ cells_from width_of tab false (offset + n) n (characters (drop n bs)) → w ≡ cells_width n rest →
    record { cells = plain_cells offset 0 plain ++ rest; text_end = e; width = w }
    ≡ text_of_cells (cells_from width_of tab false offset 0 (characters bs)) e
plain_text tab offset e n w bs plain rest le is p r width =
    let made : List Cell → ℕ → MeasuredText = λ cs k. record { cells = cs; text_end = e; width = k } in
    let many : n ≡ 0 + length (take n bs) = omega (arith, length-take-le n bs le) in
    let front : n ≡ 0 + n = omega arith in
    let whole : plain_cells offset 0 plain ++ rest ≡ cells_from width_of tab false offset 0 (characters bs) =
    ap₂ (λ xs cs. plain_cells offset 0 xs ++ cs) p (r
    ∙ ap (λ k. cells_from width_of tab false (offset + n) k (characters (drop n bs))) front)
    ∙ sym (printable_then tab offset 0 n bs le (first_printable n bs is)) in
    let columns : w ≡ cells_width 0 (plain_cells offset 0 plain ++ rest) =
    width ∙ ap (λ k. cells_width k rest) many ∙ width_then offset 0 (take n bs) rest
    ∙ ap (λ xs. cells_width 0 (plain_cells offset 0 xs ++ rest)) (sym p) in
    ap (made (plain_cells offset 0 plain ++ rest)) columns ∙ ap (λ cs. text_of_cells cs e) whole
