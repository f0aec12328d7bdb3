-- Rows of characters that are one column wide.
use Rattle.std.proofs.Common.{ℕ, zero, suc, ◌+◌, ◌-◌, ◌<◌, ◌≡◌, false, ltb, eqb, List, [], ◌∷◌, ◌++◌, map, Some, refl}
use Rattle.std.proofs.Common.{ap, ◌∙◌, arith}
use Rattle.std.proofs.lemmas.Bool.{le-ltb, ne_eqb, eqb-true, eqb-false}
use Rattle.std.specs.List.{range_with_len}
use Rattle.miette_lines.proofs.Cases.{by_cases}
use Rattle.miette_style.specs.rules.Rows.{Glyph, glyph_columns, code_at}

pub code_at-here : (p : Glyph) (row : List Glyph) → p.columns ≡ 1 → code_at (p ∷ row) 0 ≡ Some p.code
code_at-here p row one = rw one refl

pub code_at-next : (p : Glyph) (row : List Glyph) (column : ℕ) → p.columns ≡ 1 → 0 < column → code_at (p ∷ row) column
    ≡ code_at row (column - 1)
code_at-next p row column one some =
    let a : eqb column 0 ≡ false = ne_eqb column 0 (λ e. omega (arith, e)) in
    let b : ltb column 1 ≡ false = le-ltb column 1 some in
    rw (one, a, b) refl

-- what stands in the front of a row that is made column by column
pub code_at-front : (f : ℕ → Glyph) (from many column : ℕ) (rest : List Glyph) → ((k : ℕ) → (f k).columns ≡ 1) → column
    < many → code_at (map f (range_with_len from many) ++ rest) column ≡ Some (f (from + column)).code
code_at-front f from zero column rest one lt = absurd (omega arith)
code_at-front f from (suc many) zero rest one lt =
    let e : from + zero ≡ from = omega arith in
    rw e (code_at-here (f from) (map f (range_with_len (from + 1) many) ++ rest) (one from))
code_at-front f from (suc many) (suc column) rest one lt =
    let e : from + suc column ≡ from + 1 + column = omega arith in
    let d : suc column - 1 ≡ column = omega arith in
    rw e (code_at-next (f from) (map f (range_with_len (from + 1) many) ++ rest) (suc column) (one from) (omega arith)
    ∙ ap (code_at (map f (range_with_len (from + 1) many) ++ rest)) d
    ∙ code_at-front f (from + 1) many column rest one (omega arith))

-- and after it
pub code_at-after : (f : ℕ → Glyph) (from many column : ℕ) (rest : List Glyph) → ((k : ℕ) → (f k).columns ≡ 1)
    → code_at (map f (range_with_len from many) ++ rest) (many + column) ≡ code_at rest column
code_at-after f from zero column rest one = let e : zero + column ≡ column = omega arith in ap (code_at rest) e
code_at-after f from (suc many) column rest one =
    let d : suc many + column - 1 ≡ many + column = omega arith in
    code_at-next (f from) (map f (range_with_len (from + 1) many) ++ rest) (suc many + column) (one from) (omega arith)
    ∙ ap (code_at (map f (range_with_len (from + 1) many) ++ rest)) d
    ∙ code_at-after f (from + 1) many column rest one

pub glyph_columns-map : (f : ℕ → Glyph) (from many : ℕ) → ((k : ℕ) → (f k).columns ≡ 1)
    → glyph_columns (map f (range_with_len from many)) ≡ many
glyph_columns-map f from zero one = refl
glyph_columns-map f from (suc many) one = omega (arith, one from, glyph_columns-map f (from + 1) many one)

pub glyph_columns-append : (a b : List Glyph) → glyph_columns (a ++ b) ≡ glyph_columns a + glyph_columns b
glyph_columns-append [] b = omega arith
glyph_columns-append (p ∷ a) b = omega (arith, glyph_columns-append a b)

-- what stands after any row
pub code_at-append : (a b : List Glyph) (column : ℕ) → code_at (a ++ b) (glyph_columns a + column) ≡ code_at b column
code_at-append [] b column = ap (code_at b) (omega arith)
code_at-append (p ∷ a) b column =
    let all : ℕ = p.columns + glyph_columns a + column in
    by_cases {C = code_at ((p ∷ a) ++ b) (glyph_columns (p ∷ a) + column) ≡ code_at b column} (eqb p.columns 0)
    (λ t. rw t (ap (code_at (a ++ b)) (omega (arith, eqb-true p.columns 0 t)) ∙ code_at-append a b column))
    (λ f. let some : 0 < p.columns = omega (arith, eqb-false p.columns 0 f) in
    let no : eqb (glyph_columns (p ∷ a) + column) 0 ≡ false =
    ne_eqb (glyph_columns (p ∷ a) + column) 0 (λ e. omega (arith, e)) in
    let no' : ltb (glyph_columns (p ∷ a) + column) p.columns ≡ false =
    le-ltb (glyph_columns (p ∷ a) + column) p.columns (omega arith) in
    rw (f, no, no') (ap (code_at (a ++ b)) (omega arith) ∙ code_at-append a b column))
