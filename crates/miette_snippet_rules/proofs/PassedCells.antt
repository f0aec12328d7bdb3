-- Columns of offsets after the cells that are passed.
use Rattle.std.proofs.Common.{ℕ, zero, suc, ◌+◌, ◌-◌, ◌<◌, ◌≤◌, ◌≡◌, Bool, false, ltb, leb, List, [], ◌∷◌, ◌++◌, map}
use Rattle.std.proofs.Common.{length, drop, refl, sym, ap, subst, ◌∙◌, arith}
use Rattle.std.proofs.lemmas.Bool.{le-ltb, lt-leb}
use Rattle.std.proofs.lemmas.List.{length-drop}
use Rattle.bstr.specs.Utf8.{decoded, pieces, or_replacement, Decoded}
use Rattle.bstr.proofs.lemmas.PieceLemmas.{pieces-step, pieces-nil, piece-bounds}
use Rattle.miette_snippet_rules.specs.rules.PrintedCells.{first_column, last_column, cells_width}
use Rattle.miette_columns.specs.rules.Cells.{Cell, cells_from, characters, hides_next, width_at}
use Rattle.miette_columns.specs.declared.cells.PlainCells.{PlainCells}
use Rattle.miette_columns.specs.views.Printable.{plain_cells}
use Rattle.miette_columns.specs.views.Walking.{ComeFirst}
use Rattle.miette_snippet_rules.specs.declared.line_scan.LineScan.{LineScan}
use Rattle.miette_snippet_rules.specs.views.LineScans.{ComeFrom, HasScanned}
use Rattle.miette_snippet_rules.proofs.PlainText.{plain_first_end, plain_last_end, width_then}

first_later : (cell : Cell) (left : List Cell) (e w o : ℕ) → cell.after ≤ o → first_column left e w o
    ≡ first_column (cell ∷ left) e w o
first_later cell left e w o le = let f : ltb o cell.after ≡ false = le-ltb o cell.after le in rw f refl

last_later : (cell : Cell) (left : List Cell) (e w o : ℕ) → cell.start < o → last_column left e w o
    ≡ last_column (cell ∷ left) e w o
last_later cell left e w o lt = let f : leb o cell.start ≡ false = lt-leb o cell.start lt in rw f refl

-- a step of a walk
pub first_passed : (cell : Cell) (walk left : List Cell) (e w o : ℕ) → walk ≡ cell ∷ left → cell.after ≤ o
    → first_column left e w o ≡ first_column walk e w o
first_passed cell walk left e w o is le = first_later cell left e w o le ∙ ap (λ cs. first_column cs e w o) (sym is)

pub last_passed : (cell : Cell) (walk left : List Cell) (e w o : ℕ) → walk ≡ cell ∷ left → cell.start < o
    → last_column left e w o ≡ last_column walk e w o
last_passed cell walk left e w o is lt = last_later cell left e w o lt ∙ ap (λ cs. last_column cs e w o) (sym is)

-- the columns so far
pub width_passed : (cell : Cell) (walk left : List Cell) (column : ℕ) → walk ≡ cell ∷ left → cells_width cell.until left
    ≡ cells_width column walk
width_passed cell walk left column is = sym (ap (cells_width column) is)

-- cells that are left
pub cells_left : (at : ℕ) (cell : Cell) (walk left : List Cell) → walk ≡ cell ∷ left → ComeFrom at walk
    → (at ≤ cell.start) × (cell.start < cell.after) × ComeFrom cell.after left
cells_left at cell walk left is h = subst (λ (cs : List Cell). ComeFrom at cs) is h

-- each character has a byte
abbrev AreSized : List Decoded → Type 0
AreSized [] = Unit {0}
AreSized (p ∷ ps) = (1 ≤ p.size) × AreSized ps

sized : (f : ℕ) (bytes : List ℕ) → length bytes ≤ f → AreSized (pieces bytes)
sized f [] le = subst (λ (ps : List Decoded). AreSized ps) (sym pieces-nil) tt
sized zero (b ∷ bs) le = absurd (omega (arith, le))
sized (suc f) (b ∷ bs) le =
    let some : 0 < length (b ∷ bs) = omega arith in
    let size : 1 ≤ (decoded (b ∷ bs)).size = (piece-bounds (b ∷ bs) some).0 in
    subst (λ (ps : List Decoded). AreSized ps) (sym (pieces-step (b ∷ bs) some)) (
      size,
      sized f (drop (decoded (b ∷ bs)).size (b ∷ bs))
          (omega (arith, length-drop (decoded (b ∷ bs)).size (b ∷ bs), size, le)),
    )

sized_cells : (w : ℕ → ℕ) (tab : ℕ) (hidden : Bool) (at o column : ℕ) (ps : List Decoded) → at ≤ o → AreSized ps →
    ComeFrom at (cells_from w tab hidden o column (map (λ p. record { code = or_replacement p.char; bytes = p.size })
    ps))
sized_cells w tab hidden at o column [] le h = h
sized_cells w tab hidden at o column (p ∷ ps) le h =
    let code : ℕ = or_replacement p.char in (
      le,
      omega (arith, h.0),
      sized_cells w tab (hides_next hidden code) (o + p.size) (o + p.size)
          (column + width_at w tab hidden column code) ps (omega arith) h.1,
    )

pub cells_come : (w : ℕ → ℕ) (tab : ℕ) (hidden : Bool) (o column : ℕ) (bytes : List ℕ)
    → ComeFrom 0 (cells_from w tab hidden o column (characters bytes))
cells_come w tab hidden o column bytes = sized_cells w tab hidden 0 o column (pieces bytes) (omega arith)
    (sized (length bytes) bytes (omega arith))

-- the same, from the offset at which they begin
pub cells_come_from : (w : ℕ → ℕ) (tab : ℕ) (hidden : Bool) (o column : ℕ) (bytes : List ℕ)
    → ComeFrom o (cells_from w tab hidden o column (characters bytes))
cells_come_from w tab hidden o column bytes = sized_cells w tab hidden o o column (pieces bytes) (omega arith)
    (sized (length bytes) bytes (omega arith))

-- ---- what is passed

-- a cell
pub passed_cell : (cells : List Cell) (cell : Cell) (p q : LineScan) → p.walk ≡ cell ∷ q.walk → q.reached ≡ cell.after
    → HasScanned cells p → HasScanned cells q
passed_cell cells cell p q step r h =
    let left = cells_left p.reached cell p.walk q.walk step h.come in
    record {
      same = λ e w o le. (
        first_passed cell p.walk q.walk e w o step (omega (arith, r, le))
            ∙ (h.same e w o (omega (arith, r, left.0, left.1, le))).0,
        last_passed cell p.walk q.walk e w o step (omega (arith, r, left.1, le))
            ∙ (h.same e w o (omega (arith, r, left.0, left.1, le))).1,
      );
      come = subst (λ n. ComeFrom n q.walk) (sym r) left.2;
    }

come_after : (at o c : ℕ) (bs : List ℕ) (cs : List Cell) → 0 < length bs → ComeFrom at (plain_cells o c bs ++ cs)
    → (at ≤ o) × ComeFrom (o + length bs) cs
come_after at o c [] cs some h = absurd (omega (arith, some))
come_after at o c (b ∷ []) cs some h = (h.0, h.2)
come_after at o c (b ∷ d ∷ bs) cs some h =
    let rest = come_after (o + 1) (o + 1) (c + 1) (d ∷ bs) cs (omega arith) h.2 in
    let many : o + 1 + length (d ∷ bs) ≡ o + length (b ∷ d ∷ bs) = omega arith in
    (h.0, subst (λ n. ComeFrom n cs) many rest.1)

-- cells of printable ASCII
pub passed_plain : (cells : List Cell) (first : PlainCells) (p q : LineScan) → ComeFirst first p.walk q.walk → 0
    < first.many → q.reached ≡ first.start + first.many → HasScanned cells p → HasScanned cells q
passed_plain cells first p q f some r h =
    let come = come_after p.reached first.start first.from f.bytes q.walk (omega (arith, some, f.many))
    (subst (λ (cs : List Cell). ComeFrom p.reached cs) f.cells_are h.come) in
    let after : first.start + length f.bytes ≡ q.reached = omega (arith, r, f.many) in
    record {
      same = λ e w o le.
          let past : length f.bytes ≤ o - first.start = omega (arith, r, le, f.many) in
          let here = h.same e w o (omega (arith, r, le, come.0)) in (
            plain_first_end first.start first.from f.bytes q.walk e w o past
                ∙ ap (λ cs. first_column cs e w o) (sym f.cells_are) ∙ here.0,
            plain_last_end first.start first.from f.bytes q.walk e w o past
                ∙ ap (λ cs. last_column cs e w o) (sym f.cells_are) ∙ here.1,
          );
      come = subst (λ n. ComeFrom n q.walk) after come.1;
    }

-- the columns of a line with what is passed of it
width_anyway : (k o c : ℕ) (bs : List ℕ) (cs : List Cell) → 0 < length bs → cells_width k (plain_cells o c bs ++ cs)
    ≡ cells_width (c + length bs) cs
width_anyway k o c [] cs some = absurd (omega (arith, some))
width_anyway k o c (b ∷ bs) cs some = sym (width_then o c (b ∷ bs) cs)

pub width_plain : (first : PlainCells) (walk left : List Cell) (old new : ℕ) → ComeFirst first walk left → 0
    < first.many → new ≡ first.from + first.many → cells_width new left ≡ cells_width old walk
width_plain first walk left old new f some n =
    let many : new ≡ first.from + length f.bytes = omega (arith, n, f.many) in
    ap (λ k. cells_width k left) many
    ∙ sym (width_anyway old first.start first.from f.bytes left (omega (arith, some, f.many)))
    ∙ ap (cells_width old) (sym f.cells_are)
