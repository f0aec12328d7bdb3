-- The stretches of printable ASCII, by the ends of the line alone.
use Rattle.std.proofs.Common.{ℕ, zero, suc, ◌+◌, ◌-◌, ◌<◌, ◌≤◌, ◌≡◌, Bool, true, false, cond, ltb, eqb}
use Rattle.std.proofs.Common.{List, [], ◌∷◌, ◌++◌, map, length, drop, refl, sym, ap, ap₂, subst, ◌∙◌, arith}
use Rattle.std.specs.List.{list_all}
use Rattle.std.proofs.lemmas.Bool.{and_parts, lt-ltb}
use Rattle.std.proofs.lemmas.Bool.Decides.{nat_tests}
use Rattle.std.proofs.lemmas.List.{drop-drop, length-drop}
use Rattle.miette_columns.specs.declared.cells.PlainCells.{PlainCells}
use Rattle.miette_columns.specs.views.Walking.{ComeFirst}
use Rattle.miette_columns.specs.rules.Cells.{Cell}
use Rattle.miette_columns.specs.views.Printable.{is_printable, plain_cells}
use Rattle.miette_columns.proofs.Plaining.{plain_byte}
use Rattle.miette_snippet_rules.specs.rules.PrintedCells.{text_bytes}
use Rattle.miette_snippet_rules.specs.rules.CutLines.{agree, is_near_after, line_parts}
use Rattle.miette_snippet_rules.specs.declared.line_part.LinePart.{LinePart as MadePart}
use Rattle.miette_snippet_rules.specs.views.Cuts.{measure}
use Rattle.miette_snippet_cuts.specs.steps.LineParts.{lone, prepend_made, even, cell_at}
use Rattle.miette_snippet_cuts.specs.declared.nearness.CutSettings.{CutSettings}
use Rattle.miette_snippet_cuts.specs.steps.Nearness.{LineEnds, near_by}
use Rattle.miette_snippet_cuts.proofs.CutStretches.{first_stretch, onto-same}
use Rattle.miette_snippet_rules.proofs.PlainCells.{cell_of_byte, dropped}

-- ---- cells of one column

pub near_column : (room : CutSettings) (es : List ℕ) (b o c : ℕ) → near_by room es (cell_of_byte b o c)
    ≡ near_by room es (cell_at c)
near_column room [] b o c = refl
near_column room (e ∷ es) b o c = refl

one_byte : (b : ℕ) → is_printable b ≡ true → text_bytes b ≡ 1
one_byte b h = let p = plain_byte b h in let low : ltb b 128 ≡ true = lt-ltb b 128 (omega (arith, p.high)) in
    rw low refl

agree_own : (v : Bool) → agree v v ≡ true
agree_own true = refl
agree_own false = refl

-- the first of them
even_cell : (room : CutSettings) (es : List ℕ) (v before : Bool) (b o c : ℕ) (bs : List ℕ) (cs : List Cell)
    → is_printable b
    ≡ true → near_by room es (cell_at c) ≡ v →
    map measure (line_parts (near_by room es) before (plain_cells o c (b ∷ bs) ++ cs))
    ≡ prepend_made (even v 1) (map measure (line_parts (near_by room es) v (plain_cells (o + 1) (c + 1) bs ++ cs)))
even_cell room es v before b o c bs cs h near =
    let cell : Cell = cell_of_byte b o c in
    let wide : eqb c (c + 1) ≡ false = apart c in
    let here : is_near_after (near_by room es) before cell ≡ v = ap (λ x. cond x before (near_by room es cell)) wide
    ∙ near_column room es b o c ∙ near in
    let one : (c + 1) - c ≡ 1 = omega arith in
    let first : even v 1 ≡ lone (is_near_after (near_by room es) before cell) cell =
    sym (ap (λ x. lone x cell) here ∙ ap (λ n. made v 1 n (text_bytes b)) one ∙ ap (λ n. made v 1 1 n) (one_byte b h))
    in
    sym (first_stretch (near_by room es) before cell (cell ∷ plain_cells (o + 1) (c + 1) bs ++ cs)
    (plain_cells (o + 1) (c + 1) bs ++ cs) (even v 1) refl first)
  where
    apart : (n : ℕ) → eqb n (n + 1) ≡ false
    apart n = grind (arith, nat_tests)

    made : Bool → ℕ → ℕ → ℕ → MadePart
    made shown cells columns bytes = record { shown = shown; cells = cells; columns = columns; bytes = bytes }

-- as many of them as are as near as the first
pub even_cells : (room : CutSettings) (es : List ℕ) (v before : Bool) (n o c : ℕ) (bs : List ℕ) (cs : List Cell)
    → list_all is_printable bs ≡ true → 0 < n → n ≤ length bs →
    ((x : ℕ) → c ≤ x → x < c + n → near_by room es (cell_at x) ≡ v) →
    map measure (line_parts (near_by room es) before (plain_cells o c bs ++ cs))
    ≡ prepend_made (even v n) (map measure (line_parts (near_by room es) v
    (plain_cells (o + n) (c + n) (drop n bs) ++ cs)))
even_cells room es v before zero o c bs cs h some le near = absurd (omega (arith, some))
even_cells room es v before (suc n) o c [] cs h some le near = absurd (omega (arith, le))
even_cells room es v before (suc zero) o c (b ∷ bs) cs h some le near =
    let parts = and_parts (is_printable b) (list_all is_printable bs) h in
    even_cell room es v before b o c bs cs parts.0 (near c (omega arith) (omega arith))
even_cells room es v before (suc (suc n)) o c (b ∷ bs) cs h some le near =
    let parts = and_parts (is_printable b) (list_all is_printable bs) h in
    let rest : ℕ → ℕ → List MadePart = λ p q. map measure
    (line_parts (near_by room es) v (plain_cells p q (drop (suc n) bs) ++ cs)) in
    let at : o + 1 + suc n ≡ o + suc (suc n) = omega arith in
    let column : c + 1 + suc n ≡ c + suc (suc n) = omega arith in
    let many : 1 + suc n ≡ suc (suc n) = omega arith in
    even_cell room es v before b o c bs cs parts.0 (near c (omega arith) (omega arith))
    ∙ ap (prepend_made (even v 1)) (even_cells room es v v (suc n) (o + 1) (c + 1) bs cs parts.1 (omega arith)
    (omega (arith, le)) (λ x lo lt. near x (omega (arith, lo)) (omega (arith, lt))))
    ∙ onto-same (even v 1) (even v (suc n)) (rest (o + 1 + suc n) (c + 1 + suc n)) (agree_own v)
    ∙ ap (λ k. prepend_made (even v k) (rest (o + 1 + suc n) (c + 1 + suc n))) many
    ∙ ap₂ (λ p q. prepend_made (even v (suc (suc n))) (rest p q)) at column

-- ---- stretch by stretch

-- what a stretch is found to be
pub record IsEven (room : CutSettings) (es : List ℕ) (column most : ℕ) (s : MadePart) : Type 0 where
  pub even : s ≡ even s.shown s.cells
  pub some : 0 < s.cells
  pub within : column + s.cells ≤ most
  pub alike : (x : ℕ) → column ≤ x → x < column + s.cells → near_by room es (cell_at x) ≡ s.shown

-- the stretches of those of these cells that stand from a column on, and of the cells after them
abbrev pub made_after : CutSettings → List ℕ → Bool → PlainCells → List ℕ → List Cell → ℕ → List MadePart
made_after room es near first bs cs column = map measure (line_parts (near_by room es) near
    (plain_cells (first.start + (column - first.from)) column (drop (column - first.from) bs) ++ cs))

found_even : (room : CutSettings) (es : List ℕ) (before : Bool) (first : PlainCells) (bs : List ℕ) (cs : List Cell)
    (column : ℕ)
    (s : MadePart) → list_all is_printable bs ≡ true → first.from ≤ column → IsEven room es column (first.from
    + length bs) s → made_after room es before first bs cs column
    ≡ prepend_made s (made_after room es s.shown first bs cs (column + s.cells))
found_even room es before first bs cs column s h from is =
    let i : ℕ = column - first.from in
    let many : length (drop i bs) ≡ length bs - i = length-drop i bs in
    let next : i + s.cells ≡ column + s.cells - first.from = omega (arith, from) in
    let left : drop s.cells (drop i bs) ≡ drop (column + s.cells - first.from) bs = drop-drop s.cells i bs
    ∙ ap (λ k. drop k bs) next in
    let at : first.start + i + s.cells ≡ first.start + (column + s.cells - first.from) = omega (arith, from) in
    even_cells room es s.shown before s.cells (first.start + i) column (drop i bs) cs (dropped i bs h) is.some
    (omega (arith, is.within, many, from)) is.alike
    ∙ ap₂ (λ p xs. prepend_made (even s.shown s.cells) (map measure
    (line_parts (near_by room es) s.shown (plain_cells p (column + s.cells) xs ++ cs)))) at left
    ∙ ap (λ (m : MadePart). prepend_made m (made_after room es s.shown first bs cs (column + s.cells))) (sym is.even)

pub even_more : (room : CutSettings) (es : List ℕ) (first : PlainCells) (bs : List ℕ) (cs : List Cell) (column : ℕ)
    (made new whole : List MadePart) (reached next later : MadePart) → list_all is_printable bs ≡ true
    → first.from ≤ column → IsEven room es column (first.from + length bs) next → later.shown ≡ next.shown →
    ((rest : List MadePart) → new ++ prepend_made later rest ≡ made ++ prepend_made reached (prepend_made next rest)) →
    made ++ prepend_made reached (made_after room es reached.shown first bs cs column) ≡ whole →
    new ++ prepend_made later (made_after room es later.shown first bs cs (column + next.cells)) ≡ whole
even_more room es first bs cs column made new whole reached next later h from is same put inv =
    ap (λ n. new ++ prepend_made later (made_after room es n first bs cs (column + next.cells))) same
    ∙ put (made_after room es next.shown first bs cs (column + next.cells))
    ∙ ap (λ r. made ++ prepend_made reached r) (sym (found_even room es reached.shown first bs cs column next h from
    is))
    ∙ inv

-- what is put after the last stretch that was reached
abbrev pub PutsPlain : LineEnds → PlainCells → List MadePart → List MadePart → MadePart → MadePart → Type 0
PutsPlain ends first made new reached later = (bytes : List ℕ) (rest : List Cell) → list_all is_printable bytes ≡ true
    → length bytes ≡ first.many → new ++ prepend_made later (map measure
    (line_parts (near_by ends.room ends.ends) later.shown rest)) ≡ made ++ prepend_made reached
    (map measure (line_parts (near_by ends.room ends.ends) reached.shown (plain_cells first.start first.from bytes
    ++ rest)))

pub puts_plain : (ends whole : LineEnds) (first : PlainCells) (made new : List MadePart)
    (reached later : MadePart) → ends ≡ whole → PutsPlain ends first made new reached later →
    PutsPlain whole first made new reached later
puts_plain ends whole first made new reached later e h =
    subst (λ (v : LineEnds). PutsPlain v first made new reached later) e h

-- a line's stretches after those of these cells
pub plain_put : (room : CutSettings) (es : List ℕ) (first : PlainCells) (walk left : List Cell)
    (made new whole : List MadePart) (reached later : MadePart) → (f : ComeFirst first walk left) →
    ((bytes : List ℕ) (rest : List Cell) → list_all is_printable bytes ≡ true → length bytes ≡ first.many →
    new ++ prepend_made later (map measure (line_parts (near_by room es) later.shown rest)) ≡ made
    ++ prepend_made reached
    (map measure (line_parts (near_by room es) reached.shown (plain_cells first.start first.from bytes ++ rest)))) →
    made ++ prepend_made reached (map measure (line_parts (near_by room es) reached.shown walk)) ≡ whole →
    new ++ prepend_made later (map measure (line_parts (near_by room es) later.shown left)) ≡ whole
plain_put room es first walk left made new whole reached later f put inv =
    put f.bytes left f.printable f.many
    ∙ ap (λ cells. made ++ prepend_made reached (map measure (line_parts (near_by room es) reached.shown cells)))
    (sym f.cells_are) ∙ inv
