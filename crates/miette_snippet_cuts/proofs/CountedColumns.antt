-- The columns of a row's text, counted cell by cell and by stretches of printable ASCII.
use Rattle.std.proofs.Common.{ℕ, zero, suc, ◌+◌, ◌-◌, ◌<◌, ◌≤◌, ◌≡◌, min, Bool, true, false, cond, leb, eqb, List, []}
use Rattle.std.proofs.Common.{◌∷◌, ◌++◌, length, drop, refl, sym, ap, ap₂, subst, ◌∙◌, arith}
use Rattle.std.specs.List.{list_all}
use Rattle.std.proofs.lemmas.Bool.{lt-leb, leb-true, leb-false}
use Rattle.std.proofs.lemmas.Bool.Decides.{nat_tests}
use Rattle.std.proofs.lemmas.List.{drop-drop, length-drop}
use Rattle.miette_lines.proofs.Cases.{by_cases}
use Rattle.miette_columns.specs.declared.cells.PlainCells.{PlainCells}
use Rattle.miette_columns.specs.rules.Cells.{Cell}
use Rattle.miette_columns.specs.views.Printable.{is_printable, plain_cells}
use Rattle.miette_columns.specs.views.Walking.{ComeFirst}
use Rattle.miette_snippet_rules.specs.rules.CutLines.{line_parts, text_columns, with_short_parts}
use Rattle.miette_snippet_rules.proofs.TextColumns.{shown_columns, text_columns_are}
use Rattle.miette_snippet_cuts.specs.declared.counting.Count.{Count}
use Rattle.miette_snippet_cuts.specs.declared.nearness.CutSettings.{CutSettings}
use Rattle.miette_snippet_rules.specs.declared.line_part.LinePart.{LinePart as MadePart}
use Rattle.miette_snippet_cuts.specs.steps.Counting.{IsCounted, columns_from, counted, whole_count}
use Rattle.miette_snippet_cuts.specs.steps.LineParts.{cell_at}
use Rattle.miette_snippet_cuts.specs.steps.Nearness.{LineEnds, near_by}
use Rattle.miette_snippet_cuts.proofs.PlainStretches.{IsEven, near_column}

-- ---- the definition's columns

counted_as : (dots : ℕ) (near : Cell → Bool) (p : ℕ) (cells : List Cell) →
    columns_from dots near p cells ≡ shown_columns dots near p cells
counted_as dots near p [] = refl
counted_as dots near p (c ∷ cs) =
    let w : ℕ = c.until - c.from in
    ap (λ n. cond (eqb c.from c.until) n (cond (near c) (min p dots + (w + columns_from dots near 0 cs))
    (columns_from dots near (p + w) cs))) (counted_as dots near p cs)
    ∙ ap (λ n. cond (eqb c.from c.until) (shown_columns dots near p cs) (cond (near c) (min p dots + (w + n))
    (columns_from dots near (p + w) cs))) (counted_as dots near 0 cs)
    ∙ ap (λ n. cond (eqb c.from c.until) (shown_columns dots near p cs)
    (cond (near c) (min p dots + (w + shown_columns dots near 0 cs)) n)) (counted_as dots near (p + w) cs)

pub none_counted : (dots : ℕ) (near : Cell → Bool) (cells : List Cell) →
    whole_count dots near (record { shown = 0; passed = 0 }) cells
    ≡ text_columns dots (with_short_parts dots (line_parts near false cells))
none_counted dots near cells =
    let first : 0 + columns_from dots near 0 cells ≡ columns_from dots near 0 cells = omega arith in
    first ∙ counted_as dots near 0 cells ∙ sym (text_columns_are dots near cells)

-- ---- a cell

pub cell_counted : (dots : ℕ) (near : Cell → Bool) (count next : Count) (v : Bool) (columns : ℕ) (c : Cell)
    (rest : List Cell) → eqb c.from c.until ≡ false → v ≡ near c → columns ≡ c.until - c.from →
    next ≡ counted dots v columns count →
    whole_count dots near next rest ≡ whole_count dots near count (c ∷ rest)
cell_counted dots near count next v columns c rest wide n w is =
    ap (λ (k : Count). whole_count dots near k rest) (is ∙ ap₂ (λ b k. counted dots b k count) n w)
    ∙ by_cases {C = whole_count dots near (counted dots (near c) (c.until - c.from) count) rest
    ≡ whole_count dots near count (c ∷ rest)} (near c)
    (λ y. rw (wide, y) (omega arith))
    (λ f. rw (wide, f) refl)

pub cell_passed : (dots : ℕ) (near : Cell → Bool) (count : Count) (c : Cell) (rest : List Cell)
    → eqb c.from c.until ≡ true → whole_count dots near count rest ≡ whole_count dots near count (c ∷ rest)
cell_passed dots near count c rest none = rw none refl

-- ---- cells of one column each, all near or none

pub apart : (n : ℕ) → eqb n (n + 1) ≡ false
apart n = grind (arith, nat_tests)

abbrev pub byte_cell : ℕ → ℕ → ℕ → Cell
byte_cell b o c = record { code = b; start = o; after = o + 1; from = c; until = c + 1 }

one_near : (dots : ℕ) (room : CutSettings) (es : List ℕ) (p b o c : ℕ) (cells : List Cell)
    → near_by room es (cell_at c) ≡ true → columns_from dots (near_by room es) p (byte_cell b o c ∷ cells)
    ≡ min p dots + (1 + columns_from dots (near_by room es) 0 cells)
one_near dots room es p b o c cells y =
    let own : near_by room es (byte_cell b o c) ≡ true = near_column room es b o c ∙ y in
    rw (apart c, own) (omega arith)

one_far : (dots : ℕ) (room : CutSettings) (es : List ℕ) (p b o c : ℕ) (cells : List Cell)
    → near_by room es (cell_at c) ≡ false → columns_from dots (near_by room es) p (byte_cell b o c ∷ cells)
    ≡ columns_from dots (near_by room es) (p + 1) cells
one_far dots room es p b o c cells f =
    let own : near_by room es (byte_cell b o c) ≡ false = near_column room es b o c ∙ f in
    let one : p + ((c + 1) - c) ≡ p + 1 = omega arith in
    rw (apart c, own) (ap (λ k. columns_from dots (near_by room es) k cells) one)

-- the cells of these bytes, after the first `n` of them
abbrev left_of : ℕ → ℕ → ℕ → List ℕ → List Cell → List Cell
left_of n o c bs cs = plain_cells (o + n) (c + n) (drop n bs) ++ cs

left_more : (n o c b : ℕ) (bs : List ℕ) (cs : List Cell)
    → left_of n (o + 1) (c + 1) bs cs ≡ left_of (suc n) o c (b ∷ bs) cs
left_more n o c b bs cs =
    let at : o + 1 + n ≡ o + suc n = omega arith in
    let column : c + 1 + n ≡ c + suc n = omega arith in
    ap₂ (λ p q. plain_cells p q (drop n bs) ++ cs) at column

left_none : (o c : ℕ) (bs : List ℕ) (cs : List Cell) → plain_cells o c bs ++ cs ≡ left_of 0 o c bs cs
left_none o c bs cs =
    let at : o ≡ o + 0 = omega arith in
    let column : c ≡ c + 0 = omega arith in
    ap₂ (λ p q. plain_cells p q bs ++ cs) at column

-- the first of them are near
evens_near : (dots : ℕ) (room : CutSettings) (es : List ℕ) (n p o c : ℕ) (bs : List ℕ) (cs : List Cell) → 0 < n
    → n ≤ length bs → ((x : ℕ) → c ≤ x → x < c + n → near_by room es (cell_at x) ≡ true) →
    columns_from dots (near_by room es) p (plain_cells o c bs ++ cs)
    ≡ min p dots + (n + columns_from dots (near_by room es) 0 (left_of n o c bs cs))
evens_near dots room es zero p o c bs cs some le near = absurd (omega (arith, some))
evens_near dots room es (suc n) p o c [] cs some le near = absurd (omega (arith, le))
evens_near dots room es (suc zero) p o c (b ∷ bs) cs some le near =
    one_near dots room es p b o c (plain_cells (o + 1) (c + 1) bs ++ cs) (near c (omega arith) (omega arith))
evens_near dots room es (suc (suc n)) p o c (b ∷ bs) cs some le near =
    let later : List Cell = left_of (suc n) (o + 1) (c + 1) bs cs in
    let rest : ℕ = columns_from dots (near_by room es) 0 later in
    one_near dots room es p b o c (plain_cells (o + 1) (c + 1) bs ++ cs) (near c (omega arith) (omega arith))
    ∙ ap (λ k. min p dots + (1 + k)) (evens_near dots room es (suc n) 0 (o + 1) (c + 1) bs cs (omega arith)
    (omega (arith, le)) (λ x lo lt. near x (omega (arith, lo)) (omega (arith, lt))))
    ∙ joined (min p dots) (suc n) rest
    ∙ ap (λ cells. min p dots + (suc (suc n) + columns_from dots (near_by room es) 0 cells))
    (left_more (suc n) o c b bs cs)
  where
    joined : (k m x : ℕ) → k + (1 + (min 0 dots + (m + x))) ≡ k + (suc m + x)
    joined k m x = omega arith

-- or aren't
evens_far : (dots : ℕ) (room : CutSettings) (es : List ℕ) (n p o c : ℕ) (bs : List ℕ) (cs : List Cell) → n ≤ length bs
    → ((x : ℕ) → c ≤ x → x < c + n → near_by room es (cell_at x) ≡ false) →
    columns_from dots (near_by room es) p (plain_cells o c bs ++ cs)
    ≡ columns_from dots (near_by room es) (p + n) (left_of n o c bs cs)
evens_far dots room es zero p o c bs cs le far =
    let none : p ≡ p + 0 = omega arith in
    ap₂ (λ k cells. columns_from dots (near_by room es) k cells) none (left_none o c bs cs)
evens_far dots room es (suc n) p o c [] cs le far = absurd (omega (arith, le))
evens_far dots room es (suc n) p o c (b ∷ bs) cs le far =
    let more : p + 1 + n ≡ p + suc n = omega arith in
    one_far dots room es p b o c (plain_cells (o + 1) (c + 1) bs ++ cs) (far c (omega arith) (omega arith))
    ∙ evens_far dots room es n (p + 1) (o + 1) (c + 1) bs cs (omega (arith, le))
    (λ x lo lt. far x (omega (arith, lo)) (omega (arith, lt)))
    ∙ ap₂ (λ k cells. columns_from dots (near_by room es) k cells) more (left_more n o c b bs cs)

evens_counted : (dots : ℕ) (room : CutSettings) (es : List ℕ) (v : Bool) (n o c : ℕ) (count : Count) (bs : List ℕ)
    (cs : List Cell) → 0 < n → n ≤ length bs → ((x : ℕ) → c ≤ x → x < c + n → near_by room es (cell_at x) ≡ v) →
    whole_count dots (near_by room es) count (plain_cells o c bs ++ cs)
    ≡ whole_count dots (near_by room es) (counted dots v n count) (left_of n o c bs cs)
evens_counted dots room es true n o c count bs cs some le near =
    ap (λ k. count.shown + k) (evens_near dots room es n count.passed o c bs cs some le near) ∙ omega arith
evens_counted dots room es false n o c count bs cs some le far =
    ap (λ k. count.shown + k) (evens_far dots room es n count.passed o c bs cs le far)

-- ---- cells of printable ASCII from a column on

abbrev pub cells_after : PlainCells → List ℕ → List Cell → ℕ → List Cell
cells_after first bs cs column =
    plain_cells (first.start + (column - first.from)) column (drop (column - first.from) bs) ++ cs

pub plain_begun : (first : PlainCells) (bs : List ℕ) (cs : List Cell) → plain_cells first.start first.from bs ++ cs
    ≡ cells_after first bs cs first.from
plain_begun first bs cs =
    let none : first.from - first.from ≡ 0 = omega arith in
    let at : first.start ≡ first.start + 0 = omega arith in
    ap (λ p. plain_cells p first.from bs ++ cs) at
    ∙ ap (λ k. plain_cells (first.start + k) first.from (drop k bs) ++ cs) (sym none)

pub plain_counted : (dots : ℕ) (room : CutSettings) (es : List ℕ) (first : PlainCells) (bs : List ℕ) (cs : List Cell)
    (column : ℕ) (count next : Count) (s : MadePart) (whole : ℕ) → first.from ≤ column
    → IsEven room es column (first.from + length bs) s → next ≡ counted dots s.shown s.cells count →
    whole_count dots (near_by room es) count (cells_after first bs cs column) ≡ whole →
    whole_count dots (near_by room es) next (cells_after first bs cs (column + s.cells)) ≡ whole
plain_counted dots room es first bs cs column count next s whole from is n inv =
    let i : ℕ = column - first.from in
    let many : length (drop i bs) ≡ length bs - i = length-drop i bs in
    let more : i + s.cells ≡ column + s.cells - first.from = omega (arith, from) in
    let left : drop s.cells (drop i bs) ≡ drop (column + s.cells - first.from) bs = drop-drop s.cells i bs
    ∙ ap (λ k. drop k bs) more in
    let at : first.start + i + s.cells ≡ first.start + (column + s.cells - first.from) = omega (arith, from) in
    let own : Count = counted dots s.shown s.cells count in
    ap (λ (k : Count). whole_count dots (near_by room es) k (cells_after first bs cs (column + s.cells))) n
    ∙ sym (ap₂ (λ p xs. whole_count dots (near_by room es) own (plain_cells p (column + s.cells) xs ++ cs)) at left)
    ∙ sym (evens_counted dots room es s.shown s.cells (first.start + i) column count (drop i bs) cs is.some
    (omega (arith, is.within, many, from)) is.alike) ∙ inv

pub plain_done : (dots : ℕ) (near : Cell → Bool) (limit : ℕ) (first : PlainCells) (bs : List ℕ) (cs : List Cell)
    (column : ℕ) (count : Count) (whole : ℕ) → first.from + length bs ≤ column →
    whole_count dots near count (cells_after first bs cs column) ≡ whole →
    IsCounted limit count (whole_count dots near count cs) whole
plain_done dots near limit first bs cs column count whole le inv =
    let past : length bs ≤ column - first.from = omega (arith, le) in
    let none : drop (column - first.from) bs ≡ [] = dropped_all (column - first.from) bs past in
    let same : whole_count dots near count cs ≡ whole =
    ap (λ xs. whole_count dots near count (plain_cells (first.start + (column - first.from)) column xs ++ cs))
    (sym none)
    ∙ inv in
    record { all = λ le. same; within = omega (arith, same) }
  where
    dropped_all : (n : ℕ) (xs : List ℕ) → length xs ≤ n → drop n xs ≡ []
    dropped_all zero [] le = refl
    dropped_all zero (x ∷ xs) le = absurd (omega (arith, le))
    dropped_all (suc n) [] le = refl
    dropped_all (suc n) (x ∷ xs) le = dropped_all n xs (omega (arith, le))

pub plain_over : (limit : ℕ) (dots : ℕ) (near : Cell → Bool) (count : Count) (cells : List Cell) (left whole : ℕ)
    → limit < count.shown → whole_count dots near count cells ≡ whole → IsCounted limit count left whole
plain_over limit dots near count cells left whole over inv = record {
  all = λ le. absurd (omega (arith, over, le));
  within = omega (arith, inv);
}

-- ---- a line

-- what is counted of cells of printable ASCII
abbrev pub CountsPlain : ℕ → ℕ → LineEnds → PlainCells → Count → Count → Type 0
CountsPlain limit dots line first count next = (bytes : List ℕ) (rest : List Cell) → list_all is_printable bytes ≡ true
    → length bytes ≡ first.many → IsCounted limit next (whole_count dots (near_by line.room line.ends) next rest)
    (whole_count dots (near_by line.room line.ends) count (plain_cells first.start first.from bytes ++ rest))

pub counts_plain : (limit dots : ℕ) (own line : LineEnds) (first : PlainCells) (count next : Count) → own ≡ line
    → CountsPlain limit dots own first count next → CountsPlain limit dots line first count next
counts_plain limit dots own line first count next e h =
    subst (λ (v : LineEnds). CountsPlain limit dots v first count next) e h

-- a cell more, where no more are shown than the limit
pub line_more : (dots limit : ℕ) (own line : LineEnds) (walk left : List Cell) (cell : Cell) (count next : Count)
    (whole : ℕ) → own ≡ line → walk ≡ cell ∷ left → count.shown ≤ limit →
    ((rest : List Cell) → whole_count dots (near_by own.room own.ends) next rest
    ≡ whole_count dots (near_by own.room own.ends) count (cell ∷ rest)) →
    IsCounted limit count (whole_count dots (near_by line.room line.ends) count walk) whole →
    whole_count dots (near_by line.room line.ends) next left ≡ whole
line_more dots limit own line walk left cell count next whole e step le counts h =
    subst (λ (v : LineEnds). whole_count dots (near_by v.room v.ends) next left
    ≡ whole_count dots (near_by v.room v.ends) count (cell ∷ left)) e (counts left)
    ∙ ap (whole_count dots (near_by line.room line.ends) count) (sym step) ∙ h.all le

-- after the cells of printable ASCII that come next
pub line_counted : (dots : ℕ) (near : Cell → Bool) (limit : ℕ) (first : PlainCells) (walk left : List Cell)
    (count next : Count) (whole : ℕ) → (f : ComeFirst first walk left) →
    ((bytes : List ℕ) (rest : List Cell) → list_all is_printable bytes ≡ true → length bytes ≡ first.many →
    IsCounted limit next (whole_count dots near next rest)
    (whole_count dots near count (plain_cells first.start first.from bytes ++ rest))) →
    whole_count dots near count walk ≡ whole → IsCounted limit next (whole_count dots near next left) whole
line_counted dots near limit first walk left count next whole f counts inv =
    let same : whole_count dots near count (plain_cells first.start first.from f.bytes ++ left) ≡ whole =
    ap (whole_count dots near count) (sym f.cells_are) ∙ inv in
    subst (λ n. IsCounted limit next (whole_count dots near next left) n) same
    (counts f.bytes left f.printable f.many)

-- more is shown than the limit
pub line_over : (limit : ℕ) (count : Count) (left whole : ℕ) → limit < count.shown → IsCounted limit count left whole
    → false ≡ leb whole limit
line_over limit count left whole over h = sym (lt-leb whole limit (omega (arith, over, h.within)))

-- no cell is left
pub line_done : (dots : ℕ) (near : Cell → Bool) (limit : ℕ) (count : Count) (walk : List Cell) (last width whole : ℕ)
    → walk ≡ [] → last ≡ min count.passed dots → width ≡ count.shown + last →
    IsCounted limit count (whole_count dots near count walk) whole → leb width limit ≡ leb whole limit
line_done dots near limit count walk last width whole e l w h =
    by_cases {C = leb width limit ≡ leb whole limit} (leb count.shown limit)
    (λ y. let same : width ≡ whole = w ∙ ap (λ k. count.shown + k) l
    ∙ ap (whole_count dots near count) (sym e) ∙ h.all (leb-true count.shown limit y) in
    ap (λ n. leb n limit) same)
    (λ n.
    let over : limit < count.shown = leb-false count.shown limit n in
    lt-leb width limit (omega (arith, over, w)) ∙ sym (lt-leb whole limit (omega (arith, over, h.within))))
