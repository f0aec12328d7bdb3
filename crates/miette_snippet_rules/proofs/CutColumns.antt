-- Columns of a line that is cut, in its row: marks stay apart.
use Rattle.std.proofs.Common.{ℕ, ◌+◌, ◌-◌, ◌<◌, ◌≤◌, ◌≡◌, ◌≢◌, Bool, true, false, cond, eqb, ltb, leb, List, [], ◌∷◌}
use Rattle.std.proofs.Common.{◌++◌, map, refl, sym, ap, ◌∙◌, Option, Some, None, arith}
use Rattle.std.proofs.lemmas.Bool.{lt-ltb, le-ltb, le-leb, ne_eqb, ltb-true, ltb-false, and_from, or_left, or_right}
use Rattle.std.specs.List.{list_any, AllByRecursion}
use Rattle.miette_columns.specs.rules.Cells.{Character, Cell, cells_from, hides_next, width_at}
use Rattle.miette_snippet_rules.specs.rules.Underlines.{Underline, AreApart, HasPointer}
use Rattle.miette_snippet_rules.specs.rules.PrintedCells.{cells_width}
use Rattle.miette_snippet_rules.specs.rules.LabelColumns.{pointer_ends, underline_ends}
use Rattle.miette_snippet_rules.specs.rules.CutLines.{LinePart, agree, columns_in, cut_at, cut_line, cut_to}
use Rattle.miette_snippet_rules.specs.rules.CutLines.{is_part_shown}
use Rattle.miette_snippet_rules.specs.rules.CutLines.{is_near, is_shown_at, is_within, limit_of, prepend_part}
use Rattle.miette_snippet_rules.specs.rules.CutLines.{is_near_after, reach_of, row_column, row_underline}
use Rattle.miette_snippet_rules.specs.rules.CutLines.{row_underlines}
use Rattle.miette_snippet_rules.specs.rules.CutLines.{line_parts, with_short_parts}
use Rattle.miette_lines.proofs.Cases.{by_cases}

-- ---- cells one after the other, from a column on

abbrev pub AreColumns : ℕ → List Cell → Type 0
AreColumns column [] = Unit {0}
AreColumns column (c ∷ cs) = (c.from ≡ column) × (c.from ≤ c.until) × AreColumns c.until cs

pub columns_from : (w : ℕ → ℕ) (tab : ℕ) (hidden : Bool) (offset column : ℕ) (cs : List Character)
    → AreColumns column (cells_from w tab hidden offset column cs)
columns_from w tab hidden offset column [] = tt
columns_from w tab hidden offset column (c ∷ cs) = (
  refl,
  omega arith,
  columns_from w tab (hides_next hidden c.code) (offset + c.bytes)
      (column + width_at w tab hidden column c.code) cs,
)

pub columns_in-append : (a b : List Cell) → columns_in (a ++ b) ≡ columns_in a + columns_in b
columns_in-append [] b = omega arith
columns_in-append (c ∷ a) b = omega (arith, columns_in-append a b)

-- ---- whether a column is shown

agree-same : (a b : Bool) → agree a b ≡ true → a ≡ b
agree-same true b h = sym h
agree-same false true h = h
agree-same false false h = refl

onto-shown : (s : LinePart) (ss : List LinePart) (column : ℕ) →
    is_shown_at (prepend_part s ss) column ≡ cond (ltb column (columns_in s.cells)) s.shown
    (is_shown_at ss (column - columns_in s.cells))
onto-shown s [] column = refl
onto-shown s (next ∷ later) column =
    by_cases {C = is_shown_at (prepend_part s (next ∷ later)) column
    ≡ cond (ltb column (columns_in s.cells)) s.shown (is_shown_at (next ∷ later) (column - columns_in s.cells))}
    (agree s.shown next.shown)
    (λ y. let same : next.shown ≡ s.shown = sym (agree-same s.shown next.shown y) in
    rw (y, columns_in-append s.cells next.cells, same) (joined column (columns_in s.cells) (columns_in next.cells)
    s.shown (is_shown_at later)))
    (λ n. rw n refl)
  where
    joined : (column a b : ℕ) (shown : Bool) (f : ℕ → Bool) → cond (ltb column (a + b)) shown (f (column - (a + b)))
        ≡ cond (ltb column a) shown (cond (ltb (column - a) b) shown (f (column - a - b)))
    joined column a b shown f =
        by_cases {C = cond (ltb column (a + b)) shown (f (column - (a + b)))
        ≡ cond (ltb column a) shown (cond (ltb (column - a) b) shown (f (column - a - b)))} (ltb column a)
        (λ y. rw (y, lt-ltb column (a + b) (omega (arith, ltb-true column a y))) refl)
        (λ n. by_cases {C = cond (ltb column (a + b)) shown (f (column - (a + b)))
        ≡ cond (ltb column a) shown (cond (ltb (column - a) b) shown (f (column - a - b)))} (ltb (column - a) b)
        (λ y. rw (n, y, lt-ltb column (a + b) (omega (arith, ltb-false column a n, ltb-true (column - a) b y))) refl)
        (λ m. let less : column - (a + b) ≡ column - a - b = omega arith in
        rw (n, m, le-ltb column (a + b) (omega (arith, ltb-false column a n, ltb-false (column - a) b m)), less) refl))

-- a column whose cell is near lies in a near stretch
pub near_cells : (near : Cell → Bool) (before : Bool) (column end : ℕ) (cells : List Cell) → AreColumns column cells
    → column ≤ end →
    ((cell : Cell) → cell.from ≤ end → end < cell.until → near cell ≡ true)
    → is_shown_at (line_parts near before cells) (end - column) ≡ true
near_cells near before column end [] h le is = refl
near_cells near before column end (c ∷ cs) h le is =
    let here : Bool = is_near_after near before c in
    let first : LinePart = record { shown = here; cells = c ∷ [] } in
    let rest : List LinePart = line_parts near here cs in
    onto-shown first rest (end - column)
    ∙ by_cases {C = cond (ltb (end - column) (columns_in (c ∷ []))) here
    (is_shown_at rest (end - column - columns_in (c ∷ []))) ≡ true} (ltb (end - column) (columns_in (c ∷ [])))
    (λ y. let inside : end < c.until = omega (arith, h.0, h.1, le, ltb-true (end - column) (columns_in (c ∷ [])) y) in
    let wide : eqb c.from c.until ≡ false = ne_eqb c.from c.until (λ e. omega (arith, h.0, le, inside, e)) in
    rw (y, wide) (is c (omega (arith, h.0, le)) inside))
    (λ n. let past : c.until ≤ end = omega (arith, h.0, h.1, le, ltb-false (end - column) (columns_in (c ∷ [])) n) in
    let less : end - column - columns_in (c ∷ []) ≡ end - c.until = omega (arith, h.0, h.1, past) in
    rw (n, less) (near_cells near here c.until end cs h.2 past is))

-- what is near is shown with the short stretches too
pub short_shown : (many : ℕ) (ss : List LinePart) (column : ℕ) → is_shown_at ss column ≡ true
    → is_shown_at (with_short_parts many ss) column ≡ true
short_shown many [] column h = refl
short_shown many (s ∷ later) column h =
    let columns : ℕ = columns_in s.cells in
    onto-shown (record { shown = is_part_shown many s; cells = s.cells }) (with_short_parts many later) column
    ∙ by_cases {C = cond (ltb column columns) (is_part_shown many s) (is_shown_at (with_short_parts many later)
    (column - columns))
    ≡ true} (ltb column columns)
    (λ y. let own : s.shown ≡ true =
    sym (ap (λ t. cond t s.shown (is_shown_at later (column - columns))) y) ∙ h in
    rw y (or_left s.shown (leb columns many) own))
    (λ n. let rest : is_shown_at later (column - columns) ≡ true =
    sym (ap (λ t. cond t s.shown (is_shown_at later (column - columns))) n) ∙ h in
    rw n (short_shown many later (column - columns) rest))

-- ---- columns in the row never fall, and grow from a column on that is shown

pub row_grows : (many : ℕ) (ss : List LinePart) (a b : ℕ) → a < b → is_shown_at ss a ≡ true
    → row_column many ss a < row_column many ss b
row_grows many [] a b lt shown = lt
row_grows many (s ∷ later) a b lt shown =
    let columns : ℕ = columns_in s.cells in
    by_cases {C = row_column many (s ∷ later) a < row_column many (s ∷ later) b} (ltb a columns)
    (λ y. let own : s.shown ≡ true =
    sym (ap (λ t. cond t s.shown (is_shown_at later (a - columns))) y) ∙ shown in
    by_cases {C = row_column many (s ∷ later) a < row_column many (s ∷ later) b} (ltb b columns)
    (λ z. rw (y, z, own) lt)
    (λ n. rw (y, n, own) (omega (arith, ltb-true a columns y))))
    (λ n. let past : columns ≤ a = ltb-false a columns n in
    let beyond : ltb b columns ≡ false = le-ltb b columns (omega (arith, past, lt)) in
    let rest : is_shown_at later (a - columns) ≡ true =
    sym (ap (λ t. cond t s.shown (is_shown_at later (a - columns))) n) ∙ shown in
    rw (n, beyond) (omega (arith, row_grows many later (a - columns) (b - columns) (omega (arith, past, lt)) rest)))

pub row_follows : (many : ℕ) (ss : List LinePart) (a b : ℕ) → a ≤ b → row_column many ss a ≤ row_column many ss b
row_follows many [] a b le = le
row_follows many (s ∷ later) a b le =
    let columns : ℕ = columns_in s.cells in
    by_cases {C = row_column many (s ∷ later) a ≤ row_column many (s ∷ later) b} (ltb a columns)
    (λ y. by_cases {C = row_column many (s ∷ later) a ≤ row_column many (s ∷ later) b} (ltb b columns)
    (λ z. rw (y, z) (inside s.shown))
    (λ n. rw (y, n) (before s.shown columns (row_column many later (b - columns)) (ltb-true a columns y))))
    (λ n. let past : columns ≤ a = ltb-false a columns n in
    let beyond : ltb b columns ≡ false = le-ltb b columns (omega (arith, past, le)) in
    rw (n, beyond) (omega (arith, row_follows many later (a - columns) (b - columns) (omega (arith, past, le)))))
  where
    inside : (shown : Bool) → cond shown a 0 ≤ cond shown b 0
    inside true = le
    inside false = omega arith

    before : (shown : Bool) (columns rest : ℕ) → a < columns → cond shown a 0 ≤ cond shown columns many + rest
    before true columns rest lt = omega (arith, lt)
    before false columns rest lt = omega arith

-- ---- marks whose ends are shown stay apart

-- Its first and its last column are shown, and its anchor where a text hangs from it.
abbrev pub HasShownEnds : List LinePart → Underline → Type 0
HasShownEnds ss m = (is_shown_at ss m.from ≡ true) × (is_shown_at ss (m.until - 1) ≡ true)
    × (m.label.parts ≢ [] → is_shown_at ss m.pointer ≡ true)

own_anchor : (many : ℕ) (ss : List LinePart) (m : Underline) → HasPointer m → HasPointer (row_underline many ss m)
own_anchor many ss m h =
    let last : m.pointer ≤ m.until - 1 = omega (arith, h.1) in
    (row_follows many ss m.from m.pointer h.0, omega (arith, row_follows many ss m.pointer (m.until - 1) last))

pub row_apart : (many : ℕ) (ss : List LinePart) (reached low : ℕ) (ms : List Underline) → AreApart reached ms
    → AllByRecursion (HasShownEnds ss) ms →
    ((column : ℕ) → reached ≤ column → low ≤ row_column many ss column) → AreApart low (map (row_underline many ss) ms)
row_apart many ss reached low [] h shown from = tt
row_apart many ss reached low (m ∷ ms) h shown from = (
  from m.from h.0,
  own_anchor many ss m h.1,
  row_apart many ss m.until (row_column many ss (m.until - 1) + 1) ms h.2 shown.1
      (λ column le. omega (arith, row_grows many ss (m.until - 1) column (omega (arith, h.1.0, h.1.1, le)) shown.0.1)),
)

-- ---- the ends of a line are shown where it is cut around them

-- columns of stretches that are shown
abbrev pub AreShownAt : List LinePart → List ℕ → Type 0
AreShownAt ss columns = AllByRecursion (λ column. is_shown_at ss column ≡ true) columns

within_own : (reach : ℕ) (cell : Cell) (column : ℕ) → cell.from ≤ column → column < cell.until
    → is_within reach cell column ≡ true
within_own reach cell column le lt = and_from (leb cell.from (column + reach)) (ltb column (cell.until + reach))
    (le-leb cell.from (column + reach) (omega (arith, le))) (lt-ltb column (cell.until + reach) (omega (arith, lt)))

less_none : (n : ℕ) → n ≡ n - 0
less_none n = omega arith

end_shown : (many reach : ℕ) (all : List ℕ) (cells : List Cell) (column : ℕ) → AreColumns 0 cells
    → ((p : ℕ → Bool) → p column ≡ true → list_any p all ≡ true)
    → is_shown_at (cut_at many reach all cells) column ≡ true
end_shown many reach all cells column h in' =
    let near : Cell → Bool = is_near reach all in
    short_shown many (line_parts near false cells) column
    (ap (is_shown_at (line_parts near false cells)) (less_none column)
    ∙ near_cells near false 0 column cells h (omega arith)
    (λ cell le lt. in' (is_within reach cell) (within_own reach cell column le lt)))

ends_shown_at : (many reach : ℕ) (all : List ℕ) (cells : List Cell) (es : List ℕ) → AreColumns 0 cells
    → ((p : ℕ → Bool) → list_any p es ≡ true → list_any p all ≡ true) → AreShownAt (cut_at many reach all cells) es
ends_shown_at many reach all cells [] h in' = tt
ends_shown_at many reach all cells (e ∷ es) h in' = (
  end_shown many reach all cells e h (λ p is. in' p (or_left (p e) (list_any p es) is)),
  ends_shown_at many reach all cells es h (λ p is. in' p (or_right (p e) (list_any p es) is)),
)

pub ends_shown : (limit many : ℕ) (all : List ℕ) (cells : List Cell) → AreColumns 0 cells
    → AreShownAt (cut_to limit many all cells) all
ends_shown limit many [] cells h = tt
ends_shown limit many (e ∷ es) cells h =
    ends_shown_at many (reach_of limit many (e ∷ es) cells) (e ∷ es) cells (e ∷ es) h (λ p is. is)

-- the first of some columns
pub first_shown : (ss : List LinePart) (a b : List ℕ) → AreShownAt ss (a ++ b) → AreShownAt ss a
first_shown ss [] b h = tt
first_shown ss (e ∷ a) b h = (h.0, first_shown ss a b h.1)

pub underlines_in_row : (ss : List LinePart) (ms : List Underline) → AreShownAt ss (underline_ends ms)
    → AllByRecursion (HasShownEnds ss) ms
underlines_in_row ss [] h = tt
underlines_in_row ss (m ∷ ms) h =
    let rest = hung m.label.parts (underline_ends ms) h.1 in ((h.0, rest.1, rest.0), underlines_in_row ss ms rest.2)
  where
    hung : (parts : List (List ℕ)) (more : List ℕ)
        → AreShownAt ss (pointer_ends parts m.pointer ++ (m.until - 1) ∷ more)
        → (parts ≢ [] → is_shown_at ss m.pointer ≡ true) × (is_shown_at ss (m.until - 1) ≡ true) × AreShownAt ss more
    hung [] more h = (λ some. absurd (some refl), h.0, h.1)
    hung (part ∷ parts) more h = (λ some. h.0, h.1.0, h.1.1)

-- ---- a line's marks in its row

pub shown_apart : (many : ℕ) (limit : Option ℕ) (ms : List Underline) (more : List ℕ) (cells : List Cell)
    → AreColumns 0 cells → AreApart 0 ms
    → AreApart 0 (row_underlines many (cut_line many limit (underline_ends ms ++ more) cells) ms)
shown_apart many None ms more cells h apart = apart
shown_apart many (Some limit) ms more cells h apart =
    let all : List ℕ = underline_ends ms ++ more in
    let cut : List LinePart = cut_to (limit_of limit) many all cells in
    by_cases {C = AreApart 0 (row_underlines many (cut_line many (Some limit) all cells) ms)}
    (ltb (limit_of limit) (cells_width 0 cells))
    (λ y. rw y (row_apart many cut 0 0 ms apart
    (underlines_in_row cut ms (first_shown cut (underline_ends ms) more (ends_shown (limit_of limit) many all cells h)))
    (λ column le. omega arith)))
    (λ n. rw n apart)

moved_anchored : (many : ℕ) (ss : List LinePart) (ms : List Underline) → AllByRecursion HasPointer ms
    → AllByRecursion HasPointer (map (row_underline many ss) ms)
moved_anchored many ss [] h = tt
moved_anchored many ss (m ∷ ms) h = (own_anchor many ss m h.0, moved_anchored many ss ms h.1)

pub shown_anchored : (many : ℕ) (cut : Option (List LinePart)) (ms : List Underline) → AllByRecursion HasPointer ms
    → AllByRecursion HasPointer (row_underlines many cut ms)
shown_anchored many None ms anchored = anchored
shown_anchored many (Some cut) ms anchored = moved_anchored many cut ms anchored
