-- Columns of offsets, found from stops.
use Rattle.std.proofs.Common.{ℕ, ◌+◌, ◌-◌, ◌<◌, ◌≤◌, ◌≡◌, true, false, ltb, List, [], ◌∷◌, ◌++◌, length, refl, sym, ap}
use Rattle.std.proofs.Common.{◌∙◌, if◌then◌else◌, arith}
use Rattle.std.proofs.lemmas.Bool.{le-ltb, lt-ltb, ltb-true, ltb-false, leb-false}
use Rattle.miette_snippet_rules.specs.rules.PrintedCells.{first_column, last_column}
use Rattle.miette_columns.specs.declared.cells.Cell.{Cell as MadeCell}
use Rattle.miette_columns.specs.rules.Cells.{Cell}
use Rattle.miette_columns.specs.views.Printable.{plain_cells}
use Rattle.miette_columns.specs.views.Walking.{ComeFirst, cell_of}
use Rattle.miette_lines.proofs.Cases.{by_cases}
use Rattle.miette_snippet_rules.specs.declared.line_underlines.Rounding.{Rounding}
use Rattle.miette_snippet_rules.specs.declared.line_underlines.Rounding.TheVariants.{Down, Up}
use Rattle.miette_snippet_rules.specs.declared.line_underlines.ColumnStop.{ColumnStop}
use Rattle.miette_snippet_rules.specs.declared.line_scan.LineScan.{LineScan}
use Rattle.miette_snippet_rules.specs.steps.ColumnStops.{IsStop, column_from, column_in, stops_at}
use Rattle.miette_snippet_rules.specs.views.LineScans.{HasScanned}
use Rattle.miette_snippet_rules.proofs.PassedCells.{first_passed, last_passed}
use Rattle.miette_snippet_rules.proofs.PlainText.{plain_first, plain_first_end, plain_last, plain_last_end}

-- ---- rounded either way

pub plain_in : (r : Rounding) (offset column : ℕ) (bs : List ℕ) (cs : List Cell) (e w o : ℕ) → o - offset < length bs
    → column + (o - offset) ≡ column_in r (plain_cells offset column bs ++ cs) e w o
plain_in Down offset column bs cs e w o h = plain_first offset column bs cs e w o h
plain_in Up offset column bs cs e w o h = plain_last offset column bs cs e w o h

pub plain_end : (r : Rounding) (offset column : ℕ) (bs : List ℕ) (cs : List Cell) (e w o : ℕ) → length bs ≤ o - offset
    → column_in r cs e w o ≡ column_in r (plain_cells offset column bs ++ cs) e w o
plain_end Down offset column bs cs e w o h = plain_first_end offset column bs cs e w o h
plain_end Up offset column bs cs e w o h = plain_last_end offset column bs cs e w o h

same_in : (r : Rounding) (left cells : List Cell) (e w o : ℕ)
    → (first_column left e w o ≡ first_column cells e w o) × (last_column left e w o ≡ last_column cells e w o)
    → column_in r left e w o ≡ column_in r cells e w o
same_in Down left cells e w o same = same.0
same_in Up left cells e w o same = same.1

-- at the text's end, and after it
pub at_end : (r : Rounding) (e w o : ℕ) → first_column [] e w o ≡ column_in r [] e w o
at_end Down e w o = refl
at_end Up e w o = refl

-- a cell at which the column is found, and one that is passed
pub found_at : (r : Rounding) (cell : MadeCell) (walk left : List Cell) (e w o : ℕ) → walk ≡ cell_of cell ∷ left
    → stops_at r cell o ≡ true → cell.from ≡ column_in r walk e w o
found_at Down cell walk left e w o is met =
    sym (ap (λ cs. first_column cs e w o) is ∙ ap (λ b. if b then cell.from else first_column left e w o) met)
found_at Up cell walk left e w o is met =
    sym (ap (λ cs. last_column cs e w o) is ∙ ap (λ b. if b then cell.from else last_column left e w o) met)

pub passed_by : (r : Rounding) (cell : MadeCell) (walk left : List Cell) (e w o : ℕ) → walk ≡ cell_of cell ∷ left
    → stops_at r cell o ≡ false → column_in r left e w o ≡ column_in r walk e w o
passed_by Down cell walk left e w o is passed =
    first_passed (cell_of cell) walk left e w o is (ltb-false o cell.after passed)
passed_by Up cell walk left e w o is passed =
    last_passed (cell_of cell) walk left e w o is (leb-false o cell.start passed)

-- ---- stops

pub stop_is : (cells : List Cell) (p : LineScan) (stop : ColumnStop) → stop.offset ≡ p.reached
    → ComeFirst stop.plain p.walk stop.walk → HasScanned cells p → IsStop cells stop
stop_is cells p stop at f h o le r e w =
    let here = ap (λ cs. column_in r cs e w o) (sym f.cells_are)
    ∙ same_in r p.walk cells e w o (h.same e w o (omega (arith, at, le))) in
    by_cases {C = column_from r stop e w o ≡ column_in r cells e w o} (ltb (o - stop.plain.start) stop.plain.many)
    (λ y.
    let lt : o - stop.plain.start < length f.bytes =
    omega (arith, ltb-true (o - stop.plain.start) stop.plain.many y, f.many) in
    rw y (plain_in r stop.plain.start stop.plain.from f.bytes stop.walk e w o lt ∙ here))
    (λ n.
    let past : length f.bytes ≤ o - stop.plain.start =
    omega (arith, ltb-false (o - stop.plain.start) stop.plain.many n, f.many) in
    rw n (plain_end r stop.plain.start stop.plain.from f.bytes stop.walk e w o past ∙ here))

-- an offset in a stop's printable ASCII, and one after it
pub in_plain : (r : Rounding) (stop : ColumnStop) (e w o : ℕ) → o - stop.plain.start < stop.plain.many
    → stop.plain.from + (o - stop.plain.start) ≡ column_from r stop e w o
in_plain r stop e w o lt = rw (lt-ltb (o - stop.plain.start) stop.plain.many lt) refl

pub after_plain : (r : Rounding) (stop : ColumnStop) (e w o : ℕ) → stop.plain.many ≤ o - stop.plain.start
    → column_in r stop.walk e w o ≡ column_from r stop e w o
after_plain r stop e w o le = rw (le-ltb (o - stop.plain.start) stop.plain.many le) refl
