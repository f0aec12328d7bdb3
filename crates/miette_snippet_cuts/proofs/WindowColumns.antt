-- The part of a line's cells in which its reach is looked for: the row has as many columns by these.
use Rattle.std.proofs.Common.{ℕ, suc, ◌+◌, ◌-◌, ◌<◌, ◌≤◌, ◌≡◌, Bool, true, false, leb, ltb, eqb, List, []}
use Rattle.std.proofs.Common.{◌∷◌, ◌++◌, ◌&&◌, ◌||◌, length, get_or, refl, sym, ap, subst, ◌∙◌, arith}
use Rattle.std.proofs.lemmas.Bool.{and_parts, eqb-true, le-ltb, leb-true, lt-leb}
use Rattle.std.proofs.Math.Bool.{and-false}
use Rattle.std.specs.List.{list_any}
use Rattle.std.specs.List.Sorted.{IsNonDecreasing}
use Rattle.miette_lines.proofs.Cases.{by_cases}
use Rattle.miette_columns.specs.declared.cells.PlainCells.{PlainCells}
use Rattle.miette_columns.specs.rules.Cells.{Cell, characters}
use Rattle.miette_columns.specs.rules.Widths.{width_of}
use Rattle.miette_columns.specs.views.Printable.{plain_cells}
use Rattle.miette_columns.specs.views.Walking.{ComeFirst}
use Rattle.miette_snippet_rules.specs.rules.CutLines.{is_within}
use Rattle.miette_snippet_rules.proofs.CutColumns.{AreColumns, columns_from as cells_stand}
use Rattle.miette_snippet_rules.specs.declared.line_bytes.LineText.{LineText}
use Rattle.miette_snippet_rules.specs.views.LineTexts.{text_cells}
use Rattle.miette_snippet_cuts.specs.declared.counting.Count.{Count}
use Rattle.miette_snippet_cuts.specs.declared.nearness.CutSettings.{CutSettings}
use Rattle.miette_snippet_cuts.specs.declared.window.Window.{Window}
use Rattle.miette_snippet_cuts.specs.steps.Counting.{IsCounted, columns_from, whole_count}
use Rattle.miette_snippet_cuts.specs.steps.Nearness.{near_by}
use Rattle.miette_snippet_cuts.specs.steps.Windows.{HasSkipped, HoldsNear, NoneBefore, NoneFrom, StandFrom}
use Rattle.miette_snippet_cuts.specs.steps.Windows.{StandTogether}
use Rattle.miette_snippet_cuts.specs.steps.Windows.{StandsTo}
use Rattle.miette_snippet_cuts.proofs.CountedColumns.{apart, byte_cell}
use Rattle.miette_snippet_cuts.proofs.NearEnds.{none_within}

-- ---- cells one after the other

stand_from : (column : ℕ) (cells : List Cell) → AreColumns column cells → StandFrom column cells
stand_from column [] h = tt
stand_from column (c ∷ cs) h = (h.0, h.1, stand_from c.until cs h.2)

-- those of a text
pub text_stands : (text : LineText) (cells : List Cell) → cells ≡ text_cells text → StandFrom 0 cells
text_stands text cells is =
    subst (λ (cs : List Cell). StandFrom 0 cs) (sym is) (stand_from 0 (text_cells text)
    (cells_stand width_of text.tab false text.start 0 (characters text.bytes.now)))

-- after cells of printable ASCII
plain_stand : (column start from : ℕ) (bytes : List ℕ) (later : List Cell)
    → StandFrom column (plain_cells start from bytes ++ later) → StandFrom (column + length bytes) later
plain_stand column start from [] later h =
    let none : column ≡ column + 0 = omega arith in subst (λ n. StandFrom n later) none h
plain_stand column start from (b ∷ bs) later h =
    let at : from + 1 + length bs ≡ column + suc (length bs) = omega (arith, h.0) in
    subst (λ n. StandFrom n later) at (plain_stand (from + 1) (start + 1) (from + 1) bs later h.2)

stand_plain : (column : ℕ) (first : PlainCells) (cells later : List Cell) → (f : ComeFirst first cells later)
    → StandFrom column cells → StandFrom (column + first.many) later
stand_plain column first cells later f h =
    subst (λ n. StandFrom (column + n) later) f.many (plain_stand column first.start first.from f.bytes later
    (subst (λ (cs : List Cell). StandFrom column cs) f.cells_are h))

pub stand_after : (first : PlainCells) (cells later : List Cell) → ComeFirst first cells later → StandTogether cells
    → StandTogether later
stand_after first cells later f h = (h.0 + first.many, stand_plain h.0 first cells later f h.1)

pub stand_later : (cell : Cell) (cells left : List Cell) → cells ≡ cell ∷ left → StandTogether cells
    → StandTogether left
stand_later cell cells left step h =
    let own : StandFrom h.0 (cell ∷ left) = subst (λ (cs : List Cell). StandFrom h.0 cs) step h.1 in
    (cell.until, own.2)

-- ---- after the last near cell

past_counted : (dots stop : ℕ) (near : Cell → Bool) (passed column : ℕ) (cells : List Cell) → StandFrom column cells
    → stop ≤ column → dots ≤ passed → NoneFrom stop near → columns_from dots near passed cells ≡ dots
past_counted dots stop near passed column [] h le some far = omega (arith, some)
past_counted dots stop near passed column (c ∷ cs) h le some far =
    let off : near c ≡ false = far c (omega (arith, le, h.0)) in
    by_cases {C = columns_from dots near passed (c ∷ cs) ≡ dots} (eqb c.from c.until)
    (λ y. rw y (past_counted dots stop near passed c.until cs h.2 (omega (arith, le, h.0, h.1)) some far))
    (λ n. rw (n, off) (past_counted dots stop near (passed + (c.until - c.from)) c.until cs h.2
    (omega (arith, le, h.0, h.1)) (omega (arith, some)) far))

-- from a cell on that is past only dots are shown
pub line_past : (dots limit stop : ℕ) (near : Cell → Bool) (count : Count) (cell : Cell) (walk left : List Cell)
    (all whole : ℕ) (is : Bool) → is ≡ true → is ≡ leb stop cell.from && leb dots count.passed → walk ≡ cell ∷ left
    → StandTogether walk → NoneFrom stop near → count.shown ≤ limit → all ≡ count.shown + dots →
    IsCounted limit count (whole_count dots near count walk) whole → leb all limit ≡ leb whole limit
line_past dots limit stop near count cell walk left all whole is past both step h far le a inv =
    let parts = and_parts (leb stop cell.from) (leb dots count.passed) (sym both ∙ past) in
    let own : StandFrom h.0 (cell ∷ left) = subst (λ (cs : List Cell). StandFrom h.0 cs) step h.1 in
    let rest : columns_from dots near count.passed (cell ∷ left) ≡ dots = past_counted dots stop near count.passed h.0
    (cell ∷ left) own (omega (arith, own.0, leb-true stop cell.from parts.0))
    (leb-true dots count.passed parts.1) far in
    let same : all ≡ whole = a ∙ ap (λ n. count.shown + n) (sym rest)
    ∙ ap (whole_count dots near count) (sym step) ∙ inv.all le in
    ap (λ n. leb n limit) same

-- ---- in front of the first one

front_plain : (dots end : ℕ) (near : Cell → Bool) (column start from : ℕ) (bytes : List ℕ) (later : List Cell)
    → StandFrom column (plain_cells start from bytes ++ later) → column + length bytes ≤ end → NoneBefore end near →
    columns_from dots near (column + length bytes) later
    ≡ columns_from dots near column (plain_cells start from bytes ++ later)
front_plain dots end near column start from [] later h le far =
    let none : column + 0 ≡ column = omega arith in ap (λ n. columns_from dots near n later) none
front_plain dots end near column start from (b ∷ bs) later h le far =
    let rest : List Cell = plain_cells (start + 1) (from + 1) bs ++ later in
    let off : near (byte_cell b start from) ≡ false = far (byte_cell b start from) (omega (arith, h.0, le)) in
    let more : column + ((from + 1) - from) ≡ from + 1 = omega (arith, h.0) in
    let at : column + suc (length bs) ≡ from + 1 + length bs = omega (arith, h.0) in
    let one : columns_from dots near column (byte_cell b start from ∷ rest) ≡ columns_from dots near (from + 1) rest =
    rw (apart from, off) (ap (λ n. columns_from dots near n rest) more) in
    ap (λ n. columns_from dots near n later) at
    ∙ front_plain dots end near (from + 1) (start + 1) (from + 1) bs later h.2 (omega (arith, at, le)) far
    ∙ sym one

front_cell : (dots end : ℕ) (near : Cell → Bool) (column : ℕ) (c : Cell) (cs : List Cell) → StandFrom column (c ∷ cs)
    → c.until ≤ end → NoneBefore end near →
    columns_from dots near c.until cs ≡ columns_from dots near column (c ∷ cs)
front_cell dots end near column c cs h le far =
    let off : near c ≡ false = far c le in
    let more : c.until ≡ column + (c.until - c.from) = omega (arith, h.0, h.1) in
    by_cases {C = columns_from dots near c.until cs ≡ columns_from dots near column (c ∷ cs)} (eqb c.from c.until)
    (λ y.
    let same : c.until ≡ column = omega (arith, h.0, eqb-true c.from c.until y) in
    rw y (ap (λ n. columns_from dots near n cs) same))
    (λ n. rw (n, off) (ap (λ k. columns_from dots near k cs) more))

-- ---- windows

-- nothing is passed
pub stays_passed : (end : ℕ) (old : Window) → StandsTo end old → HasSkipped end old old
stays_passed end old h = record { stands = h; counts = λ dots near far. refl; stop = refl; left = omega arith }

pub both_passed : (end : ℕ) (a b c : Window) → HasSkipped end a b → HasSkipped end b c → HasSkipped end a c
both_passed end a b c h k = record {
  stands = k.stands;
  counts = λ dots near far. k.counts dots near far ∙ h.counts dots near far;
  stop = k.stop ∙ h.stop;
  left = omega (arith, h.left, k.left);
}

-- printable ASCII that ends no later than in a column
pub plain_passed : (end most : ℕ) (first : PlainCells) (old : Window) (left : List Cell) (column : ℕ)
    → StandsTo end old → most ≡ end - old.column → first.many ≤ most → (f : ComeFirst first old.walk left)
    → column ≡ old.column + first.many →
    HasSkipped end old (record { walk = left; column = column; stop = old.stop })
plain_passed end most first old left column h m few f is =
    let le : old.column + first.many ≤ end = omega (arith, h.1, m, few) in
    let stands : StandFrom old.column (plain_cells first.start first.from f.bytes ++ left) =
    subst (λ (cs : List Cell). StandFrom old.column cs) f.cells_are h.0 in
    let size : length old.walk ≡ length (plain_cells first.start first.from f.bytes ++ left) =
    ap length f.cells_are in
    record {
      stands = (
        subst (λ n. StandFrom n left) (sym is) (stand_plain old.column first old.walk left f h.0),
        omega (arith, is, le),
      );
      counts = λ dots near far. ap (λ n. columns_from dots near n left)
          (is ∙ ap (λ n. old.column + n) (sym f.many))
          ∙ front_plain dots end near old.column first.start first.from f.bytes left stands
          (omega (arith, f.many, le)) far
          ∙ ap (columns_from dots near old.column) (sym f.cells_are);
      stop = refl;
      left = omega (arith, size, longer (plain_cells first.start first.from f.bytes) left);
    }
  where
    longer : (a b : List Cell) → length b ≤ length (a ++ b)
    longer [] b = omega arith
    longer (x ∷ a) b = omega (arith, longer a b)

-- a cell that does
pub cell_passed_by : (end : ℕ) (old : Window) (cell : Cell) (left : List Cell) → StandsTo end old
    → old.walk ≡ cell ∷ left → cell.until ≤ end →
    HasSkipped end old (record { walk = left; column = cell.until; stop = old.stop })
cell_passed_by end old cell left h step le =
    let own : StandFrom old.column (cell ∷ left) = subst (λ (cs : List Cell). StandFrom old.column cs) step h.0 in
    let size : length old.walk ≡ suc (length left) = ap length step in
    record {
      stands = (own.2, le);
      counts = λ dots near far. front_cell dots end near old.column cell left own le far
          ∙ ap (columns_from dots near old.column) (sym step);
      stop = refl;
      left = omega (arith, size);
    }

-- ---- what may be near

none_before : (room : CutSettings) (es : List ℕ) (limit end : ℕ) → 0 < length es → IsNonDecreasing es
    → end + limit ≤ get_or es 0 0 → room.reach ≤ limit → NoneBefore end (near_by room es)
none_before room [] limit end some up le within = absurd (omega (arith, some))
none_before room (e ∷ es) limit end some up le within = λ cell to.
    let off : ltb e (cell.until + room.reach) ≡ false =
    le-ltb e (cell.until + room.reach) (omega (arith, le, within, to)) in
    let here : is_within room.reach cell e ≡ false = ap (λ b. leb cell.from (e + room.reach) && b) off
    ∙ and-false (leb cell.from (e + room.reach)) in
    ap (λ b. b || list_any (is_within room.reach cell) es) here
    ∙ none_within room.reach cell e es (omega (arith, le, within, to)) up

any_past : (reach : ℕ) (cell : Cell) (es : List ℕ) →
    ((i : ℕ) → i < length es → get_or es i 0 + reach < cell.from) → list_any (is_within reach cell) es ≡ false
any_past reach cell [] h = refl
any_past reach cell (e ∷ es) h =
    let off : leb cell.from (e + reach) ≡ false = lt-leb cell.from (e + reach) (h 0 (omega arith)) in
    ap (λ b. (b && ltb e (cell.until + reach)) || list_any (is_within reach cell) es) off
    ∙ any_past reach cell es (λ i lt. h (suc i) (omega (arith, lt)))

none_from : (room : CutSettings) (es : List ℕ) (limit stop : ℕ) → 0 < length es → IsNonDecreasing es
    → get_or es (length es - 1) 0 + limit < stop → room.reach ≤ limit → NoneFrom stop (near_by room es)
none_from room [] limit stop some up lt within = absurd (omega (arith, some))
none_from room (e ∷ es) limit stop some up lt within = λ cell from.
    any_past room.reach cell (e ∷ es) (λ i inside. omega (
      arith,
      up i (length (e ∷ es) - 1) 0 (omega (arith, inside)) (omega arith),
      lt,
      within,
      from,
    ))

pub window_begun : (limit : ℕ) (es : List ℕ) (cells : List Cell) (after : ℕ) (window : Window) → 0 < length es
    → IsNonDecreasing es → StandFrom 0 cells → window.walk ≡ cells → window.column ≡ 0
    → after ≡ get_or es (length es - 1) 0 + limit → window.stop ≡ after + 1 → HoldsNear limit es cells window
window_begun limit es cells after window some up stands walk column b stop = record {
  stands = (0, subst (λ (cs : List Cell). StandFrom 0 cs) (sym walk) stands);
  counts = λ room within. ap (λ n. columns_from room.dots (near_by room es) n window.walk) column
      ∙ ap (columns_from room.dots (near_by room es) 0) walk;
  past = λ room within. none_from room es limit window.stop some up (omega (arith, b, stop)) within;
}

pub window_moved : (limit : ℕ) (es : List ℕ) (cells : List Cell) (end : ℕ) (old new : Window) → 0 < length es
    → IsNonDecreasing es → limit < get_or es 0 0 → end ≡ get_or es 0 0 - limit → HoldsNear limit es cells old
    → HasSkipped end old new → HoldsNear limit es cells new
window_moved limit es cells end old new some up lt e h passed = record {
  stands = (new.column, passed.stands.0);
  counts = λ room within. passed.counts room.dots (near_by room es)
      (none_before room es limit end some up (omega (arith, lt, e)) within) ∙ h.counts room within;
  past = λ room within. subst (λ n. NoneFrom n (near_by room es)) (sym passed.stop) (h.past room within);
}
