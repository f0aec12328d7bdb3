-- Marks stand under the characters of their labels.
use Rattle.std.proofs.Common.{◌≡◌, ℕ, ◌+◌, ◌-◌, ◌<◌, ◌≤◌, max, Bool, true, false, cond, ltb, leb, List, [], ◌∷◌}
use Rattle.std.proofs.Common.{length, map, refl, sym, ap, ap₂, ◌∙◌, subst, inl, inr, ◌⊎◌, ⊎_elim, zero}
use Rattle.std.proofs.Common.{arith, drop, suc}
use Rattle.std.proofs.lemmas.Bool.{lt-ltb, le-ltb, le-leb, lt-leb, leb-true, leb-false, ne_eqb}
use Rattle.std.proofs.lemmas.List.{length-take, nil_from_length}
use Rattle.std.specs.List.{Contains}
use Rattle.std.specs.Prelude.{slice_index_or, slice_range}
use Rattle.bstr.specs.Utf8.{Decoded, or_replacement, pieces}
use Rattle.bstr.proofs.lemmas.PieceLemmas.{pieces-sizes, sizes}
use Rattle.miette_lines.proofs.Cases.{by_cases}
use Rattle.miette_columns.specs.rules.Cells.{Cell, Character, cells_from, characters, hides_next, width_at}
use Rattle.miette_columns.proofs.Stepping.{characters_end}
use Rattle.miette_labels.specs.rules.Labels.{DrawnLabel, one_line}
use Rattle.miette_snippet_rules.specs.rules.Underlines.{MeasuredText, underline_from, underline_until, underlines_from}
use Rattle.miette_snippet_rules.specs.rules.PrintedCells.{cells_width, first_column, last_column, printed_cells}
use Rattle.miette_snippet_rules.specs.rules.PrintedCells.{printed_glyphs}
use Rattle.miette_snippet_rules.specs.rules.SnippetSettings.{SnippetSettings}
use Rattle.miette_snippet_rules.specs.rules.SnippetLayout.{cells_of, line_underlines, text_of_cells}
use Rattle.miette_snippet_rules.proofs.CutColumns.{AreColumns}
use Rattle.miette_lines.specs.rules.Lines.{Line}
use Rattle.miette_snippet_laws.specs.laws.Cuts.{glyph_at}
use Rattle.miette_snippet_laws.specs.laws.LabelUnderlines.{HasByte, CellsKeepColumns, ArePastText, AreUnderLabels}
use Rattle.miette_snippet_laws.proofs.CutMarks.{standing-after, standing-front}
use Rattle.miette_snippet_laws.proofs.CutWidth.{printed-columns}
use Rattle.miette_snippet_laws.proofs.Whole.{line_columns}

-- ---- the bytes of cells, one after the other, from an offset on and up to another one

abbrev AreBytes : ℕ → ℕ → List Cell → Type 0
AreBytes at end [] = Unit {0}
AreBytes at end (c ∷ cs) = (c.start ≡ at) × (c.start ≤ c.after) × (c.after ≤ end) × AreBytes c.after end cs

abbrev bytes_of : List Character → ℕ
bytes_of [] = 0
bytes_of (c ∷ cs) = c.bytes + bytes_of cs

bytes_from : (w : ℕ → ℕ) (tab : ℕ) (hidden : Bool) (offset column end : ℕ) (cs : List Character)
    → offset + bytes_of cs ≤ end → AreBytes offset end (cells_from w tab hidden offset column cs)
bytes_from w tab hidden offset column end [] le = tt
bytes_from w tab hidden offset column end (c ∷ cs) le = (
  refl,
  omega arith,
  omega (arith, le),
  bytes_from w tab (hides_next hidden c.code) (offset + c.bytes) (column + width_at w tab hidden column c.code) end cs
      (omega (arith, le)),
)

bytes_decoded : (ps : List Decoded)
    → bytes_of (map (λ p. record { code = or_replacement p.char; bytes = p.size }) ps) ≡ sizes ps
unfolding sizes
bytes_decoded [] = refl
bytes_decoded (p ∷ ps) = ap (λ n. p.size + n) (bytes_decoded ps)

bytes_whole : (bytes : List ℕ) → bytes_of (characters bytes) ≡ length bytes
bytes_whole bytes = bytes_decoded (pieces bytes) ∙ pieces-sizes (length bytes) bytes (omega arith)

line_bytes : (s : SnippetSettings) (source : List ℕ) (line : Line)
    → AreBytes line.start line.text_end (cells_of s source line)
line_bytes s source line =
    let bytes : List ℕ = slice_range source line.start line.text_end in
    let many : length bytes ≤ line.text_end - line.start =
    omega (arith, length-take (line.text_end - line.start) (drop line.start source)) in
    by_cases {C = AreBytes line.start line.text_end (cells_of s source line)} (leb line.start line.text_end)
    (λ y. bytes_from s.width s.layout.tab_width false line.start 0 line.text_end (characters bytes)
    (omega (arith, many, bytes_whole bytes, leb-true line.start line.text_end y)))
    (λ n. let none : bytes ≡ [] = nil_from_length bytes (omega (arith, many, leb-false line.start line.text_end n)) in
    subst (λ (cs : List Character). AreBytes line.start line.text_end
    (cells_from s.width s.layout.tab_width false line.start 0 cs)) (sym (characters_end bytes none)) tt)

-- ---- the cell that has a byte

in_front : (c : Cell) (cs : List Cell) (cell : Cell) (k : ℕ) → k < length (c ∷ cs)
    → slice_index_or (c ∷ cs) k cell ≡ cell → (cell ≡ c) ⊎ Contains cs cell
in_front c cs cell zero lt is = inl (sym is)
in_front c cs cell (suc k) lt is = inr (k, omega (arith, lt), is)

-- the first of some cells, or one of the others
first_or_later : (c : Cell) (cs : List Cell) (cell : Cell) → Contains (c ∷ cs) cell → (cell ≡ c) ⊎ Contains cs cell
first_or_later c cs cell there = in_front c cs cell there.0 there.1 there.2

-- it begins no earlier than what stands before it ends
later_byte : (at end : ℕ) (cells : List Cell) (cell : Cell) → AreBytes at end cells → Contains cells cell
    → at ≤ cell.start
later_byte at end [] cell are there = absurd (omega (arith, there.1))
later_byte at end (c ∷ cs) cell are there =
    ⊎_elim {C = at ≤ cell.start} (λ (e : cell ≡ c). omega (arith, are.0, ap (λ (x : Cell). x.start) e))
    (λ (later : Contains cs cell). omega (arith, are.0, are.1, later_byte c.after end cs cell are.3 later))
    (first_or_later c cs cell there)

later_column : (column : ℕ) (cells : List Cell) (cell : Cell) → AreColumns column cells → Contains cells cell
    → column ≤ cell.from
later_column column [] cell are there = absurd (omega (arith, there.1))
later_column column (c ∷ cs) cell are there =
    ⊎_elim {C = column ≤ cell.from} (λ (e : cell ≡ c). omega (arith, are.0, ap (λ (x : Cell). x.from) e))
    (λ (later : Contains cs cell). omega (arith, are.0, are.1, later_column c.until cs cell are.2 later))
    (first_or_later c cs cell there)

first_at : (at end : ℕ) (cells : List Cell) (text_end width offset : ℕ) (cell : Cell) → AreBytes at end cells
    → Contains cells cell → HasByte cell offset → first_column cells text_end width offset ≡ cell.from
first_at at end [] text_end width offset cell are there has = absurd (omega (arith, there.1))
first_at at end (c ∷ cs) text_end width offset cell are there has =
    ⊎_elim {C = first_column (c ∷ cs) text_end width offset ≡ cell.from}
    (λ (e : cell ≡ c). let y : ltb offset c.after ≡ true =
    lt-ltb offset c.after (omega (arith, has.1, ap (λ (x : Cell). x.after) e)) in
    rw y (sym (ap (λ (x : Cell). x.from) e)))
    (λ (later : Contains cs cell). let n : ltb offset c.after ≡ false =
    le-ltb offset c.after (omega (arith, has.0, later_byte c.after end cs cell are.3 later)) in
    rw n (first_at c.after end cs text_end width offset cell are.3 later has))
    (first_or_later c cs cell there)

-- after an offset up to which no cell begins
after_at : (column at end : ℕ) (cells : List Cell) (offset : ℕ) → AreColumns column cells → AreBytes at end cells
    → offset ≤ at → at ≤ end → last_column cells end (cells_width column cells) offset ≡ column
after_at column at end [] offset columns are le fits = rw (le-leb offset end (omega (arith, le, fits))) refl
after_at column at end (c ∷ cs) offset columns are le fits =
    rw (le-leb offset c.start (omega (arith, are.0, le))) columns.0

last_at : (column at end : ℕ) (cells : List Cell) (offset : ℕ) (cell : Cell) → AreColumns column cells
    → AreBytes at end cells → Contains cells cell → 0 < offset → HasByte cell (offset - 1)
    → last_column cells end (cells_width column cells) offset ≡ cell.until
last_at column at end [] offset cell columns are there some has = absurd (omega (arith, there.1))
last_at column at end (c ∷ cs) offset cell columns are there some has =
    ⊎_elim {C = last_column (c ∷ cs) end (cells_width column (c ∷ cs)) offset ≡ cell.until}
    (λ (e : cell ≡ c). let n : leb offset c.start ≡ false =
    lt-leb offset c.start (omega (arith, some, has.0, ap (λ (x : Cell). x.start) e)) in
    rw n (after_at c.until c.after end cs offset columns.2 are.3
    (omega (arith, some, has.1, ap (λ (x : Cell). x.after) e)) are.2 ∙ sym (ap (λ (x : Cell). x.until) e)))
    (λ (later : Contains cs cell). let n : leb offset c.start ≡ false =
    lt-leb offset c.start (omega (arith, some, has.0, are.1, later_byte c.after end cs cell are.3 later)) in
    rw n (last_at c.until c.after end cs offset cell columns.2 are.3 later some has))
    (first_or_later c cs cell there)

-- ---- marks

under_from : (end : ℕ) (cells : List Cell) (at reached : ℕ) (labels : List DrawnLabel) → AreColumns 0 cells
    → AreBytes at end cells →
    AreUnderLabels cells reached (underlines_from (text_of_cells cells end) reached labels)
under_from end cells at reached [] columns are = tt
under_from end cells at reached (label ∷ labels) columns are =
    let text : MeasuredText = text_of_cells cells end in
    let from : ℕ = underline_from text reached label in
    let first : ℕ = first_column cells end text.width label.start in
    let last : ℕ = last_column cells end text.width label.after in (
      record {
        first = λ cell there has shown. ap (λ b. max (cond b text.width first) reached) shown
            ∙ ap (λ n. max n reached) (first_at at end cells end text.width label.start cell are there has);
        last = λ cell there some has.
            ap (λ b. cond b (from + 1) (max last (from + 1)))
            (ne_eqb label.start label.after (λ e. omega (arith, some, e)))
            ∙ ap (λ n. max n (from + 1))
            (last_at 0 at end cells label.after cell columns are there (omega (arith, some)) has);
        empty = λ y. ap (λ b. cond b (from + 1) (max last (from + 1))) y;
      },
      under_from end cells at (underline_until text reached label) labels columns are,
    )

pub stand_under : (s : SnippetSettings) (labels : List DrawnLabel) (source : List ℕ) (line : Line)
    → AreUnderLabels (cells_of s source line) 0 (line_underlines line (cells_of s source line) (one_line line labels))
stand_under s labels source line =
    under_from line.text_end (cells_of s source line) line.start 0 (one_line line labels) (line_columns s source line)
    (line_bytes s source line)

-- ---- marks after the text, which no cell has

first_at_end : (at end : ℕ) (cells : List Cell) (width offset : ℕ) → AreBytes at end cells → offset ≡ end
    → first_column cells end width offset ≡ width
first_at_end at end [] width offset are is = rw (le-leb offset end (omega (arith, is))) refl
first_at_end at end (c ∷ cs) width offset are is =
    rw (le-ltb offset c.after (omega (arith, are.2, is))) (first_at_end c.after end cs width offset are.3 is)

first_after : (at end : ℕ) (cells : List Cell) (width offset : ℕ) → AreBytes at end cells → end < offset
    → first_column cells end width offset ≡ width + 1
first_after at end [] width offset are lt = rw (lt-leb offset end lt) refl
first_after at end (c ∷ cs) width offset are lt =
    rw (le-ltb offset c.after (omega (arith, are.2, lt))) (first_after c.after end cs width offset are.3 lt)

last_past : (at end : ℕ) (cells : List Cell) (width offset : ℕ) → AreBytes at end cells → end < offset
    → last_column cells end width offset ≡ width + 1
last_past at end [] width offset are lt = rw (lt-leb offset end lt) refl
last_past at end (c ∷ cs) width offset are lt =
    rw (lt-leb offset c.start (omega (arith, are.1, are.2, lt))) (last_past c.after end cs width offset are.3 lt)

past_from : (end : ℕ) (cells : List Cell) (at reached : ℕ) (labels : List DrawnLabel) → AreBytes at end cells
    → ArePastText end (cells_width 0 cells) reached (underlines_from (text_of_cells cells end) reached labels)
past_from end cells at reached [] are = tt
past_from end cells at reached (label ∷ labels) are =
    let text : MeasuredText = text_of_cells cells end in
    let from : ℕ = underline_from text reached label in
    let first : ℕ = first_column cells end text.width label.start in
    let last : ℕ = last_column cells end text.width label.after in (
      record {
        at_end = λ is shown. ap (λ b. max (cond b text.width first) reached) shown
            ∙ ap (λ n. max n reached) (first_at_end at end cells text.width label.start are is);
        after_end = λ lt shown. ap (λ b. max (cond b text.width first) reached) shown
            ∙ ap (λ n. max n reached) (first_after at end cells text.width label.start are lt);
        last = λ some lt.
            ap (λ b. cond b (from + 1) (max last (from + 1)))
            (ne_eqb label.start label.after (λ e. omega (arith, some, e)))
            ∙ ap (λ n. max n (from + 1)) (last_past at end cells text.width label.after are lt);
      },
      past_from end cells at (underline_until text reached label) labels are,
    )

pub stand_past : (s : SnippetSettings) (labels : List DrawnLabel) (source : List ℕ) (line : Line)
    → ArePastText line.text_end (cells_width 0 (cells_of s source line)) 0
    (line_underlines line (cells_of s source line) (one_line line labels))
stand_past s labels source line =
    past_from line.text_end (cells_of s source line) line.start 0 (one_line line labels) (line_bytes s source line)

-- ---- what is printed at the columns of a cell

stands_at : (from : ℕ) (cells : List Cell) (cell : Cell) (column : ℕ) → AreColumns from cells → Contains cells cell
    → cell.from ≤ column → column < cell.until →
    glyph_at (printed_cells cells) (column - from) ≡ glyph_at (printed_glyphs cell) (column - cell.from)
stands_at from [] cell column are there le lt = absurd (omega (arith, there.1))
stands_at from (c ∷ cs) cell column are there le lt =
    ⊎_elim {C = glyph_at (printed_cells (c ∷ cs)) (column - from)
    ≡ glyph_at (printed_glyphs cell) (column - cell.from)}
    (λ (e : cell ≡ c). let first : cell.from ≡ c.from = ap (λ (x : Cell). x.from) e in
    let last : cell.until ≡ c.until = ap (λ (x : Cell). x.until) e in
    standing-front (printed_glyphs c) (printed_cells cs) (column - from)
    (omega (arith, printed-columns c, are.0, first, last, le, lt))
    ∙ ap₂ (λ x n. glyph_at (printed_glyphs x) n) (sym e) (omega (arith, are.0, first)))
    (λ (later : Contains cs cell). let past : c.until ≤ cell.from = later_column c.until cs cell are.2 later in
    standing-after (printed_glyphs c) (printed_cells cs) (column - from)
    (omega (arith, printed-columns c, are.0, past, le))
    ∙ ap (glyph_at (printed_cells cs)) (omega (arith, printed-columns c, are.0, are.1, past, le))
    ∙ stands_at c.until cs cell column are.2 later le lt)
    (first_or_later c cs cell there)

pub stand_at : (s : SnippetSettings) (source : List ℕ) (line : Line) → CellsKeepColumns (cells_of s source line)
stand_at s source line cell there column le lt =
    ap (glyph_at (printed_cells (cells_of s source line))) (omega arith)
    ∙ stands_at 0 (cells_of s source line) cell column (line_columns s source line) there le lt
