-- A line that is cut shows exactly what is near, and what is short between.
use Rattle.std.proofs.Common.{◌≡◌, ◌≢◌, ℕ, ◌+◌, ◌-◌, ◌<◌, ◌≤◌, Bool, true, false, cond, ltb, leb, max, min, List, []}
use Rattle.std.proofs.Common.{◌∷◌, ◌++◌, map, refl, sym, ap, ap₂, ◌∙◌, append_assoc, append-nil, arith}
use Rattle.std.proofs.lemmas.Bool.{lt-ltb, le-leb, ltb-true, leb-true, and_from, and_parts}
use Rattle.std.proofs.lemmas.List.{map-append}
use Rattle.miette_labels.specs.rules.Answers.{Highlight}
use Rattle.miette_columns.specs.rules.Cells.{Cell}
use Rattle.miette_lines.proofs.Cases.{by_cases}
use Rattle.miette_style.specs.rules.Rows.{Run, glyphs_of}
use Rattle.miette_snippet_rules.specs.rules.CutLines.{LinePart, agree, cell_bytes, cut_runs, cut_to, has_room}
use Rattle.miette_snippet_rules.specs.rules.CutLines.{is_part_shown}
use Rattle.miette_snippet_rules.specs.rules.CutLines.{is_near, is_within, prepend_part, is_near_after, pieces_within}
use Rattle.miette_snippet_rules.specs.rules.CutLines.{reach_of, line_parts, with_short_parts}
use Rattle.miette_snippet_rules.specs.rules.PrintedCells.{line_runs, printed_cells}
use Rattle.miette_snippet_laws.specs.laws.Cuts.{AreLineParts, IsCutBy, IsCellWithin, by_kept, by_nearness, by_line_part}
use Rattle.miette_snippet_laws.specs.laws.Cuts.{pieces_shown}
use Rattle.miette_snippet_laws.proofs.CleanTexts.{line_same}
use Rattle.miette_snippet_laws.proofs.GlyphsOfRows.{glyphs_of-append}

pub agree-same : (a b : Bool) → agree a b ≡ true → b ≡ a
agree-same true b h = h
agree-same false true h = sym h
agree-same false false h = refl

agree-not : (a b : Bool) → agree a b ≡ false → a ≢ b
agree-not true true h e = absurd (cc)
agree-not true false h e = absurd (cc)
agree-not false true h e = absurd (cc)
agree-not false false h e = absurd (cc)

-- ---- each cell once, in order, in a stretch that is shown where it is near

onto_stretch : (s : LinePart) (ss : List LinePart) → by_line_part (prepend_part s ss)
    ≡ map (λ cell. (cell, s.shown)) s.cells ++ by_line_part ss
onto_stretch s [] = refl
onto_stretch s (next ∷ later) =
    by_cases {C = by_line_part (prepend_part s (next ∷ later)) ≡ map (λ cell. (cell, s.shown)) s.cells
    ++ by_line_part (next ∷ later)} (agree s.shown next.shown)
    (λ y. let same : next.shown ≡ s.shown = agree-same s.shown next.shown y in
    rw (y, same) (ap (λ xs. xs ++ by_line_part later) (map-append (λ cell. (cell, s.shown)) s.cells next.cells)
    ∙ append_assoc (map (λ cell. (cell, s.shown)) s.cells) (map (λ cell. (cell, s.shown)) next.cells)
    (by_line_part later)))
    (λ n. rw n refl)

cells_near : (near : Cell → Bool) (before : Bool) (cells : List Cell) → by_line_part (line_parts near before cells)
    ≡ by_nearness near before cells
cells_near near before [] = refl
cells_near near before (c ∷ cs) =
    let here : Bool = is_near_after near before c in
    onto_stretch (record { shown = here; cells = c ∷ [] }) (line_parts near here cs)
    ∙ ap (λ xs. (c, here) ∷ xs) (cells_near near here cs)

cells_kept : (many : ℕ) (ss : List LinePart) → by_line_part (with_short_parts many ss) ≡ by_kept many ss
cells_kept many [] = refl
cells_kept many (s ∷ later) =
    onto_stretch (record { shown = is_part_shown many s; cells = s.cells }) (with_short_parts many later)
    ∙ ap (λ xs. map (λ cell. (cell, is_part_shown many s)) s.cells ++ xs) (cells_kept many later)

-- the cells of stretches are those of the line
abbrev pub cells_in : List LinePart → List Cell
cells_in [] = []
cells_in (s ∷ later) = s.cells ++ cells_in later

onto_cells : (s : LinePart) (ss : List LinePart) → cells_in (prepend_part s ss) ≡ s.cells ++ cells_in ss
onto_cells s [] = refl
onto_cells s (next ∷ later) =
    by_cases {C = cells_in (prepend_part s (next ∷ later)) ≡ s.cells ++ cells_in (next ∷ later)}
    (agree s.shown next.shown) (λ y. rw y (append_assoc s.cells next.cells (cells_in later))) (λ n. rw n refl)

near_cells_in : (near : Cell → Bool) (before : Bool) (cells : List Cell)
    → cells_in (line_parts near before cells) ≡ cells
near_cells_in near before [] = refl
near_cells_in near before (c ∷ cs) =
    let here : Bool = is_near_after near before c in
    onto_cells (record { shown = here; cells = c ∷ [] }) (line_parts near here cs)
    ∙ ap (λ xs. c ∷ xs) (near_cells_in near here cs)

short_cells_in : (many : ℕ) (ss : List LinePart) → cells_in (with_short_parts many ss) ≡ cells_in ss
short_cells_in many [] = refl
short_cells_in many (s ∷ later) =
    onto_cells (record { shown = is_part_shown many s; cells = s.cells }) (with_short_parts many later)
    ∙ ap (λ xs. s.cells ++ xs) (short_cells_in many later)

pub whole_cells : (many : ℕ) (near : Cell → Bool) (cells : List Cell)
    → cells_in (with_short_parts many (line_parts near false cells)) ≡ cells
whole_cells many near cells = short_cells_in many (line_parts near false cells) ∙ near_cells_in near false cells

-- a line that is cut keeps its cells
pub cut_cells : (limit many : ℕ) (all : List ℕ) (cells : List Cell) → cells_in (cut_to limit many all cells) ≡ cells
cut_cells limit many [] cells = whole_cells many (has_room limit many) cells
cut_cells limit many (e ∷ es) cells = whole_cells many (is_near (reach_of limit many (e ∷ es) cells) (e ∷ es)) cells

-- ---- stretches are parted

more : (c : Cell) (cs : List Cell) → c ∷ cs ≢ []
more c cs e = absurd (cc)

some_more : (a b : List Cell) → a ≢ [] → a ++ b ≢ []
some_more [] b some = absurd (some refl)
some_more (c ∷ cs) b some = more c (cs ++ b)

grown_parted : (s next : LinePart) (later : List LinePart) → s.cells ≢ [] → next.shown ≡ s.shown
    → AreLineParts (next ∷ later) → AreLineParts (record { shown = s.shown; cells = s.cells ++ next.cells } ∷ later)
grown_parted s next [] some e h = some_more s.cells next.cells some
grown_parted s next (l ∷ ls) some e h = (some_more s.cells next.cells some, λ same. h.1 (e ∙ same), h.2)

onto_parted : (s : LinePart) (ss : List LinePart) → s.cells ≢ [] → AreLineParts ss
    → AreLineParts (prepend_part s ss)
onto_parted s [] some h = some
onto_parted s (next ∷ later) some h =
    by_cases {C = AreLineParts (prepend_part s (next ∷ later))} (agree s.shown next.shown)
    (λ y. rw y (grown_parted s next later some (agree-same s.shown next.shown y) h))
    (λ n. rw n (some, agree-not s.shown next.shown n, h))

stretches_parted : (near : Cell → Bool) (before : Bool) (cells : List Cell)
    → AreLineParts (line_parts near before cells)
stretches_parted near before [] = tt
stretches_parted near before (c ∷ cs) =
    let here : Bool = is_near_after near before c in
    onto_parted (record { shown = here; cells = c ∷ [] }) (line_parts near here cs) (more c [])
    (stretches_parted near here cs)

first_some : (s : LinePart) (later : List LinePart) → AreLineParts (s ∷ later) → s.cells ≢ []
first_some s [] h = h
first_some s (next ∷ later) h = h.0

later_parted : (s : LinePart) (later : List LinePart) → AreLineParts (s ∷ later) → AreLineParts later
later_parted s [] h = tt
later_parted s (next ∷ later) h = h.2

short_parted : (many : ℕ) (ss : List LinePart) → AreLineParts ss → AreLineParts (with_short_parts many ss)
short_parted many [] h = tt
short_parted many (s ∷ later) h =
    onto_parted (record { shown = is_part_shown many s; cells = s.cells }) (with_short_parts many later)
    (first_some s later h)
    (short_parted many later (later_parted s later h))

pub cut_by : (near : Cell → Bool) (many : ℕ) (cells : List Cell)
    → IsCutBy near many cells (with_short_parts many (line_parts near false cells))
cut_by near many cells = record {
  parts = line_parts near false cells;
  nearness = cells_near near false cells;
  parted = stretches_parted near false cells;
  shown = cells_kept many (line_parts near false cells);
  joined = short_parted many (line_parts near false cells) (stretches_parted near false cells);
}

-- ---- what it means to be near

pub within_is : (reach : ℕ) (cell : Cell) (column : ℕ) → cell.from < cell.until → is_within reach cell column ≡ true
    → IsCellWithin reach cell column
within_is reach cell column some h =
    let parts = and_parts (leb cell.from (column + reach)) (ltb column (cell.until + reach)) h in
    let low : cell.from ≤ column + reach = leb-true cell.from (column + reach) parts.0 in
    let high : column < cell.until + reach = ltb-true column (cell.until + reach) parts.1 in record {
      own = max cell.from (min column (cell.until - 1));
      first = omega arith;
      last = omega (arith, some);
      before = omega (arith, low);
      after = omega (arith, some, high);
    }

pub is_within_of : (reach : ℕ) (cell : Cell) (column : ℕ) → IsCellWithin reach cell column → is_within reach cell column
    ≡ true
is_within_of reach cell column h =
    and_from (leb cell.from (column + reach)) (ltb column (cell.until + reach))
    (le-leb cell.from (column + reach) (omega (arith, h.first, h.before)))
    (lt-ltb column (cell.until + reach) (omega (arith, h.last, h.after)))

-- ---- what is printed

pub cut_pieces : (run : Run) (pieces : List Highlight) (before : ℕ) (ss : List LinePart)
    → glyphs_of (cut_runs run pieces before ss) ≡ pieces_shown run ss
cut_pieces run pieces before [] = refl
cut_pieces run pieces before (s ∷ later) =
    let own : List Highlight = pieces_within before (cell_bytes s.cells) pieces in
    glyphs_of-append (cond s.shown (line_runs own s.cells) (run ∷ []))
    (cut_runs run pieces (before + cell_bytes s.cells) later)
    ∙ ap₂ (λ a b. a ++ b) (choice s.shown own s.cells) (cut_pieces run pieces (before + cell_bytes s.cells) later)
  where
    choice : (b : Bool) (own : List Highlight) (cells : List Cell)
        → glyphs_of (cond b (line_runs own cells) (run ∷ [])) ≡ cond b (printed_cells cells) run.glyphs
    choice true own cells = line_same own cells
    choice false own cells = append-nil run.glyphs
