-- How many columns a line's text has in its row: no more than the limit, or than its ends alone need.
use Rattle.std.proofs.Common.{◌≡◌, ℕ, zero, suc, ◌+◌, ◌-◌, ◌<◌, ◌≤◌, max, Bool, true, false, cond, ltb, leb, eqb, List}
use Rattle.std.proofs.Common.{[], ◌∷◌, length, map, replicate, refl, ap, ap₂, ◌∙◌, Some, arith}
use Rattle.std.proofs.lemmas.Bool.{ltb-true, ltb-false, leb-true, leb-false, eqb-true, lt-leb}
use Rattle.miette_labels.specs.rules.Answers.{Highlight}
use Rattle.miette_columns.specs.rules.Cells.{Cell}
use Rattle.miette_lines.proofs.Cases.{by_cases}
use Rattle.miette_style.specs.rules.Rows.{Glyph, Run, glyphs_of, glyph_columns}
use Rattle.miette_style.specs.rules.Themes.{Characters, Theme}
use Rattle.miette_snippet_rules.specs.rules.CutLines.{LinePart, columns_in, cut_at, cut_line, cut_to, dot, dot_codes}
use Rattle.miette_snippet_rules.specs.rules.CutLines.{dots, dots_width, has_room, limit_of, reach_of, row_columns}
use Rattle.miette_snippet_rules.specs.rules.CutLines.{shown_runs, text_columns}
use Rattle.miette_snippet_rules.specs.rules.PrintedCells.{cells_width, printed_glyphs, printed_cells}
use Rattle.miette_snippet_rules.proofs.CutColumns.{AreColumns}
use Rattle.miette_snippet_rules.proofs.TextColumns.{largest_passes, shown_columns, text_columns_are}
use Rattle.miette_snippet_laws.specs.laws.Cuts.{pieces_shown}
use Rattle.miette_snippet_laws.proofs.CleanTexts.{line_same}
use Rattle.miette_snippet_laws.proofs.Columns.{glyph_columns-append}
use Rattle.miette_snippet_laws.proofs.CutShows.{cut_pieces}

-- ---- the columns of what is printed

spaces-columns : (many : ℕ) → glyph_columns (replicate many (record { code = 32; columns = 1 })) ≡ many
spaces-columns zero = refl
spaces-columns (suc many) = omega (arith, spaces-columns many)

pub printed-columns : (c : Cell) → glyph_columns (printed_glyphs c) ≡ c.until - c.from
printed-columns c =
    by_cases {C = glyph_columns (printed_glyphs c) ≡ c.until - c.from} (eqb c.code 9)
    (λ y. rw y (spaces-columns (c.until - c.from))) (λ n. rw n (omega arith))

pub cells-columns : (cells : List Cell) → glyph_columns (printed_cells cells) ≡ columns_in cells
cells-columns [] = refl
cells-columns (c ∷ cs) = glyph_columns-append (printed_glyphs c) (printed_cells cs)
    ∙ ap₂ (λ a b. a + b) (printed-columns c) (cells-columns cs)

dot-columns : (codes : List ℕ) → glyph_columns (map dot codes) ≡ length codes
dot-columns [] = refl
dot-columns (code ∷ codes) = omega (arith, dot-columns codes)

pub dots-columns : (t : Theme) → glyph_columns (dots t).glyphs ≡ dots_width t.characters
dots-columns t = dot-columns (dot_codes t.characters)

dots_few : (c : Characters) → dots_width c ≤ 3
dots_few c = by_cases {C = dots_width c ≤ 3} (ltb c.vbar 0x80) (λ y. rw y (omega arith)) (λ n. rw n (omega arith))

pub dots_some : (c : Characters) → 0 < dots_width c
dots_some c = by_cases {C = 0 < dots_width c} (ltb c.vbar 0x80) (λ y. rw y (omega arith)) (λ n. rw n (omega arith))

-- what is printed of a stretch, where this run stands for those that aren't shown
abbrev pub own_pieces : Run → LinePart → List Glyph
own_pieces run s = cond s.shown (printed_cells s.cells) run.glyphs

pub own-columns : (run : Run) (many : ℕ) (s : LinePart) → glyph_columns run.glyphs ≡ many
    → glyph_columns (own_pieces run s) ≡ row_columns many s
own-columns run many s all = choice s.shown s.cells
  where
    choice : (b : Bool) (cells : List Cell) → glyph_columns (cond b (printed_cells cells) run.glyphs)
        ≡ cond b (columns_in cells) many
    choice true cells = cells-columns cells
    choice false cells = all

pub pieces-columns : (run : Run) (many : ℕ) (ss : List LinePart) → glyph_columns run.glyphs ≡ many
    → glyph_columns (pieces_shown run ss) ≡ text_columns many ss
pieces-columns run many [] all = refl
pieces-columns run many (s ∷ later) all =
    glyph_columns-append (own_pieces run s) (pieces_shown run later)
    ∙ ap₂ (λ a b. a + b) (own-columns run many s all) (pieces-columns run many later all)

pub whole-columns : (column : ℕ) (cells : List Cell) → AreColumns column cells → column + columns_in cells
    ≡ cells_width column cells
whole-columns column [] h = omega arith
whole-columns column (c ∷ cs) h = omega (arith, h.0, h.1, whole-columns c.until cs h.2)

-- ---- without ends

-- after a column that has no room no cell has room, and what is left out has at most the columns of the dots
far_columns : (limit many column passed : ℕ) (cells : List Cell) → AreColumns column cells → limit < column + many
    → shown_columns many (has_room limit many) passed cells ≤ many
far_columns limit many column passed [] h far = omega arith
far_columns limit many column passed (c ∷ cs) h far =
    let beyond : limit < c.until + many = omega (arith, far, h.0, h.1) in
    by_cases {C = shown_columns many (has_room limit many) passed (c ∷ cs) ≤ many} (eqb c.from c.until)
    (λ y. rw y (far_columns limit many c.until passed cs h.2 beyond))
    (λ n. let none : has_room limit many c ≡ false = lt-leb (c.until + many) limit beyond in
    rw (n, none) (far_columns limit many c.until (passed + (c.until - c.from)) cs h.2 beyond))

-- the cells that have room, and the dots after them
room_columns : (limit many column : ℕ) (cells : List Cell) → AreColumns column cells → column + many ≤ limit
    → column + shown_columns many (has_room limit many) 0 cells ≤ limit
room_columns limit many column [] h le = omega (arith, le)
room_columns limit many column (c ∷ cs) h le =
    by_cases {C = column + shown_columns many (has_room limit many) 0 (c ∷ cs) ≤ limit} (eqb c.from c.until)
    (λ y. let none : c.until ≡ column = omega (arith, h.0, eqb-true c.from c.until y) in
    rw y (omega (arith, none, room_columns limit many c.until cs h.2 (omega (arith, none, le)))))
    (λ n. by_cases {C = column + shown_columns many (has_room limit many) 0 (c ∷ cs) ≤ limit} (has_room limit many c)
    (λ y. let room : c.until + many ≤ limit = leb-true (c.until + many) limit y in
    rw (n, y) (omega (arith, h.0, h.1, room_columns limit many c.until cs h.2 room)))
    (λ f. let far : limit < c.until + many = leb-false (c.until + many) limit f in
    rw (n, f) (omega (arith, le, far_columns limit many c.until (0 + (c.until - c.from)) cs h.2 far))))

-- ---- a line that is cut

cut_fits : (limit many : ℕ) (all : List ℕ) (cells : List Cell) → AreColumns 0 cells → many ≤ limit
    → text_columns many (cut_to limit many all cells) ≤ max limit (text_columns many (cut_at many 0 all cells))
cut_fits limit many [] cells h le =
    let own : text_columns many (cut_to limit many [] cells) ≡ shown_columns many (has_room limit many) 0 cells =
    text_columns_are many (has_room limit many) cells in
    let room : 0 + shown_columns many (has_room limit many) 0 cells ≤ limit =
    room_columns limit many 0 cells h (omega (arith, le)) in omega (arith, own, room)
cut_fits limit many (e ∷ es) cells h le =
    let all : List ℕ = e ∷ es in
    let reach : ℕ = reach_of limit many all cells in
    by_cases {C = text_columns many (cut_at many reach all cells)
    ≤ max limit (text_columns many (cut_at many 0 all cells))} (ltb 0 reach)
    (λ y. let fits : text_columns many (cut_at many reach all cells) ≤ limit =
    leb-true (text_columns many (cut_at many reach all cells)) limit
    (largest_passes (λ r. leb (text_columns many (cut_at many r all cells)) limit) limit (ltb-true 0 reach y)) in
    omega (arith, fits))
    (λ n. let none : reach ≡ 0 = omega (arith, ltb-false 0 reach n) in
    let same : text_columns many (cut_at many reach all cells) ≡ text_columns many (cut_at many 0 all cells) =
    ap (λ r. text_columns many (cut_at many r all cells)) none in omega (arith, same))

pub row_bound : (t : Theme) (limit : ℕ) (pieces : List Highlight) (all : List ℕ) (cells : List Cell)
    → AreColumns 0 cells →
    glyph_columns (glyphs_of (shown_runs (dots t) (cut_line (dots_width t.characters) (Some limit) all cells) pieces
    cells))
    ≤ max (limit_of limit) (text_columns (dots_width t.characters) (cut_at (dots_width t.characters) 0 all cells))
row_bound t limit pieces all cells h =
    let many : ℕ = dots_width t.characters in
    let cut : List LinePart = cut_to (limit_of limit) many all cells in
    let shown : ℕ =
    glyph_columns (glyphs_of (shown_runs (dots t) (cut_line many (Some limit) all cells) pieces cells)) in
    by_cases {C = shown ≤ max (limit_of limit) (text_columns many (cut_at many 0 all cells))}
    (ltb (limit_of limit) (cells_width 0 cells))
    (λ y. let is : shown ≡ text_columns many cut =
    rw y (ap glyph_columns (cut_pieces (dots t) pieces 0 cut) ∙ pieces-columns (dots t) many cut (dots-columns t)) in
    omega (arith, is, cut_fits (limit_of limit) many all cells h (omega (arith, dots_few t.characters))))
    (λ n. let whole : shown ≡ columns_in cells = rw n (ap glyph_columns (line_same pieces cells) ∙ cells-columns cells)
    in
    omega (arith, whole, whole-columns 0 cells h, ltb-false (limit_of limit) (cells_width 0 cells) n))
