-- A highlighter's pieces that end before a stretch, or begin after it, tell nothing of it.
use Rattle.miette_style.specs.views.Printouts.{Printout, ◌⊕◌}
use Rattle.std.proofs.Common.{ℕ, ◌+◌, ◌-◌, ◌≤◌, ◌≡◌, min, cond, List, [], ◌∷◌, length, map, take, drop, refl}
use Rattle.std.proofs.Common.{sym, ap, ◌∙◌, arith}
use Rattle.std.proofs.lemmas.List.{at_drop_all}
use Rattle.miette_style.specs.declared.style.Style.{Style}
use Rattle.miette_style.specs.rules.Rows.{Run}
use Rattle.miette_style.specs.views.Tokens.{begins, row_tokens}
use Rattle.miette_style.proofs.Paging.{put_append}
use Rattle.miette_labels.specs.rules.Answers.{Highlight}
use Rattle.miette_columns.specs.rules.Cells.{Cell}
use Rattle.miette_lines.proofs.Cases.{by_cases}
use Rattle.miette_snippet_rules.specs.rules.PrintedCells.{cells_within, cells_beyond, line_runs, printed_cells}
use Rattle.miette_snippet_rules.specs.rules.CutLines.{pieces_within}
use Rattle.miette_snippet_rules.specs.rules.Highlighting.{highlight_of}
use Rattle.miette_snippet_rules.proofs.RowTokens.{told-append}
use Rattle.miette_snippet_rules.specs.declared.line_part.LinePart.{LinePart}
use Rattle.miette_snippet_rules.specs.views.Cuts.{cut_cells}
use Rattle.miette_snippet_rules.proofs.CellPrints.{beyond_none, within_none}

-- a run of no character, and the runs after it
begun_again : (hs : List Highlight) (cells : List Cell) (style : Style) (p : Printout) → p
    ⊕ row_tokens (line_runs hs cells) ≡ p ⊕ (begins style ∷ row_tokens (line_runs hs cells))
begun_again [] cells style p = refl
begun_again (h ∷ hs) cells style p = refl

no_cells : (hs : List Highlight) (cells : List Cell) (bytes : ℕ) (style : Style) (p : Printout) → bytes ≡ 0 → p
    ⊕ row_tokens (line_runs hs cells) ≡ p
    ⊕ row_tokens (line_runs (record { bytes = bytes; style = style } ∷ hs) cells)
no_cells hs cells bytes style p z =
    begun_again hs cells style p
    ∙ ap (λ (xs : List Cell). p ⊕ row_tokens (run style xs ∷ line_runs hs cells)) (sym (within_none cells))
    ∙ ap (λ (xs : List Cell). p ⊕ row_tokens (run style (cells_within 0 cells) ∷ line_runs hs xs))
    (sym (beyond_none cells))
    ∙ ap (λ (n : ℕ). p ⊕ row_tokens (run style (cells_within n cells) ∷ line_runs hs (cells_beyond n cells))) (sym z)
  where
    run : Style → List Cell → Run
    run style xs = record { style = style; glyphs = printed_cells xs }

-- pieces after a stretch: none of its bytes is left for them
pub none_left : (hs : List Highlight) (before bytes : ℕ) (cells : List Cell) (p : Printout) → bytes ≡ 0 → p
    ⊕ row_tokens (line_runs [] cells) ≡ p ⊕ row_tokens (line_runs (pieces_within before bytes hs) cells)
none_left [] before bytes cells p z = refl
none_left (h ∷ hs) before bytes cells p z =
    let own : min (h.bytes - before) bytes ≡ 0 = omega (arith, z) in
    let left : bytes - (h.bytes - before) ≡ 0 = omega (arith, z) in
    none_left hs (before - h.bytes) (bytes - (h.bytes - before)) cells p left
    ∙ no_cells (pieces_within (before - h.bytes) (bytes - (h.bytes - before)) hs) cells (min (h.bytes - before) bytes)
    h.style p own

-- after the last piece
pub pieces_done : (pieces : List (ℕ × Style)) (i before bytes : ℕ) (cells : List Cell) (p whole : Printout)
    → length pieces ≤ i →
    p ⊕ row_tokens (line_runs (pieces_within before bytes (map highlight_of (drop i pieces))) cells) ≡ whole →
    p ⊕ row_tokens (line_runs [] cells) ≡ whole
pieces_done pieces i before bytes cells p whole le inv =
    ap (λ xs. p ⊕ row_tokens (line_runs (pieces_within before bytes xs) cells))
    (sym (at_drop_all (map highlight_of) pieces i le)) ∙ inv

-- a piece that ends in front of a stretch
piece_before : (h : Highlight) (hs : List Highlight) (before bytes : ℕ) (cells : List Cell) (p : Printout) → h.bytes
    ≤ before → p ⊕ row_tokens (line_runs (pieces_within (before - h.bytes) bytes hs) cells)
    ≡ p ⊕ row_tokens (line_runs (pieces_within before bytes (h ∷ hs)) cells)
piece_before h hs before bytes cells p le =
    let own : min (h.bytes - before) bytes ≡ 0 = omega (arith, le) in
    let left : bytes ≡ bytes - (h.bytes - before) = omega (arith, le) in
    ap (λ n. p ⊕ row_tokens (line_runs (pieces_within (before - h.bytes) n hs) cells)) left
    ∙ no_cells (pieces_within (before - h.bytes) (bytes - (h.bytes - before)) hs) cells (min (h.bytes - before) bytes)
    h.style p own

-- the same of all stretches
pub pieces_passed : (run : Run) (h : Highlight) (hs : List Highlight) (before : ℕ) (cut : List LinePart)
    (cells : List Cell) (p : Printout) → h.bytes ≤ before → p
    ⊕ row_tokens (cut_cells run hs (before - h.bytes) cut cells)
    ≡ p ⊕ row_tokens (cut_cells run (h ∷ hs) before cut cells)
pieces_passed run h hs before [] cells p le = refl
pieces_passed run h hs before (s ∷ later) cells p le =
    let own : List Highlight → ℕ → List Run = λ xs n. cond s.shown
    (line_runs (pieces_within n s.bytes xs) (take s.cells cells)) (run ∷ []) in
    let rest : List Highlight → ℕ → List Run = λ xs n. cut_cells run xs n later (drop s.cells cells) in
    let next : before - h.bytes + s.bytes ≡ before + s.bytes - h.bytes = omega (arith, le) in
    let here : p ⊕ row_tokens (own hs (before - h.bytes)) ≡ p ⊕ row_tokens (own (h ∷ hs) before) =
    by_cases {C = p ⊕ row_tokens (own hs (before - h.bytes)) ≡ p ⊕ row_tokens (own (h ∷ hs) before)} s.shown
    (λ y. rw y (piece_before h hs before s.bytes (take s.cells cells) p le))
    (λ n. rw n refl) in
    ap (λ x. p ⊕ x) (told-append (own hs (before - h.bytes)) (rest hs (before - h.bytes + s.bytes)))
    ∙ sym (put_append p (row_tokens (own hs (before - h.bytes))) (row_tokens (rest hs (before - h.bytes + s.bytes))))
    ∙ ap (λ x. x ⊕ row_tokens (rest hs (before - h.bytes + s.bytes))) here
    ∙ ap (λ n. (p ⊕ row_tokens (own (h ∷ hs) before)) ⊕ row_tokens (rest hs n)) next
    ∙ pieces_passed run h hs (before + s.bytes) later (drop s.cells cells) (p ⊕ row_tokens (own (h ∷ hs) before))
    (omega (arith, le))
    ∙ put_append p (row_tokens (own (h ∷ hs) before)) (row_tokens (rest (h ∷ hs) (before + s.bytes)))
    ∙ ap (λ x. p ⊕ x) (sym (told-append (own (h ∷ hs) before) (rest (h ∷ hs) (before + s.bytes))))
