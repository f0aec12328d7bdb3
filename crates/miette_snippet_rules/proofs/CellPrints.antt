-- What cells tell.
use Rattle.miette_style.specs.views.Printouts.{Printout, ◌⊕◌}
use Rattle.std.proofs.Common.{ℕ, zero, suc, ◌+◌, ◌-◌, ◌<◌, ◌≤◌, ◌≡◌, Bool, false, cond, eqb, List, [], ◌∷◌, ◌++◌, map}
use Rattle.std.proofs.Common.{length, drop, get_or, replicate, refl, sym, ap, ◌∙◌, append-nil, arith}
use Rattle.std.proofs.lemmas.Bool.Decides.{nat_tests}
use Rattle.std.proofs.lemmas.List.{at_drop_more, at_drop_all, map-append}
use Rattle.std.proofs.lemmas.Bool.{eq-eqb}
use Rattle.miette_style.specs.declared.style.Style.{Style}
use Rattle.miette_labels.specs.rules.Answers.{Highlight}
use Rattle.miette_style.specs.rules.Rows.{Glyph}
use Rattle.miette_style.specs.rules.Styles.{plain}
use Rattle.miette_snippet_rules.specs.rules.PrintedCells.{printed_glyphs, printed_cells, cells_within, cells_beyond}
use Rattle.miette_snippet_rules.specs.rules.PrintedCells.{text_bytes, line_runs}
use Rattle.miette_columns.specs.rules.Cells.{Cell}
use Rattle.miette_style.specs.views.Tokens.{RowToken, begins, row_tokens, text_tokens}
use Rattle.miette_snippet_rules.specs.steps.CellTokens.{cells_tokens}
use Rattle.miette_snippet_rules.specs.rules.Highlighting.{highlight_of}
use Rattle.miette_style.proofs.Paging.{told_append, put_append, put_nil}
use Rattle.miette_snippet_rules.proofs.RowTokens.{then}

-- a cell
pub codes_of_tab : (n : ℕ) → replicate n 32 ≡ map (λ (p : Glyph). p.code)
    (replicate n (record { code = 32; columns = 1 }))
codes_of_tab zero = refl
codes_of_tab (suc n) = ap (λ r. 32 ∷ r) (codes_of_tab n)

abbrev print_by : Cell → Bool → List RowToken
print_by cell b = text_tokens (map (λ (p : Glyph). p.code)
    (cond b (replicate (cell.until - cell.from) (record { code = 32; columns = 1 }))
    (record { code = cell.code; columns = cell.until - cell.from } ∷ [])))

pub tab_put : (cell : Cell) (n : ℕ) (p q : Printout) → cell.code ≡ 9 → n ≡ cell.until - cell.from → q ≡ p
    ⊕ text_tokens (replicate n 32) → q ≡ p ⊕ text_tokens (map (λ p. p.code) (printed_glyphs cell))
tab_put cell n p q e z h =
    h ∙ ap (λ k. p ⊕ text_tokens (replicate k 32)) z ∙ ap (λ cs. p ⊕ text_tokens cs)
    (codes_of_tab (cell.until - cell.from))
    ∙ ap (λ b. p ⊕ print_by cell b) (sym (eq-eqb cell.code 9 e))

-- cells
cells_told-cons : (cell : Cell) (cells : List Cell) → cells_tokens (cell ∷ cells)
    ≡ text_tokens (map (λ p. p.code) (printed_glyphs cell)) ++ cells_tokens cells
cells_told-cons cell cells = ap text_tokens (map-append _ (printed_glyphs cell) (printed_cells cells))
    ∙ told_append (map (λ p. p.code) (printed_glyphs cell)) (map (λ p. p.code) (printed_cells cells))

pub cells_more : (cell : Cell) (cells later : List Cell) (p q whole : Printout) → cells ≡ cell ∷ later → q ≡ p
    ⊕ text_tokens (map (λ p. p.code) (printed_glyphs cell)) → p ⊕ cells_tokens cells ≡ whole → q ⊕ cells_tokens later
    ≡ whole
cells_more cell cells later p q whole e hq h =
    ap (λ x. x ⊕ cells_tokens later) hq ∙ put_append p (text_tokens (map (λ p. p.code) (printed_glyphs cell)))
    (cells_tokens later) ∙ ap (λ x. p ⊕ x) (sym (cells_told-cons cell later)) ∙ ap (λ x. p ⊕ cells_tokens x) (sym e)
    ∙ h

-- the cells that fill a number of bytes
unequal : (n : ℕ) → 0 < n → eqb n 0 ≡ false
unequal n h = grind (arith, nat_tests)

within_cons : (bytes : ℕ) (cell : Cell) (cells : List Cell) → 0 < bytes → cells_within bytes (cell ∷ cells) ≡ cell
    ∷ cells_within (bytes - text_bytes cell.code) cells
within_cons bytes cell cells h = ap (λ b. cond b [] (cell ∷ cells_within (bytes - text_bytes cell.code) cells))
    (unequal bytes h)

beyond_cons : (bytes : ℕ) (cell : Cell) (cells : List Cell) → 0 < bytes → cells_beyond bytes (cell ∷ cells)
    ≡ cells_beyond (bytes - text_bytes cell.code) cells
beyond_cons bytes cell cells h = ap (λ b. cond b (cell ∷ cells) (cells_beyond (bytes - text_bytes cell.code) cells))
    (unequal bytes h)

pub within_none : (cells : List Cell) → cells_within 0 cells ≡ []
within_none [] = refl
within_none (c ∷ cs) = refl

pub beyond_none : (cells : List Cell) → cells_beyond 0 cells ≡ cells
beyond_none [] = refl
beyond_none (c ∷ cs) = refl

pub within_more : (bytes less : ℕ) (cell : Cell) (cells later : List Cell) (p q whole : Printout) → 0 < bytes → less
    ≡ bytes - text_bytes cell.code → cells ≡ cell ∷ later → q ≡ p
    ⊕ text_tokens (map (λ p. p.code) (printed_glyphs cell)) →
    p ⊕ cells_tokens (cells_within bytes cells) ≡ whole → q ⊕ cells_tokens (cells_within less later) ≡ whole
within_more bytes less cell cells later p q whole some z e hq h =
    ap (λ k. q ⊕ cells_tokens (cells_within k later)) z
    ∙ cells_more cell (cells_within bytes cells) (cells_within (bytes - text_bytes cell.code) later) p q whole
    (ap (cells_within bytes) e ∙ within_cons bytes cell later some) hq h

pub beyond_more : (bytes less : ℕ) (cell : Cell) (cells later whole : List Cell) → 0 < bytes → less ≡ bytes
    - text_bytes cell.code → cells ≡ cell ∷ later → cells_beyond bytes cells ≡ whole → cells_beyond less later ≡ whole
beyond_more bytes less cell cells later whole some z e h =
    ap (λ k. cells_beyond k later) z ∙ sym (beyond_cons bytes cell later some) ∙ ap (cells_beyond bytes) (sym e) ∙ h

-- one more of a highlighter's pieces
pub piece_more : (pieces : List (ℕ × Style)) (i bytes : ℕ) (d : ℕ × Style) (style : Style) (cells later : List Cell)
    (p q r whole : Printout) → i < length pieces → bytes ≡ (get_or pieces i d).0 → style ≡ (get_or pieces i d).1 →
    q ≡ p ⊕ begins style ∷ [] → r ≡ q ⊕ cells_tokens (cells_within bytes cells) → later ≡ cells_beyond bytes cells →
    p ⊕ row_tokens (line_runs (map highlight_of (drop i pieces)) cells) ≡ whole → r
    ⊕ row_tokens (line_runs (map highlight_of (drop (i + 1) pieces)) later) ≡ whole
piece_more pieces i bytes d style cells later p q r whole lt eb es hq hr l h =
    let hs : List Highlight = map highlight_of (drop (i + 1) pieces) in
    let n : ℕ = (get_or pieces i d).0 in
    ap (λ x. r ⊕ row_tokens (line_runs hs x)) l
    ∙ ap (λ x. x ⊕ row_tokens (line_runs hs (cells_beyond bytes cells)))
    (then p (begins style ∷ []) (cells_tokens (cells_within bytes cells)) hq hr)
    ∙ put_append p (begins style ∷ cells_tokens (cells_within bytes cells))
    (row_tokens (line_runs hs (cells_beyond bytes cells)))
    ∙ ap (λ x. p ⊕ (begins style ∷ cells_tokens (cells_within x cells)
    ++ row_tokens (line_runs hs (cells_beyond x cells)))) eb
    ∙ ap (λ x. p ⊕ (begins x ∷ cells_tokens (cells_within n cells) ++ row_tokens (line_runs hs (cells_beyond n cells))))
    es
    ∙ ap (λ xs. p ⊕ row_tokens (line_runs xs cells)) (sym (at_drop_more (map highlight_of) pieces i d lt)) ∙ h

pub piece_end : (pieces : List (ℕ × Style)) (i : ℕ) (cells : List Cell) (p q r whole : Printout) → length pieces ≤ i → q
    ≡ p ⊕ begins plain ∷ [] → r ≡ q ⊕ cells_tokens cells →
    p ⊕ row_tokens (line_runs (map highlight_of (drop i pieces)) cells) ≡ whole → r ≡ whole
piece_end pieces i cells p q r whole le hq hr h =
    then p (begins plain ∷ []) (cells_tokens cells) hq hr
    ∙ ap (λ x. p ⊕ x) (sym (append-nil (begins plain ∷ cells_tokens cells)))
    ∙ ap (λ xs. p ⊕ row_tokens (line_runs xs cells)) (sym (at_drop_all (map highlight_of) pieces i le)) ∙ h

-- nothing is left to fill
pub within_end : (left : ℕ) (cells : List Cell) (p whole : Printout) → left ≤ 0 → p
    ⊕ cells_tokens (cells_within left cells) ≡ whole → p ≡ whole
within_end left cells p whole le h =
    let z : left ≡ 0 = omega arith in
    sym (put_nil p) ∙ ap (λ xs. p ⊕ cells_tokens xs) (sym (within_none cells))
    ∙ ap (λ n. p ⊕ cells_tokens (cells_within n cells)) (sym z) ∙ h

pub beyond_end : (left : ℕ) (cells whole : List Cell) → left ≤ 0 → cells_beyond left cells ≡ whole → cells ≡ whole
beyond_end left cells whole le h =
    let z : left ≡ 0 = omega arith in
    sym (beyond_none cells) ∙ ap (λ n. cells_beyond n cells) (sym z) ∙ h
