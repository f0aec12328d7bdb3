-- What the text of a line that is cut tells.
use Rattle.miette_style.specs.views.Printouts.{Printout, ◌⊕◌}
use Rattle.std.proofs.Common.{ℕ, zero, suc, ◌+◌, ◌-◌, ◌<◌, ◌≤◌, ◌≡◌, min, Bool, true, false, cond, ltb, List, [], ◌∷◌}
use Rattle.std.proofs.Common.{◌++◌, map, length, take, drop, get_or, refl, sym, ap, ◌∙◌, append_assoc}
use Rattle.std.proofs.Common.{append-nil, Option, Some, None, option_map, arith}
use Rattle.std.proofs.lemmas.List.{at_drop_more, at_drop_all, drop_at, take_at}
use Rattle.miette_style.specs.declared.style.Style.{Style}
use Rattle.miette_style.specs.rules.Styles.{plain}
use Rattle.miette_style.specs.rules.Rows.{Run}
use Rattle.miette_style.specs.views.Tokens.{begins, row_tokens}
use Rattle.miette_style.proofs.Paging.{put_append, put_nil}
use Rattle.miette_labels.specs.rules.Answers.{Highlight}
use Rattle.miette_columns.specs.declared.cells.PlainCells.{PlainCells}
use Rattle.miette_columns.specs.views.Printable.{plain_cells}
use Rattle.miette_columns.specs.views.Walking.{ComeFirst}
use Rattle.miette_columns.specs.rules.Cells.{Cell}
use Rattle.miette_lines.proofs.Cases.{by_cases}
use Rattle.miette_snippet_rules.specs.rules.Highlighting.{highlight_of}
use Rattle.miette_snippet_rules.specs.rules.PrintedCells.{cells_width, cells_within, cells_beyond, line_runs}
use Rattle.miette_snippet_rules.specs.rules.CutLines.{LinePart, agree, cell_bytes, cut_by, cut_line, cut_line_by}
use Rattle.miette_snippet_rules.specs.rules.CutLines.{cut_runs, cut_to, has_room}
use Rattle.miette_snippet_rules.specs.rules.CutLines.{is_part_shown, is_near, limit_of, prepend_part, is_near_after}
use Rattle.miette_snippet_rules.specs.rules.CutLines.{pieces_within, reach_of, shown_runs, line_parts, with_short_parts}
use Rattle.miette_snippet_rules.proofs.RowTokens.{then, told-append}
use Rattle.miette_snippet_rules.specs.declared.line_part.LinePart.{LinePart as MadePart}
use Rattle.miette_snippet_rules.specs.views.Cuts.{measure, cut_cells, made_runs}
use Rattle.miette_snippet_rules.specs.steps.CellTokens.{cells_tokens}

-- ---- a number of cells

pub take_cell : (many : ℕ) (cell : Cell) (walk later : List Cell) → walk ≡ cell ∷ later → 0 < many → take many walk
    ≡ cell ∷ take (many - 1) later
take_cell zero cell walk later e h = absurd (omega (arith, h))
take_cell (suc n) cell walk later e h = let less : suc n - 1 ≡ n = omega arith in ap (take (suc n)) e
    ∙ ap (λ k. cell ∷ take k later) (sym less)

pub drop_cell : (many : ℕ) (cell : Cell) (walk later : List Cell) → walk ≡ cell ∷ later → 0 < many
    → drop (many - 1) later ≡ drop many walk
drop_cell zero cell walk later e h = absurd (omega (arith, h))
drop_cell (suc n) cell walk later e h = let less : suc n - 1 ≡ n = omega arith in ap (λ k. drop k later) less
    ∙ ap (drop (suc n)) (sym e)

pub take_none : (many : ℕ) (walk : List Cell) → walk ≡ [] → take many walk ≡ []
take_none zero walk e = refl
take_none (suc n) walk e = ap (take (suc n)) e

pub drop_none : (many : ℕ) (walk : List Cell) → walk ≡ [] → drop many walk ≡ []
drop_none zero walk e = e
drop_none (suc n) walk e = ap (drop (suc n)) e

pub take_zero : (many : ℕ) (walk : List Cell) → many ≤ 0 → take many walk ≡ []
take_zero many walk h = let z : many ≡ 0 = omega (arith, h) in ap (λ n. take n walk) z

pub drop_zero : (many : ℕ) (walk : List Cell) → many ≤ 0 → walk ≡ drop many walk
drop_zero many walk h = let z : 0 ≡ many = omega (arith, h) in ap (λ n. drop n walk) z

-- cells of printable ASCII that come first
drop_more : (xs ys : List Cell) (many : ℕ) → length xs ≤ many → drop (many - length xs) ys ≡ drop many (xs ++ ys)
drop_more [] ys many le = let all : many - 0 ≡ many = omega arith in ap (λ k. drop k ys) all
drop_more (x ∷ xs) ys zero le = absurd (omega (arith, le))
drop_more (x ∷ xs) ys (suc n) le =
    let less : suc n - length (x ∷ xs) ≡ n - length xs = omega arith in
    ap (λ k. drop k ys) less ∙ drop_more xs ys n (omega (arith, le))

plain_length : (o c : ℕ) (bs : List ℕ) → length (plain_cells o c bs) ≡ length bs
plain_length o c [] = refl
plain_length o c (b ∷ bs) = omega (arith, plain_length (o + 1) (c + 1) bs)

pub drop_plain_cells : (first : PlainCells) (walk left : List Cell) (many : ℕ) → ComeFirst first walk left → first.many
    ≤ many → drop (many - first.many) left ≡ drop many walk
drop_plain_cells first walk left many f le =
    let cells : List Cell = plain_cells first.start first.from f.bytes in
    let own : length cells ≡ first.many = plain_length first.start first.from f.bytes ∙ f.many in
    ap (λ k. drop (many - k) left) (sym own) ∙ drop_more cells left many (omega (arith, own, le))
    ∙ ap (drop many) (sym f.cells_are)

-- no cell is left, or no byte
pub within_stop : (left : ℕ) (cells : List Cell) (p whole : Printout) → cells ≡ [] → p
    ⊕ cells_tokens (cells_within left cells) ≡ whole → p ≡ whole
within_stop left cells p whole e h = sym (put_nil p) ∙ ap (λ xs. p ⊕ cells_tokens (cells_within left xs)) (sym e) ∙ h

pub beyond_stop : (left : ℕ) (cells whole : List Cell) → cells ≡ [] → cells_beyond left cells ≡ whole → cells ≡ whole
beyond_stop left cells whole e h = e ∙ ap (cells_beyond left) (sym e) ∙ h

pub told_stop : (cells : List Cell) (p whole : Printout) → cells ≡ [] → p ⊕ cells_tokens cells ≡ whole → p ≡ whole
told_stop cells p whole e h = sym (put_nil p) ∙ ap (λ xs. p ⊕ cells_tokens xs) (sym e) ∙ h

-- ---- a stretch in a highlighter's pieces

pub piece_cut : (pieces : List (ℕ × Style)) (i before bytes after own : ℕ) (d : ℕ × Style) (cells later : List Cell)
    (p q r whole : Printout) (next less : ℕ) → i < length pieces →
    after ≡ (get_or pieces i d).0 - before → own ≡ min after bytes → next ≡ before - (get_or pieces i d).0 → less
    ≡ bytes - after →
    q ≡ p ⊕ begins (get_or pieces i d).1 ∷ [] → r ≡ q ⊕ cells_tokens (cells_within own cells) → later
    ≡ cells_beyond own cells →
    p ⊕ row_tokens (line_runs (pieces_within before bytes (map highlight_of (drop i pieces))) cells) ≡ whole →
    r ⊕ row_tokens (line_runs (pieces_within next less (map highlight_of (drop (i + 1) pieces))) later) ≡ whole
piece_cut pieces i before bytes after own d cells later p q r whole next less lt b o n l hq hr hl inv =
    let h : ℕ × Style = get_or pieces i d in
    let hs : List Highlight = map highlight_of (drop (i + 1) pieces) in
    let mine : ℕ = min (h.0 - before) bytes in
    let own_is : own ≡ mine = o ∙ ap (λ k. min k bytes) b in
    let less_is : less ≡ bytes - (h.0 - before) = l ∙ ap (λ k. bytes - k) b in
    ap (λ k. r ⊕ row_tokens (line_runs (pieces_within k less hs) later)) n
    ∙ ap (λ k. r ⊕ row_tokens (line_runs (pieces_within (before - h.0) k hs) later)) less_is
    ∙ ap (λ x. r ⊕ row_tokens (line_runs (pieces_within (before - h.0) (bytes - (h.0 - before)) hs) x))
    (hl ∙ ap (λ k. cells_beyond k cells) own_is)
    ∙ ap (λ x. x ⊕ row_tokens (line_runs (pieces_within (before - h.0) (bytes - (h.0 - before)) hs)
    (cells_beyond mine cells)))
    (then p (begins h.1 ∷ []) (cells_tokens (cells_within own cells)) hq hr
    ∙ ap (λ k. p ⊕ (begins h.1 ∷ cells_tokens (cells_within k cells))) own_is)
    ∙ put_append p (begins h.1 ∷ cells_tokens (cells_within mine cells))
    (row_tokens (line_runs (pieces_within (before - h.0) (bytes - (h.0 - before)) hs) (cells_beyond mine cells)))
    ∙ ap (λ xs. p ⊕ row_tokens (line_runs (pieces_within before bytes xs) cells))
    (sym (at_drop_more (map highlight_of) pieces i d lt)) ∙ inv

pub pieces_end : (cells : List Cell) (p q r whole : Printout) → q ≡ p ⊕ begins plain ∷ [] → r ≡ q
    ⊕ cells_tokens cells → p ⊕ row_tokens (line_runs [] cells) ≡ whole → r ≡ whole
pieces_end cells p q r whole hq hr inv =
    then p (begins plain ∷ []) (cells_tokens cells) hq hr
    ∙ ap (λ x. p ⊕ x) (sym (append-nil (begins plain ∷ cells_tokens cells))) ∙ inv

-- ---- a stretch, or its dots

pub stretch_shown : (run : Run) (b : Bool) (runs : List Run) (p q : Printout) → b ≡ true → q ≡ p ⊕ row_tokens runs → q
    ≡ p ⊕ row_tokens (cond b runs (run ∷ []))
stretch_shown run b runs p q e h = h ∙ ap (λ c. p ⊕ row_tokens (cond c runs (run ∷ []))) (sym e)

pub stretch_dots : (run : Run) (b : Bool) (runs : List Run) (p q : Printout) → b ≡ false → q ≡ p
    ⊕ row_tokens (run ∷ []) → q ≡ p ⊕ row_tokens (cond b runs (run ∷ []))
stretch_dots run b runs p q e h = h ∙ ap (λ c. p ⊕ row_tokens (cond c runs (run ∷ []))) (sym e)

-- ---- all stretches

pub cut_more : (run : Run) (pieces : List Highlight) (cut : List MadePart) (i before next : ℕ) (d : MadePart)
    (walk later : List Cell) (p q whole : Printout) → i < length cut →
    q ≡ p ⊕ row_tokens (cond (get_or cut i d).shown (line_runs (pieces_within before (get_or cut i d).bytes pieces)
    (take (get_or cut i d).cells walk)) (run ∷ [])) →
    later ≡ drop (get_or cut i d).cells walk → next ≡ before + (get_or cut i d).bytes →
    p ⊕ row_tokens (cut_cells run pieces before (drop i cut) walk) ≡ whole → q
    ⊕ row_tokens (cut_cells run pieces next (drop (i + 1) cut) later) ≡ whole
cut_more run pieces cut i before next d walk later p q whole lt hq l n inv =
    let s : MadePart = get_or cut i d in
    let own : List Run = cond s.shown (line_runs (pieces_within before s.bytes pieces) (take s.cells walk))
    (run ∷ []) in
    let rest : List Run = cut_cells run pieces (before + s.bytes) (drop (i + 1) cut) (drop s.cells walk) in
    ap (λ k. q ⊕ row_tokens (cut_cells run pieces k (drop (i + 1) cut) later)) n
    ∙ ap (λ x. q ⊕ row_tokens (cut_cells run pieces (before + s.bytes) (drop (i + 1) cut) x)) l
    ∙ ap (λ x. x ⊕ row_tokens rest) hq ∙ put_append p (row_tokens own) (row_tokens rest)
    ∙ ap (λ x. p ⊕ x) (sym (told-append own rest))
    ∙ ap (λ xs. p ⊕ row_tokens (cut_cells run pieces before xs walk))
    (sym (at_drop_more (λ (xs : List MadePart). xs) cut i d lt)) ∙ inv

pub cut_end : (run : Run) (pieces : List Highlight) (cut : List MadePart) (i before : ℕ) (walk : List Cell)
    (p whole : Printout) → length cut ≤ i → p ⊕ row_tokens (cut_cells run pieces before (drop i cut) walk) ≡ whole → p
    ≡ whole
cut_end run pieces cut i before walk p whole le inv = sym (put_nil p)
    ∙ ap (λ xs. p ⊕ row_tokens (cut_cells run pieces before xs walk))
    (sym (at_drop_all (λ (xs : List MadePart). xs) cut i le)) ∙ inv

-- ---- the stretches of a line make it up

abbrev all_cells : List LinePart → List Cell
all_cells [] = []
all_cells (s ∷ later) = s.cells ++ all_cells later

onto_cells : (s : LinePart) (ss : List LinePart) → all_cells (prepend_part s ss) ≡ s.cells ++ all_cells ss
onto_cells s [] = refl
onto_cells s (next ∷ later) =
    by_cases {C = all_cells (prepend_part s (next ∷ later)) ≡ s.cells ++ all_cells (next ∷ later)}
    (agree s.shown next.shown)
    (λ y. rw y (append_assoc s.cells next.cells (all_cells later)))
    (λ n. rw n refl)

cells_swept : (near : Cell → Bool) (before : Bool) (cells : List Cell) → all_cells (line_parts near before cells)
    ≡ cells
cells_swept near before [] = refl
cells_swept near before (c ∷ cs) =
    let here : Bool = is_near_after near before c in
    onto_cells (record { shown = here; cells = c ∷ [] }) (line_parts near here cs)
    ∙ ap (λ xs. c ∷ xs) (cells_swept near here cs)

cells_joined : (many : ℕ) (ss : List LinePart) → all_cells (with_short_parts many ss) ≡ all_cells ss
cells_joined many [] = refl
cells_joined many (s ∷ later) =
    onto_cells (record { shown = is_part_shown many s; cells = s.cells }) (with_short_parts many later)
    ∙ ap (λ xs. s.cells ++ xs) (cells_joined many later)

cells_kept : (limit many : ℕ) (es : List ℕ) (cells : List Cell) → all_cells (cut_to limit many es cells) ≡ cells
cells_kept limit many [] cells =
    cells_joined many (line_parts (has_room limit many) false cells) ∙ cells_swept (has_room limit many) false cells
cells_kept limit many (e ∷ es) cells =
    let near : Cell → Bool = is_near (reach_of limit many (e ∷ es) cells) (e ∷ es) in
    cells_joined many (line_parts near false cells) ∙ cells_swept near false cells

cells_kept_by : (limit many reach : ℕ) (es : List ℕ) (cells : List Cell)
    → all_cells (cut_by limit many reach es cells) ≡ cells
cells_kept_by limit many reach [] cells = cells_kept limit many [] cells
cells_kept_by limit many reach (e ∷ es) cells =
    let near : Cell → Bool = is_near reach (e ∷ es) in
    cells_joined many (line_parts near false cells) ∙ cells_swept near false cells

runs_measured : (run : Run) (pieces : List Highlight) (before : ℕ) (ss : List LinePart)
    → cut_cells run pieces before (map measure ss) (all_cells ss) ≡ cut_runs run pieces before ss
runs_measured run pieces before [] = refl
runs_measured run pieces before (s ∷ later) =
    let own : List Highlight = pieces_within before (cell_bytes s.cells) pieces in
    ap (λ cells. cond s.shown (line_runs own cells) (run ∷ [])
    ++ cut_cells run pieces (before + cell_bytes s.cells) (map measure later)
    (drop (length s.cells) (s.cells ++ all_cells later)))
    (take_at s.cells (all_cells later) (length s.cells) refl)
    ∙ ap (λ cells. cond s.shown (line_runs own s.cells) (run ∷ [])
    ++ cut_cells run pieces (before + cell_bytes s.cells) (map measure later) cells)
    (drop_at s.cells (all_cells later) (length s.cells) refl)
    ∙ ap (λ runs. cond s.shown (line_runs own s.cells) (run ∷ []) ++ runs)
    (runs_measured run pieces (before + cell_bytes s.cells) later)

-- what is shown of a line, by its counts
pub shown_made : (run : Run) (many : ℕ) (limit : Option ℕ) (es : List ℕ) (cells : List Cell) (pieces : List Highlight) →
    made_runs run (option_map (map measure) (cut_line many limit es cells)) pieces cells
    ≡ shown_runs run (cut_line many limit es cells) pieces cells
shown_made run many None es cells pieces = refl
shown_made run many (Some limit) es cells pieces =
    let most : ℕ = limit_of limit in
    by_cases {C = made_runs run (option_map (map measure) (cut_line many (Some limit) es cells)) pieces cells
    ≡ shown_runs run (cut_line many (Some limit) es cells) pieces cells} (ltb most (cells_width 0 cells))
    (λ y. rw y (ap (λ xs. cut_cells run pieces 0 (map measure (cut_to most many es cells)) xs)
    (sym (cells_kept most many es cells)) ∙ runs_measured run pieces 0 (cut_to most many es cells)))
    (λ n. rw n refl)

pub shown_made_by : (run : Run) (many limit reach : ℕ) (es : List ℕ) (cells : List Cell) (pieces : List Highlight) →
    made_runs run (option_map (map measure) (cut_line_by many limit reach es cells)) pieces cells
    ≡ shown_runs run (cut_line_by many limit reach es cells) pieces cells
shown_made_by run many limit reach es cells pieces =
    let cut : List LinePart = cut_by (limit_of limit) many reach es cells in
    by_cases {C = made_runs run (option_map (map measure) (cut_line_by many limit reach es cells)) pieces cells
    ≡ shown_runs run (cut_line_by many limit reach es cells) pieces cells} (ltb (limit_of limit) (cells_width 0 cells))
    (λ y. rw y (ap (λ xs. cut_cells run pieces 0 (map measure cut) xs)
    (sym (cells_kept_by (limit_of limit) many reach es cells)) ∙ runs_measured run pieces 0 cut))
    (λ n. rw n refl)
