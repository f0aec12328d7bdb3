-- The rows of a changed line.
use Rattle.miette_style.specs.views.Printouts.{Printout, ◌⊕◌}
use Rattle.std.proofs.Common.{ℕ, ◌≤◌, ◌≡◌, Bool, true, false, cond, List, [], ◌∷◌, ◌++◌, map, length, replicate}
use Rattle.std.proofs.Common.{Option, Some, None, ltb, min, option_map, refl, sym, subst, ap, ◌∙◌, arith}
use Rattle.std.proofs.Common.{◌+◌, ◌<◌, ◌^◌, IfSome}
use Rattle.std.specs.List.{filter, list_any}
use Rattle.miette_style.specs.rules.Styles.{plain}
use Rattle.miette_protocol.specs.rules.Reading.{Span}
use Rattle.miette_style.specs.rules.Rows.{Row, Run, styled_run}
use Rattle.miette_style.specs.views.Tokens.{begins, row_end, row_tokens, rows_tokens, styled_tokens, text_tokens}
use Rattle.miette_labels.specs.rules.Answers.{Highlight}
use Rattle.miette_columns.specs.rules.Cells.{Cell}
use Rattle.miette_snippet_rules.specs.rules.CutLines.{LinePart, cut_line_by, dots, dots_width, limit_of, reach_at}
use Rattle.miette_snippet_rules.specs.rules.CutLines.{row_underlines, shown_runs}
use Rattle.miette_snippet_rules.specs.rules.LabelRows.{blank}
use Rattle.miette_snippet_rules.specs.rules.Frames.{other_start}
use Rattle.miette_snippet_rules.specs.rules.Underlines.{Underline, marks}
use Rattle.miette_snippet_rules.specs.rules.PrintedCells.{cells_width, text_bytes}
use Rattle.miette_snippet_rules.specs.rules.SnippetSettings.{SnippetSettings}
use Rattle.miette_snippet_rules.proofs.RowTokens.{then, told_as, blank_row, styled_row}
use Rattle.miette_snippet_frames.proofs.TextRows.{parts_then, row_done, rows_then}
use Rattle.miette_snippet_rules.specs.declared.line_part.LinePart.{LinePart as MadePart}
use Rattle.miette_snippet_rules.specs.views.LineScans.{ComeFrom}
use Rattle.miette_snippet_rules.specs.views.Cuts.{made_runs, measure}
use Rattle.miette_snippet_rules.proofs.CutText.{shown_made_by}
use Rattle.miette_fix_rows.specs.rules.DiffRows.{ChangedLine, before_some, changed_rows, edit_underline_row}
use Rattle.miette_fix_rows.specs.rules.DiffRows.{row_if_some}
use Rattle.miette_fix_rows.specs.rules.DiffRows.{changed_cut, cut_beside, line_reach, pair_reach, sign_start}
use Rattle.miette_fix_rows.specs.rules.DiffRows.{changed_text_row}
use Rattle.miette_fix_rows.specs.rules.DiffTexts.{edit_underlines, edit_ends, holds_byte, is_on, line_cells, line_ends}
use Rattle.miette_fix_rows.specs.rules.DiffTexts.{measured_line, look_alike, prepend_piece, diff_pieces, parts_in}
use Rattle.miette_fix_rows.specs.rules.DiffTexts.{pieces}
use Rattle.miette_fix_rows.specs.rules.DiffTexts.{sign_runs}
use Rattle.miette_fix_drawing.specs.steps.Ends.{changed_line_cut}
use Rattle.miette_fix_drawing.specs.views.ChangedLines.{AreBothNear, IsNear, IsReadable, changed_line_of}
use Rattle.miette_fix_drawing.specs.declared.changed_line.ChangedLine.{ChangedLine as MadeChangedLine}
use Rattle.miette_fix_drawing.specs.steps.Starts.{digits_row}

-- a line that fits isn't cut
pub narrow_uncut : (many limit reach : ℕ) (ends : List ℕ) (cells : List Cell)
    → ltb (limit_of limit) (cells_width 0 cells) ≡ false → cut_line_by many limit reach ends cells ≡ None
narrow_uncut many limit reach ends cells h = rw h refl

pub sign_put : (s : SnippetSettings) (w : ℕ) (line : ChangedLine) (p d b g k n : Printout)
    → d ≡ p ⊕ row_tokens (digits_row s w line.number) → b ≡ d ⊕ styled_tokens plain (replicate 1 32)
    → g ≡ b ⊕ begins line.style ∷ [] → k ≡ g ⊕ text_tokens (line.sign ∷ []) → n ≡ k ⊕ styled_tokens plain
    (replicate 1 32)
    → n ≡ p ⊕ row_tokens (sign_start s w line)
sign_put s w line p d b g k n hd hb hg hk hn =
    let one : Row = blank s 1 ∷ [] in
    let sign : Row = styled_run s.width line.style (line.sign ∷ []) ∷ [] in
    let spaced : b ≡ d ⊕ row_tokens one =
    told_as d (styled_tokens plain (replicate 1 32)) (row_tokens one) hb (sym (blank_row s 1)) in
    let signed : k ≡ b ⊕ row_tokens sign =
    told_as b (styled_tokens line.style (line.sign ∷ [])) (row_tokens sign)
    (then b (begins line.style ∷ []) (text_tokens (line.sign ∷ [])) hg hk)
    (sym (styled_row s.width line.style (line.sign ∷ []))) in
    let last : n ≡ k ⊕ row_tokens one =
    told_as k (styled_tokens plain (replicate 1 32)) (row_tokens one) hn (sym (blank_row s 1)) in
    parts_then (digits_row s w line.number) (one ++ (sign ++ one)) p d n hd
    (parts_then one (sign ++ one) d b n spaced (parts_then sign one b k n signed last))

-- what is shown of a line, by its counts
shown_beside : (s : SnippetSettings) (limit : Option ℕ) (line : ChangedLine) (other : Option ChangedLine)
    (ps : List Highlight) → made_runs (dots s.theme) (option_map (map measure) (cut_beside s limit line other)) ps
    (line_cells s line.start line.text)
    ≡ shown_runs (dots s.theme) (cut_beside s limit line other) ps (line_cells s line.start line.text)
shown_beside s None line other ps = refl
shown_beside s (Some limit) line other ps =
    shown_made_by (dots s.theme) (dots_width s.theme.characters) limit (pair_reach s limit line other)
    (line_ends s line.start line.text line.spans) (line_cells s line.start line.text) ps

pub text_put : (s : SnippetSettings) (w : ℕ) (line : ChangedLine) (other : Option ChangedLine) (cells : List Cell)
    (made : List Highlight) (cut : Option (List MadePart)) (p a t n : Printout)
    → cells ≡ line_cells s line.start line.text → made ≡ pieces line.style line.spans cells
    → cut ≡ changed_line_cut s line other → a ≡ p ⊕ row_tokens (sign_start s w line)
    → t ≡ a ⊕ row_tokens (made_runs (dots s.theme) cut made cells) → n ≡ t ⊕ row_end ∷ [] → n ≡ p ⊕ rows_tokens
    (changed_text_row s w line other ∷ [])
text_put s w line other cells made cut p a t n hcells hmade hcut ha ht hn =
    let run : Run = dots s.theme in
    let own : List Cell = line_cells s line.start line.text in
    let ps : List Highlight = pieces line.style line.spans own in
    let shown : made_runs run cut made cells ≡ shown_runs run (changed_cut s line other) ps own =
    ap (λ x. made_runs run x made cells) hcut
    ∙ ap (λ x. made_runs run (changed_line_cut s line other) x cells) hmade
    ∙ ap (λ x. made_runs run (changed_line_cut s line other) (pieces line.style line.spans x) x) hcells
    ∙ shown_beside s s.layout.line_columns line other ps in
    row_done (sign_start s w line ++ made_runs run cut made cells) p t n
    (parts_then (sign_start s w line) (made_runs run cut made cells) p a t ha ht) hn
    ∙ ap (λ row. p ⊕ rows_tokens ((sign_start s w line ++ row) ∷ [])) shown

-- a line that looks like the other, and one that doesn't
pub alike_put : (s : SnippetSettings) (w : ℕ) (line : ChangedLine) (other : Option ChangedLine) (alike : Bool)
    (p q r : Printout) → alike ≡ look_alike s line.text (option_map (λ it. it.text) other) → alike ≡ true
    → q ≡ p ⊕ rows_tokens (changed_text_row s w line other ∷ []) → r ≡ q ⊕ rows_tokens
    (edit_underline_row s w line other)
    → r ≡ p ⊕ rows_tokens (changed_rows s w line other)
alike_put s w line other alike p q r e y hq hr =
    rows_then (changed_text_row s w line other ∷ []) (edit_underline_row s w line other) p q r hq hr
    ∙ ap (λ b. p ⊕ rows_tokens (changed_text_row s w line other ∷ cond b (edit_underline_row s w line other) []))
    (sym y ∙ e)

pub unlike_put : (s : SnippetSettings) (w : ℕ) (line : ChangedLine) (other : Option ChangedLine) (alike : Bool)
    (p q : Printout) → alike ≡ look_alike s line.text (option_map (λ it. it.text) other) → alike ≡ false
    → q ≡ p ⊕ rows_tokens (changed_text_row s w line other ∷ []) → q ≡ p ⊕ rows_tokens (changed_rows s w line other)
unlike_put s w line other alike p q e f hq =
    hq ∙ ap (λ b. p ⊕ rows_tokens (changed_text_row s w line other ∷ cond b (edit_underline_row s w line other) []))
    (sym f ∙ e)

-- ---- without the spans that end before the line

painted_same : (a b : List Span) (at : ℕ) (cells : List Cell)
    → ((cell : Cell) → at ≤ cell.start → list_any (holds_byte cell) a ≡ list_any (holds_byte cell) b)
    → ComeFrom at cells → diff_pieces a cells ≡ diff_pieces b cells
painted_same a b at [] same h = refl
painted_same a b at (c ∷ cs) same h =
    ap (λ x. prepend_piece x (text_bytes c.code) (diff_pieces a cs)) (same c h.0)
    ∙ ap (λ r. prepend_piece (list_any (holds_byte c) b) (text_bytes c.code) r)
    (painted_same a b c.after cs (λ cell le. same cell (omega (arith, le, h.0, h.1))) h.2)

-- the line that goes with another, without such spans
abbrev pub AreNear : Option ChangedLine → Option ChangedLine → Type 0
AreNear None None = Unit {0}
AreNear None (Some near) = ⊥
AreNear (Some other) None = ⊥
AreNear (Some other) (Some near) = (near ≡ record other { spans = near.spans })
    × (filter (is_on other.start other.text) near.spans ≡ filter (is_on other.start other.text) other.spans)

reach_near : (s : SnippetSettings) (limit : ℕ) (line : ChangedLine) (near : List Span)
    → filter (is_on line.start line.text) near ≡ filter (is_on line.start line.text) line.spans →
    line_reach s limit (record line { spans = near }) ≡ line_reach s limit line
reach_near s limit line near on =
    ap (λ touching. reach_at (limit_of limit) (dots_width s.theme.characters)
    (edit_ends s line.start line.text touching)
    (line_cells s line.start line.text)) on

cut_near : (s : SnippetSettings) (limit : Option ℕ) (line : ChangedLine) (near : List Span)
    (other beside : Option ChangedLine)
    → filter (is_on line.start line.text) near ≡ filter (is_on line.start line.text) line.spans → AreNear other beside
    → cut_beside s limit (record line { spans = near }) beside ≡ cut_beside s limit line other
cut_near s None line near other beside on h = refl
cut_near s (Some limit) line near None None on h =
    let many : ℕ = dots_width s.theme.characters in
    let cells : List Cell = line_cells s line.start line.text in
    ap (λ touching. cut_line_by many limit (reach_at (limit_of limit) many (edit_ends s line.start line.text touching)
    cells) (edit_ends s line.start line.text touching) cells) on
cut_near s (Some limit) line near None (Some n) on h = absurd h
cut_near s (Some limit) line near (Some o) None on h = absurd h
cut_near s (Some limit) line near (Some o) (Some n) on h =
    let many : ℕ = dots_width s.theme.characters in
    let cells : List Cell = line_cells s line.start line.text in
    let beside : line_reach s limit n ≡ line_reach s limit o = ap (line_reach s limit) h.0
    ∙ reach_near s limit o n.spans h.1 in
    ap (λ touching. cut_line_by many limit (min (reach_at (limit_of limit) many
    (edit_ends s line.start line.text touching) cells) (line_reach s limit n))
    (edit_ends s line.start line.text touching) cells) on
    ∙ ap (λ r. cut_line_by many limit (min (line_reach s limit line) r)
    (line_ends s line.start line.text line.spans) cells) beside

texts_near : (other beside : Option ChangedLine) → AreNear other beside
    → option_map (λ (it : ChangedLine). it.text) beside ≡ option_map (λ (it : ChangedLine). it.text) other
texts_near None None h = refl
texts_near None (Some n) h = absurd h
texts_near (Some o) None h = absurd h
texts_near (Some o) (Some n) h = ap (λ (it : ChangedLine). Some it.text) h.0

near_rows : (s : SnippetSettings) (w : ℕ) (line : ChangedLine) (near : List Span)
    (other beside : Option ChangedLine) → ComeFrom line.start (line_cells s line.start line.text)
    → ((cell : Cell) → line.start ≤ cell.start → list_any (holds_byte cell) near ≡ list_any (holds_byte cell)
    line.spans)
    → parts_in line.start (length line.text) line.style near ≡ parts_in line.start (length line.text) line.style
    line.spans
    → filter (is_on line.start line.text) near ≡ filter (is_on line.start line.text) line.spans → AreNear other beside
    → changed_rows s w (record line { spans = near }) beside ≡ changed_rows s w line other
near_rows s w line near other beside come held parts on h =
    let cells : List Cell = line_cells s line.start line.text in
    let bytes : Option ChangedLine → Option (List ℕ) = λ o. option_map (λ (it : ChangedLine). it.text) o in
    let rows : Option (List LinePart) → Option (List ℕ) → List Highlight → List Underline → List Row =
    λ cut texts ps ms. (sign_start s w line ++ shown_runs (dots s.theme) cut ps cells)
    ∷ cond (look_alike s line.text texts) (before_some (other_start s w) (row_if_some (sign_runs s line.sign 0
    (row_underlines (dots_width s.theme.characters) cut ms)))) [] in
    let cut : Option (List LinePart) = changed_cut s line other in
    let ps : List Highlight = pieces line.style near cells in
    let ms : List Underline = edit_underlines s line.start line.text line.style near in
    let pieces_same : ps ≡ pieces line.style line.spans cells =
    ap (map (λ p. record { bytes = p.bytes; style = cond p.changed line.style plain }))
    (painted_same near line.spans line.start cells held come) in
    let marks_same : ms ≡ edit_underlines s line.start line.text line.style line.spans =
    ap (λ labels. marks (measured_line s line.start line.text) labels) parts in
    ap (λ c. rows c (bytes beside) ps ms) (cut_near s s.layout.line_columns line near other beside on h)
    ∙ ap (λ texts. rows cut texts ps ms) (texts_near other beside h)
    ∙ ap (λ x. rows cut (bytes other) x ms) pieces_same
    ∙ ap (λ x. rows cut (bytes other) (pieces line.style line.spans cells) x) marks_same

-- lines that a program has, and the same without such spans

pub near_within : (line near : MadeChangedLine) → IsNear line near → line.start + length line.text.now < 2 ^ 64
    → near.start + length near.text.now < 2 ^ 64
near_within line near h within =
    subst (λ (it : ChangedLine). it.start + length it.text < 2 ^ 64) (sym h.is) within

pub near_readable : (other near : Option MadeChangedLine) → AreBothNear other near → IfSome other IsReadable
    → IfSome near IsReadable
near_readable None None h readable = readable
near_readable None (Some near) h readable = absurd h
near_readable (Some other) None h readable = absurd h
near_readable (Some other) (Some near) h readable = (near_within other near h readable.0, h.apart)

both_near : (other near : Option MadeChangedLine) → AreBothNear other near
    → AreNear (option_map changed_line_of other) (option_map changed_line_of near)
both_near None None h = tt
both_near None (Some near) h = absurd h
both_near (Some other) None h = absurd h
both_near (Some other) (Some near) h = (h.is, h.on other.text.now)

-- their rows
pub near_put : (s : SnippetSettings) (w : ℕ) (line near : MadeChangedLine) (other beside : Option MadeChangedLine)
    → ComeFrom line.start (line_cells s line.start line.text.now) → IsNear line near → AreBothNear other beside
    → changed_rows s w (changed_line_of near) (option_map changed_line_of beside)
    ≡ changed_rows s w (changed_line_of line) (option_map changed_line_of other)
near_put s w line near other beside come h both =
    ap (λ it. changed_rows s w it (option_map changed_line_of beside)) h.is
    ∙ near_rows s w (changed_line_of line) near.spans.now (option_map changed_line_of other)
    (option_map changed_line_of beside) come h.held (h.parts (length line.text.now) line.style) (h.on line.text.now)
    (both_near other beside both)
