-- What the rows of a line tell.
use Rattle.miette_style.specs.views.Printouts.{Printout, ◌⊕◌}
use Rattle.std.proofs.Common.{ℕ, ◌-◌, ◌<◌, ◌≡◌, List, [], ◌∷◌, ◌++◌, map, length, replicate, decimal, refl, sym, ap}
use Rattle.std.proofs.Common.{◌∙◌, append-nil, arith}
use Rattle.miette_style.specs.rules.Rows.{Row, styled_run}
use Rattle.miette_style.specs.rules.Styles.{plain}
use Rattle.miette_snippet_rules.specs.declared.underlines.Underline.{Underline as MadeUnderline}
use Rattle.miette_snippet_rules.specs.rules.Underlines.{Underline}
use Rattle.miette_snippet_rules.specs.rules.LabelRows.{blank, underline_runs, label_text_rows, underline_rows}
use Rattle.miette_snippet_rules.specs.rules.Frames.{number_start, break_start}
use Rattle.miette_snippet_rules.specs.rules.SnippetLayout.{before_each}
use Rattle.miette_style.specs.views.Tokens.{begins, row_end, row_tokens, rows_tokens, styled_tokens, text_tokens}
use Rattle.miette_snippet_rules.proofs.RowTokens.{then, told_as, run_one, blank_told, styled_row}
use Rattle.miette_snippet_frames.proofs.TextRows.{row_done, rows_then, parts_then}
use Rattle.miette_snippet_rules.specs.rules.SnippetSettings.{SnippetSettings}

pub number_put : (s : SnippetSettings) (w number : ℕ) (p b l d v n : Printout) → b ≡ p
    ⊕ styled_tokens plain (replicate 1 32) → l ≡ b ⊕ begins s.theme.styles.linum ∷ [] → d ≡ l
    ⊕ text_tokens (replicate (w - length (decimal number)) 32 ++ decimal number) →
    v ≡ d ⊕ styled_tokens plain (32 ∷ s.theme.characters.vbar ∷ []) → n ≡ v ⊕ text_tokens (32 ∷ []) → n ≡ p
    ⊕ row_tokens (number_start s w number)
number_put s w number p b l d v n hb hl hd hv hn =
    let digits : List ℕ = replicate (w - length (decimal number)) 32 ++ decimal number in
    let bar : List ℕ = 32 ∷ s.theme.characters.vbar ∷ 32 ∷ [] in
    let numbered : d ≡ b ⊕ row_tokens (styled_run s.width s.theme.styles.linum digits ∷ []) =
    told_as b (styled_tokens s.theme.styles.linum digits)
    (row_tokens (styled_run s.width s.theme.styles.linum digits ∷ []))
    (then b (begins s.theme.styles.linum ∷ []) (text_tokens digits) hl hd)
    (sym (styled_row s.width s.theme.styles.linum digits))
    in
    let barred : n ≡ d ⊕ row_tokens (styled_run s.width plain bar ∷ []) =
    told_as d (styled_tokens plain (32 ∷ s.theme.characters.vbar ∷ []) ++ text_tokens (32 ∷ []))
    (row_tokens (styled_run s.width plain bar ∷ [])) (then d (styled_tokens plain (32 ∷ s.theme.characters.vbar ∷ []))
    (text_tokens (32 ∷ [])) hv hn)
    (run_one plain (32 ∷ s.theme.characters.vbar ∷ []) 32 ∙ sym (styled_row s.width plain bar)) in
    let blanked : b ≡ p ⊕ row_tokens (blank s 1 ∷ []) =
    told_as p (styled_tokens plain (replicate 1 32)) (row_tokens (blank s 1 ∷ [])) hb
    (sym (append-nil _ ∙ blank_told s 1)) in
    parts_then (blank s 1 ∷ []) (styled_run s.width s.theme.styles.linum digits ∷ styled_run s.width plain bar ∷ []) p b
    n blanked
    (parts_then (styled_run s.width s.theme.styles.linum digits ∷ []) (styled_run s.width plain bar ∷ []) b d n numbered
    barred)

-- the row of a break
pub break_put : (s : SnippetSettings) (w many : ℕ) (gutter : Row) (p b d v g n : Printout) → many ≡ w - 1 → b ≡ p
    ⊕ styled_tokens plain (replicate many 32) → d ≡ b ⊕ styled_tokens plain (46 ∷ replicate 2 46) → v ≡ d
    ⊕ text_tokens (s.theme.characters.vbar ∷ []) →
    g ≡ v ⊕ row_tokens gutter → n ≡ g ⊕ row_end ∷ [] → n ≡ p ⊕ rows_tokens ((break_start s w ++ gutter) ∷ [])
break_put s w many gutter p b d v g n hm hb hd hv hg hn =
    let dots : List ℕ = 46 ∷ 46 ∷ 46 ∷ [] in
    let front : List ℕ = dots ++ s.theme.characters.vbar ∷ [] in
    let blanked : b ≡ p ⊕ row_tokens (blank s (w - 1) ∷ []) =
    told_as p (styled_tokens plain (replicate (w - 1) 32)) (row_tokens (blank s (w - 1) ∷ []))
    (hb ∙ ap (λ k. p ⊕ styled_tokens plain (replicate k 32)) hm) (sym (append-nil _ ∙ blank_told s (w - 1))) in
    let barred : v ≡ b ⊕ row_tokens (styled_run s.width plain front ∷ []) =
    told_as b (styled_tokens plain dots ++ text_tokens (s.theme.characters.vbar ∷ []))
    (row_tokens (styled_run s.width plain front ∷ [])) (then b (styled_tokens plain dots)
    (text_tokens (s.theme.characters.vbar ∷ [])) hd hv)
    (run_one plain dots s.theme.characters.vbar ∙ sym (styled_row s.width plain front)) in
    row_done (break_start s w ++ gutter) p g n (parts_then (break_start s w) gutter p v g
    (parts_then (blank s (w - 1) ∷ []) (styled_run s.width plain front ∷ []) p b v blanked barred) hg) hn

-- the number row: its start, its gutter, its text
pub number_row_put : (start gutter text : Row) (p a g t n : Printout) → a ≡ p ⊕ row_tokens start → g ≡ a
    ⊕ row_tokens gutter → t ≡ g ⊕ row_tokens text → n ≡ t ⊕ row_end ∷ [] → n ≡ p
    ⊕ rows_tokens ((start ++ gutter ++ text) ∷ [])
number_row_put start gutter text p a g t n ha hg ht hn =
    row_done (start ++ gutter ++ text) p t n (parts_then (start ++ gutter) text p g t
    (parts_then start gutter p a g ha hg) ht) hn

-- the mark row and the texts
pub marked_put : (before row : Row) (below : List Row) (p a m e n : Printout) → a ≡ p ⊕ row_tokens before → m ≡ a
    ⊕ row_tokens row → e ≡ m ⊕ row_end ∷ [] → n ≡ e ⊕ rows_tokens (before_each before below) →
    n ≡ p ⊕ rows_tokens (before_each before (row ∷ below))
marked_put before row below p a m e n ha hm he hn =
    rows_then ((before ++ row) ∷ []) (before_each before below) p e n
    (row_done (before ++ row) p m e (parts_then before row p a m ha hm) he) hn

pub marked_some : (s : SnippetSettings) (f : MadeUnderline → Underline) (ms : List MadeUnderline) → 0 < length ms
    → underline_runs s 0 (map f ms) ∷ label_text_rows s [] (map f ms) ≡ underline_rows s (map f ms)
marked_some s f [] h = absurd (omega arith)
marked_some s f (m ∷ ms) h = refl

-- all rows of a line
pub line_put : (first : Row) (marked closed : List Row) (p a b n : Printout) → a ≡ p ⊕ rows_tokens (first ∷ []) → b ≡ a
    ⊕ rows_tokens marked → n ≡ b ⊕ rows_tokens closed → n ≡ p ⊕ rows_tokens (first ∷ marked ++ closed)
line_put first marked closed p a b n ha hb hn = rows_then (first ∷ marked) closed p b n
    (rows_then (first ∷ []) marked p a b ha hb) hn
