-- What the rows of texts of labels that end on a line tell.
use Rattle.miette_style.proofs.Paging.{put_append}
use Rattle.miette_style.specs.views.Printouts.{Printout, ◌⊕◌}
use Rattle.std.proofs.Common.{ℕ, ◌+◌, ◌-◌, ◌<◌, ◌≡◌, Bool, true, false, cond, List, [], ◌∷◌, ◌++◌, map, length, drop}
use Rattle.std.proofs.Common.{get_or, refl, sym, ap, ◌∙◌}
use Rattle.std.specs.Prelude.{not, ◌&&◌}
use Rattle.std.proofs.lemmas.List.{at_drop_more, map-append}
use Rattle.miette_lines.specs.rules.Lines.{Line}
use Rattle.miette_labels.specs.declared.placed.PlacedLabel.{PlacedLabel}
use Rattle.miette_style.specs.rules.Rows.{Row}
use Rattle.miette_labels.specs.rules.Labels.{DrawnLabel, starts_on, ends_on, cut_at_lf, closing_labels}
use Rattle.miette_snippet_rules.specs.rules.Gutters.{other_gutter, open_gutter, part_run, closing_parts, closing_rows}
use Rattle.miette_snippet_rules.specs.rules.SnippetLayout.{before_each}
use Rattle.miette_labels.specs.views.ProgramLabels.{drawn_of}
use Rattle.miette_labels.specs.views.ProgramLabels.{no_label}
use Rattle.miette_style.specs.views.Tokens.{RowToken, row_end, row_tokens, rows_tokens, styled_tokens, text_tokens}
use Rattle.miette_snippet_rules.proofs.RowTokens.{then, told_as, run_more, styled_row}
use Rattle.miette_snippet_frames.proofs.TextRows.{before_mapped, row_done, rows_then, parts_then}
use Rattle.miette_snippet_frames.proofs.TextLines.{cut_some}
use Rattle.miette_snippet_rules.specs.rules.SnippetSettings.{SnippetSettings}

pub part_put : (l : DrawnLabel) (bar : ℕ) (part : List ℕ) (p q r n : Printout) → q ≡ p
    ⊕ styled_tokens l.style (bar ∷ 32 ∷ []) → r ≡ q ⊕ text_tokens part → n ≡ r ⊕ row_end ∷ [] → n ≡ p
    ⊕ (styled_tokens l.style (bar ∷ 32 ∷ part) ++ row_end ∷ [])
part_put l bar part p q r n hq hr hn =
    then p (styled_tokens l.style (bar ∷ 32 ∷ part)) (row_end ∷ [])
    (told_as p (styled_tokens l.style (bar ∷ 32 ∷ []) ++ text_tokens part) (styled_tokens l.style (bar ∷ 32 ∷ part))
    (then p (styled_tokens l.style (bar ∷ 32 ∷ [])) (text_tokens part) hq hr)
    (run_more l.style (bar ∷ 32 ∷ []) part)) hn

-- a row: what stands before the gutter, the gutter, a part of the text
pub part_row_put : (s : SnippetSettings) (start gutter : Row) (l : DrawnLabel) (bar : ℕ) (part : List ℕ)
    (p b g n : Printout) → b
    ≡ p ⊕ row_tokens start → g ≡ b ⊕ row_tokens gutter → n ≡ g
    ⊕ (styled_tokens l.style (bar ∷ 32 ∷ part) ++ row_end ∷ []) →
    n ≡ p ⊕ rows_tokens ((start ++ (gutter ++ part_run s l bar part ∷ [])) ∷ [])
part_row_put s start gutter l bar part p b g n hb hg hn =
    let own : Row = part_run s l bar part ∷ [] in
    row_done (start ++ (gutter ++ own)) p (g ⊕ row_tokens own) n
    (parts_then start (gutter ++ own) p b (g ⊕ row_tokens own) hb
    (parts_then gutter own b g (g ⊕ row_tokens own) hg refl))
    (hn ∙ sym (put_append g (styled_tokens l.style (bar ∷ 32 ∷ part)) (row_end ∷ []))
    ∙ ap (λ x. (g ⊕ x) ⊕ row_end ∷ []) (sym (styled_row s.width l.style (bar ∷ 32 ∷ part))))

abbrev open_row : SnippetSettings → Line → ℕ → List DrawnLabel → DrawnLabel → List ℕ → Row
open_row s line columns multi l part = open_gutter s line columns multi ++ part_run s l s.theme.characters.vbar part
    ∷ []

several_at : (s : SnippetSettings) (line : Line) (columns : ℕ) (multi : List DrawnLabel) (l : DrawnLabel)
    (part : List ℕ) (more : List (List ℕ)) (next : List ℕ) (others : List (List ℕ)) → more ≡ next ∷ others →
    (other_gutter s line (columns - 1) multi ++ part_run s l s.theme.characters.rcross part ∷ [])
    ∷ map (open_row s line (columns - 1) multi l) more ≡ closing_parts s line columns multi l (part ∷ more)
several_at s line columns multi l part more next others e =
    ap (λ xs. (other_gutter s line (columns - 1) multi ++ part_run s l s.theme.characters.rcross part ∷ [])
    ∷ map (open_row s line (columns - 1) multi l) xs) e
    ∙ ap (λ xs. closing_parts s line columns multi l (part ∷ xs)) (sym e)

pub several_closing : (s : SnippetSettings) (line : Line) (columns less : ℕ) (multi : List DrawnLabel)
    (l : DrawnLabel) (start : Row) (parts : List (List ℕ)) (part codes : List ℕ) (p q r : Printout) → less ≡ columns - 1
    → parts ≡ part ∷ cut_at_lf codes →
    q ≡ p ⊕ rows_tokens ((start ++ (other_gutter s line less multi ++ part_run s l s.theme.characters.rcross part ∷ []))
    ∷ []) →
    r ≡ q ⊕ rows_tokens (map (λ x. start ++ (open_gutter s line less multi ++ part_run s l s.theme.characters.vbar x
    ∷ []))
    (cut_at_lf codes)) →
    r ≡ p ⊕ rows_tokens (before_each start (closing_parts s line columns multi l parts))
several_closing s line columns less multi l start parts part codes p q r z e hq hr =
    let more = cut_some codes in
    let first : ℕ → Row = λ k. start ++ (other_gutter s line k multi ++ part_run s l s.theme.characters.rcross part
    ∷ []) in
    rows_then (first less ∷ []) (map (λ x. start ++ open_row s line less multi l x) (cut_at_lf codes)) p q r hq hr
    ∙ ap (λ k. p ⊕ rows_tokens (first k ∷ map (λ x. start ++ open_row s line k multi l x) (cut_at_lf codes))) z
    ∙ ap (λ xs. p ⊕ rows_tokens (first (columns - 1) ∷ xs))
    (sym (before_mapped start (open_row s line (columns - 1) multi l) (cut_at_lf codes)))
    ∙ ap (λ xs. p ⊕ rows_tokens (before_each start xs)) (several_at s line columns multi l part (cut_at_lf codes)
    more.0 more.1.0 more.1.1)
    ∙ ap (λ xs. p ⊕ rows_tokens (before_each start (closing_parts s line columns multi l xs))) (sym e)

-- one more label
abbrev pub rest_of : SnippetSettings → Line → ℕ → List DrawnLabel → Row → List DrawnLabel → List RowToken
rest_of s line columns multi start ls = rows_tokens (before_each start
    (closing_rows s line columns multi (closing_labels line ls)))

abbrev chosen : SnippetSettings → Line → ℕ → List DrawnLabel → Row → DrawnLabel → List DrawnLabel → Bool
    → List RowToken
chosen s line columns multi start l ls b = rows_tokens
    (before_each start (closing_rows s line columns multi
    (cond b (l ∷ closing_labels line ls) (closing_labels line ls))))

pub closing_more : (s : SnippetSettings) (line : Line) (columns : ℕ) (multi : List DrawnLabel) (start : Row)
    (placed : List PlacedLabel) (i : ℕ) (p q whole : Printout) → i < length placed →
    (ends_on line (drawn_of (get_or placed i no_label))
    && not (starts_on line (drawn_of (get_or placed i no_label)))) ≡ true →
    q ≡ p ⊕ rows_tokens (before_each start (closing_parts s line columns multi (drawn_of (get_or placed i no_label))
    (drawn_of (get_or placed i no_label)).parts)) →
    p ⊕ rest_of s line columns multi start (map drawn_of (drop i placed)) ≡ whole → q
    ⊕ rest_of s line columns multi start (map drawn_of (drop (i + 1) placed)) ≡ whole
closing_more s line columns multi start placed i p q whole lt e hq h =
    let l : DrawnLabel = drawn_of (get_or placed i no_label) in
    let later : List DrawnLabel = map drawn_of (drop (i + 1) placed) in
    let own : List Row = closing_parts s line columns multi l l.parts in
    let rest : List Row = closing_rows s line columns multi (closing_labels line later) in
    rows_then (before_each start own) (before_each start rest) p q (q ⊕ rows_tokens (before_each start rest)) hq refl
    ∙ ap (λ xs. p ⊕ rows_tokens xs) (sym (map-append _ own rest))
    ∙ ap (λ b. p ⊕ chosen s line columns multi start l later b) (sym e)
    ∙ ap (λ xs. p ⊕ rest_of s line columns multi start xs)
    (sym (at_drop_more (map drawn_of) placed i no_label lt)) ∙ h

pub closing_skip : (s : SnippetSettings) (line : Line) (columns : ℕ) (multi : List DrawnLabel) (start : Row)
    (placed : List PlacedLabel) (i : ℕ) (p whole : Printout) → i < length placed →
    (ends_on line (drawn_of (get_or placed i no_label))
    && not (starts_on line (drawn_of (get_or placed i no_label)))) ≡ false →
    p ⊕ rest_of s line columns multi start (map drawn_of (drop i placed)) ≡ whole → p
    ⊕ rest_of s line columns multi start (map drawn_of (drop (i + 1) placed)) ≡ whole
closing_skip s line columns multi start placed i p whole lt e h =
    let l : DrawnLabel = drawn_of (get_or placed i no_label) in
    let later : List DrawnLabel = map drawn_of (drop (i + 1) placed) in
    ap (λ b. p ⊕ chosen s line columns multi start l later b) (sym e)
    ∙ ap (λ xs. p ⊕ rest_of s line columns multi start xs)
    (sym (at_drop_more (map drawn_of) placed i no_label lt)) ∙ h
