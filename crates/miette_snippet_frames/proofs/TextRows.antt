-- What the rows of texts tell.
use Rattle.miette_style.proofs.Paging.{put_append}
use Rattle.miette_style.specs.views.Printouts.{Printout, ◌⊕◌}
use Rattle.std.proofs.Common.{ℕ, ◌+◌, ◌-◌, ◌<◌, ◌≤◌, ◌≡◌, List, [], ◌∷◌, ◌++◌, map, length, drop, take, get_or}
use Rattle.std.proofs.Common.{replicate, refl, sym, ap, ◌∙◌, append_assoc}
use Rattle.std.proofs.lemmas.List.{at_drop_more, at_drop_all, map-append, take_more}
use Rattle.miette_style.specs.declared.style.Style.{Style}
use Rattle.miette_snippet_rules.specs.declared.underlines.Underline.{Underline as MadeUnderline}
use Rattle.miette_style.specs.rules.Rows.{Row, styled_run}
use Rattle.miette_style.specs.rules.Styles.{plain}
use Rattle.miette_labels.specs.rules.Labels.{cut_at_lf}
use Rattle.miette_snippet_rules.specs.rules.Underlines.{Underline}
use Rattle.miette_snippet_rules.specs.rules.LabelRows.{blank, connector_runs, label_text_row, beside, corner_of_several}
use Rattle.miette_snippet_rules.specs.rules.LabelRows.{rows_of_parts, label_text_rows}
use Rattle.miette_snippet_rules.specs.rules.SnippetLayout.{before_each}
use Rattle.miette_snippet_rules.specs.views.MadeUnderlines.{underline_of}
use Rattle.miette_style.specs.views.Tokens.{RowToken, row_end, row_tokens, run_tokens, rows_tokens, styled_tokens}
use Rattle.miette_style.specs.views.Tokens.{text_tokens}
use Rattle.miette_snippet_rules.proofs.RowTokens.{then, told_as, run_one, run_more, blank_told, blank_row, styled_told}
use Rattle.miette_snippet_rules.proofs.RowTokens.{styled_row, told-append, told_rows-append}
use Rattle.miette_snippet_frames.proofs.TextLines.{cut_some}
use Rattle.miette_snippet_rules.specs.rules.SnippetSettings.{SnippetSettings}

-- a row's end
pub row_done : (row : Row) (p q r : Printout) → q ≡ p ⊕ row_tokens row → r ≡ q ⊕ row_end ∷ [] → r ≡ p
    ⊕ rows_tokens (row ∷ [])
row_done row p q r hq hr = then p (row_tokens row) (row_end ∷ []) hq hr

pub row_then : (row : Row) (rows : List Row) → rows_tokens (row ∷ []) ++ rows_tokens rows ≡ rows_tokens (row ∷ rows)
row_then row rows = append_assoc (row_tokens row) (row_end ∷ []) (rows_tokens rows)

pub rows_then : (a b : List Row) (p q r : Printout) → q ≡ p ⊕ rows_tokens a → r ≡ q ⊕ rows_tokens b → r ≡ p
    ⊕ rows_tokens (a ++ b)
rows_then a b p q r hq hr = told_as p (rows_tokens a ++ rows_tokens b) (rows_tokens (a ++ b))
    (then p (rows_tokens a) (rows_tokens b) hq hr) (sym (told_rows-append a b))

pub parts_then : (a b : Row) (p q r : Printout) → q ≡ p ⊕ row_tokens a → r ≡ q ⊕ row_tokens b → r ≡ p
    ⊕ row_tokens (a ++ b)
parts_then a b p q r hq hr = told_as p (row_tokens a ++ row_tokens b) (row_tokens (a ++ b))
    (then p (row_tokens a) (row_tokens b) hq hr) (sym (told-append a b))

-- the start of other rows
pub start_put : (s : SnippetSettings) (columns many : ℕ) (p q r : Printout) → columns ≡ many → q ≡ p
    ⊕ styled_tokens plain (replicate columns 32) → r ≡ q ⊕ styled_tokens plain (s.theme.characters.vbar_break ∷ 32 ∷ [])
    →
    r ≡ p ⊕ row_tokens (blank s many ∷ styled_run s.width plain (s.theme.characters.vbar_break ∷ 32 ∷ []) ∷ [])
start_put s columns many p q r e hq hr =
    told_as p (styled_tokens plain (replicate columns 32)
    ++ styled_tokens plain (s.theme.characters.vbar_break ∷ 32 ∷ []))
    (row_tokens (blank s many ∷ styled_run s.width plain (s.theme.characters.vbar_break ∷ 32 ∷ []) ∷ []))
    (then p (styled_tokens plain (replicate columns 32)) (styled_tokens plain (s.theme.characters.vbar_break ∷ 32 ∷ []))
    hq hr)
    (ap (λ k. styled_tokens plain (replicate k 32) ++ styled_tokens plain (s.theme.characters.vbar_break ∷ 32 ∷ [])) e
    ∙ ap (λ x. x ++ styled_tokens plain (s.theme.characters.vbar_break ∷ 32 ∷ [])) (sym (blank_row s many))
    ∙ ap (λ x. row_tokens (blank s many ∷ []) ++ x) (sym (styled_row s.width plain
    (s.theme.characters.vbar_break ∷ 32 ∷ [])))
    ∙ sym (told-append (blank s many ∷ []) (styled_run s.width plain (s.theme.characters.vbar_break ∷ 32 ∷ []) ∷ [])))

-- leaders
pub lead_more : (v : SnippetSettings) (marks : List MadeUnderline) (i reached gap at column : ℕ)
    (d : MadeUnderline) (row spaced new whole : Printout) → i < length marks → at
    ≡ (underline_of (get_or marks i d)).pointer
    → gap ≡ at - reached →
    spaced ≡ row ⊕ styled_tokens plain (replicate gap 32) → new ≡ spaced
    ⊕ styled_tokens (get_or marks i d).label.style (v.theme.characters.vbar ∷ []) →
    row ⊕ row_tokens (connector_runs v reached (map underline_of (drop i marks)) column) ≡ whole → new
    ⊕ row_tokens (connector_runs v (at + 1) (map underline_of (drop (i + 1) marks)) column) ≡ whole
lead_more v marks i reached gap at column d row spaced new whole lt a z s n h =
    let m : Underline = underline_of (get_or marks i d) in
    let bar : List RowToken = styled_tokens m.label.style (v.theme.characters.vbar ∷ []) in
    let rest : List RowToken = row_tokens (connector_runs v (m.pointer + 1) (map underline_of (drop (i + 1) marks))
    column) in
    ap (λ k. new ⊕ row_tokens (connector_runs v (k + 1) (map underline_of (drop (i + 1) marks)) column)) a
    ∙ ap (λ r. r ⊕ rest) (n ∙ ap (λ r. r ⊕ bar) (s ∙ ap (λ k. row ⊕ styled_tokens plain (replicate k 32))
    (z ∙ ap (λ k. k - reached) a)))
    ∙ put_append (row ⊕ styled_tokens plain (replicate (m.pointer - reached) 32)) bar rest
    ∙ put_append row (styled_tokens plain (replicate (m.pointer - reached) 32)) (bar ++ rest)
    ∙ ap (λ r. row ⊕ (r ++ (bar ++ rest))) (sym (blank_told v (m.pointer - reached)))
    ∙ ap (λ r. row ⊕ (run_tokens (blank v (m.pointer - reached)) ++ (r ++ rest)))
    (sym (styled_told v.width m.label.style (v.theme.characters.vbar ∷ [])))
    ∙ ap (λ xs. row ⊕ row_tokens (connector_runs v reached xs column))
    (sym (at_drop_more (map underline_of) marks i d lt))
    ∙ h

pub lead_end : (s : SnippetSettings) (marks : List MadeUnderline) (i reached gap column : ℕ)
    (row new whole : Printout) → length marks ≤ i → gap ≡ column - reached → new ≡ row
    ⊕ styled_tokens plain (replicate gap 32) →
    row ⊕ row_tokens (connector_runs s reached (map underline_of (drop i marks)) column) ≡ whole → new ≡ whole
lead_end s marks i reached gap column row new whole le z n h =
    n ∙ ap (λ k. row ⊕ styled_tokens plain (replicate k 32)) z
    ∙ ap (λ r. row ⊕ r) (sym (blank_row s (column - reached)))
    ∙ ap (λ xs. row ⊕ row_tokens (connector_runs s reached xs column)) (sym (at_drop_all (map underline_of) marks i le))
    ∙ h

-- a row of a text: what stands before the marks, the leaders, and a run
pub run_put : (style : Style) (a b c : ℕ) (part : List ℕ) (p q r s n : Printout) → q ≡ p
    ⊕ styled_tokens style (a ∷ b ∷ []) → r ≡ q ⊕ text_tokens (c ∷ []) → s ≡ r ⊕ text_tokens (32 ∷ []) → n ≡ s
    ⊕ text_tokens part →
    n ≡ p ⊕ styled_tokens style ((a ∷ b ∷ c ∷ 32 ∷ []) ++ part)
run_put style a b c part p q r s n hq hr hs hn =
    let two : List ℕ = a ∷ b ∷ [] in
    let three : List ℕ = a ∷ b ∷ c ∷ [] in
    let four : List ℕ = a ∷ b ∷ c ∷ 32 ∷ [] in
    let third : r ≡ p ⊕ styled_tokens style three = told_as p (styled_tokens style two ++ text_tokens (c ∷ []))
    (styled_tokens style three) (then p (styled_tokens style two) (text_tokens (c ∷ [])) hq hr) (run_one style two c)
    in
    let fourth : s ≡ p ⊕ styled_tokens style four = told_as p (styled_tokens style three ++ text_tokens (32 ∷ []))
    (styled_tokens style four) (then p (styled_tokens style three) (text_tokens (32 ∷ [])) third hs)
    (run_one style three 32) in
    told_as p (styled_tokens style four ++ text_tokens part) (styled_tokens style (four ++ part))
    (then p (styled_tokens style four) (text_tokens part) fourth hn) (run_more style four part)

pub text_put : (v : SnippetSettings) (before : Row) (earlier : List Underline) (m : Underline) (at x y z : ℕ)
    (part : List ℕ) (p b l q r s k n : Printout) → at ≡ m.pointer →
    b ≡ p ⊕ row_tokens before → l ≡ b ⊕ row_tokens (connector_runs v 0 earlier at) → q ≡ l
    ⊕ styled_tokens m.label.style (x ∷ y ∷ []) → r ≡ q ⊕ text_tokens (z ∷ []) → s ≡ r ⊕ text_tokens (32 ∷ []) → k ≡ s
    ⊕ text_tokens part → n ≡ k ⊕ row_end ∷ [] →
    n ≡ p ⊕ rows_tokens ((before ++ label_text_row v earlier m (x ∷ y ∷ z ∷ 32 ∷ []) part) ∷ [])
text_put v before earlier m at x y z part p b l q r s k n a hb hl hq hr hs hk hn =
    let front : List ℕ = x ∷ y ∷ z ∷ 32 ∷ [] in
    let leaders : Row = connector_runs v 0 earlier m.pointer in
    let own : Row = styled_run v.width m.label.style (front ++ part) ∷ [] in
    let led : l ≡ b ⊕ row_tokens leaders = hl ∙ ap (λ c. b ⊕ row_tokens (connector_runs v 0 earlier c)) a in
    let run : k ≡ l ⊕ row_tokens own = run_put m.label.style x y z part l q r s k hq hr hs hk
    ∙ ap (λ c. l ⊕ c) (sym (styled_row v.width m.label.style (front ++ part))) in
    let below : k ≡ b ⊕ row_tokens (leaders ++ own) = parts_then leaders own b l k led run in
    row_done (before ++ label_text_row v earlier m front part) p k n (parts_then before (leaders ++ own) p b k hb below)
    hn

-- one more part of a text
pub part_more : (f : List ℕ → Row) (parts left : List (List ℕ)) (part : List ℕ) (p q whole : Printout) → parts ≡ part
    ∷ left → q ≡ p ⊕ rows_tokens (f part ∷ []) →
    p ⊕ rows_tokens (map f parts) ≡ whole → q ⊕ rows_tokens (map f left) ≡ whole
part_more f parts left part p q whole e hq h =
    ap (λ x. x ⊕ rows_tokens (map f left)) hq ∙ put_append p (rows_tokens (f part ∷ [])) (rows_tokens (map f left))
    ∙ ap (λ x. p ⊕ x) (row_then (f part) (map f left))
    ∙ ap (λ xs. p ⊕ rows_tokens (map f xs)) (sym e) ∙ h

pub before_mapped : (before : Row) (g : List ℕ → Row) (parts : List (List ℕ)) → before_each before (map g parts)
    ≡ map (λ p. before ++ g p) parts
before_mapped before g [] = refl
before_mapped before g (part ∷ parts) = ap (λ r. (before ++ g part) ∷ r) (before_mapped before g parts)

several_at : (s : SnippetSettings) (earlier : List Underline) (m : Underline) (part : List ℕ) (more : List (List ℕ))
    (next : List ℕ) (others : List (List ℕ)) → more ≡ next ∷ others →
    label_text_row s earlier m (corner_of_several s.theme.characters) part
    ∷ map (label_text_row s earlier m (beside s.theme.characters)) more
    ≡ rows_of_parts s earlier m (part ∷ more)
several_at s earlier m part more next others e =
    ap (λ xs. label_text_row s earlier m (corner_of_several s.theme.characters) part
    ∷ map (label_text_row s earlier m (beside s.theme.characters)) xs) e
    ∙ ap (λ xs. rows_of_parts s earlier m (part ∷ xs)) (sym e)

pub several_parts : (s : SnippetSettings) (before : Row) (earlier : List Underline) (m : Underline)
    (parts : List (List ℕ))
    (part codes : List ℕ) (p q r : Printout) → parts ≡ part ∷ cut_at_lf codes →
    q ≡ p ⊕ rows_tokens ((before ++ label_text_row s earlier m (corner_of_several s.theme.characters) part) ∷ []) → r
    ≡ q
    ⊕ rows_tokens (map (λ x. before ++ label_text_row s earlier m (beside s.theme.characters) x) (cut_at_lf codes)) →
    r ≡ p ⊕ rows_tokens (before_each before (rows_of_parts s earlier m parts))
several_parts s before earlier m parts part codes p q r e hq hr =
    let more = cut_some codes in
    let first : Row = before ++ label_text_row s earlier m (corner_of_several s.theme.characters) part in
    rows_then (first ∷ []) (map (λ x. before ++ label_text_row s earlier m (beside s.theme.characters) x)
    (cut_at_lf codes)) p
    q r hq hr
    ∙ ap (λ xs. p ⊕ rows_tokens (first ∷ xs)) (sym (before_mapped before
    (label_text_row s earlier m (beside s.theme.characters))
    (cut_at_lf codes)))
    ∙ ap (λ xs. p ⊕ rows_tokens (before_each before xs)) (several_at s earlier m part (cut_at_lf codes) more.0
    more.1.0 more.1.1)
    ∙ ap (λ xs. p ⊕ rows_tokens (before_each before (rows_of_parts s earlier m xs))) (sym e)

before-append : (before : Row) (a b : List Row) → before_each before (a ++ b) ≡ before_each before a
    ++ before_each before b
before-append before a b = map-append _ a b

-- the texts of one more mark, from the last to the first
pub below_more : (s : SnippetSettings) (before : Row) (marks : List MadeUnderline) (next k : ℕ)
    (d : MadeUnderline) (p q r : Printout) → k < length marks → next ≡ k + 1 →
    q ≡ p ⊕ rows_tokens (before_each before (label_text_rows s (map underline_of (take next marks))
    (map underline_of (drop next marks)))) →
    r ≡ q ⊕ rows_tokens (before_each before (rows_of_parts s (map underline_of (take k marks))
    (underline_of (get_or marks k d)) (underline_of (get_or marks k d)).label.parts)) →
    r ≡ p ⊕ rows_tokens (before_each before (label_text_rows s (map underline_of (take k marks))
    (map underline_of (drop k marks))))
below_more s before marks next k d p q r lt z hq hr =
    let m : Underline = underline_of (get_or marks k d) in
    let earlier : List Underline = map underline_of (take k marks) in
    let later : List Underline = map underline_of (drop (k + 1) marks) in
    let a : List Row = label_text_rows s (earlier ++ m ∷ []) later in
    let b : List Row = rows_of_parts s earlier m m.label.parts in
    let h : q ≡ p ⊕ rows_tokens (before_each before a) =
    hq ∙ ap (λ n. p ⊕ rows_tokens (before_each before (label_text_rows s (map underline_of (take n marks))
    (map underline_of (drop n marks))))) z
    ∙ ap (λ xs. p ⊕ rows_tokens (before_each before (label_text_rows s (map underline_of xs) later)))
    (take_more marks k d lt)
    ∙ ap (λ xs. p ⊕ rows_tokens (before_each before (label_text_rows s xs later)))
    (map-append underline_of (take k marks) (get_or marks k d ∷ [])) in
    rows_then (before_each before a) (before_each before b) p q r h hr
    ∙ ap (λ xs. p ⊕ rows_tokens xs) (sym (before-append before a b))
    ∙ ap (λ xs. p ⊕ rows_tokens (before_each before (label_text_rows s earlier xs)))
    (sym (at_drop_more (map underline_of) marks k d lt))
