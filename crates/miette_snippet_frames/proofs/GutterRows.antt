-- What gutters tell.
use Rattle.miette_style.proofs.Paging.{put_append}
use Rattle.miette_style.specs.views.Printouts.{Printout, ◌⊕◌}
use Rattle.std.proofs.Common.{ℕ, ◌+◌, ◌-◌, ◌<◌, ◌≤◌, ◌≡◌, Bool, true, false, cond, List, [], ◌∷◌, ◌++◌, map, length}
use Rattle.std.proofs.Common.{drop, get_or, replicate, refl, sym, ap, ◌∙◌}
use Rattle.std.specs.Prelude.{◌||◌, chars, Option, Some}
use Rattle.std.proofs.lemmas.Bool.{or_parts}
use Rattle.std.proofs.lemmas.List.{at_drop_more, at_drop_all}
use Rattle.miette_lines.specs.rules.Lines.{Line}
use Rattle.miette_style.specs.declared.style.Style.{Style}
use Rattle.miette_labels.specs.declared.placed.PlacedLabel.{PlacedLabel}
use Rattle.miette_style.specs.rules.Rows.{Row}
use Rattle.miette_style.specs.rules.Styles.{plain}
use Rattle.miette_labels.specs.rules.Labels.{DrawnLabel, starts_on, ends_on, parts_of}
use Rattle.miette_snippet_rules.specs.rules.LabelRows.{blank}
use Rattle.miette_snippet_rules.specs.rules.Gutters.{bar, number_gutter, other_gutter, open_gutter, ending_corner}
use Rattle.miette_snippet_rules.specs.rules.Gutters.{arrow}
use Rattle.miette_snippet_frames.specs.declared.gutters.GutterEnd.{GutterEnd}
use Rattle.miette_snippet_frames.specs.declared.gutters.GutterEnd.TheVariants as ends
use Rattle.miette_snippet_frames.specs.views.GutterEnds.{gutter_with, stops, gutter_end}
use Rattle.miette_snippet_frames.proofs.TextLines.{cut_some}
use Rattle.miette_labels.specs.views.ProgramLabels.{drawn_of}
use Rattle.miette_labels.specs.views.ProgramLabels.{no_label}
use Rattle.miette_style.specs.views.Tokens.{RowToken, row_tokens, styled_tokens, text_tokens}
use Rattle.miette_lines.proofs.Cases.{by_cases}
use Rattle.miette_snippet_rules.proofs.RowTokens.{styled_told, styled_row, blank_row, told-append, then, run_one}
use Rattle.miette_style.specs.rules.Themes.{Characters}
use Rattle.miette_snippet_rules.specs.rules.SnippetSettings.{SnippetSettings}

-- where a label doesn't start, a number row's gutter goes by whether it ends
abbrev unless_starts : SnippetSettings → Line → ℕ → DrawnLabel → List DrawnLabel → Bool → Row
unless_starts s line left l ls b = cond b (arrow s l (ending_corner s.theme.characters l.parts) left ∷ blank s 1 ∷ [])
    (bar s l ∷ number_gutter s line (left - 1) ls)

-- a number row's gutter goes by whether its first label starts, each other by whether it ends
abbrev by_first : GutterEnd → SnippetSettings → Line → ℕ → DrawnLabel → List DrawnLabel → Bool → Row
by_first ends.Arrow s line left l ls b = cond b (arrow s l s.theme.characters.ltop left ∷ blank s 1 ∷ [])
    (unless_starts s line left l ls (ends_on line l))
by_first ends.Corner s line left l ls b = cond b (gutter_end ends.Corner s line left l)
    (bar s l ∷ other_gutter s line (left - 1) ls)
by_first ends.Open s line left l ls b = cond b (gutter_end ends.Open s line left l)
    (bar s l ∷ open_gutter s line (left - 1) ls)

-- bars go on before a label at which they don't stop
goes_on : (end : GutterEnd) (s : SnippetSettings) (line : Line) (left : ℕ) (l : DrawnLabel) (ls : List DrawnLabel)
    → stops end line l ≡ false →
    gutter_with end s line left (l ∷ ls) ≡ bar s l ∷ gutter_with end s line (left - 1) ls
goes_on ends.Arrow s line left l ls e =
    let parts = or_parts (starts_on line l) (ends_on line l) e in
    ap (by_first ends.Arrow s line left l ls) parts.0 ∙ ap (unless_starts s line left l ls) parts.1
goes_on ends.Corner s line left l ls e = ap (by_first ends.Corner s line left l ls) e
goes_on ends.Open s line left l ls e = ap (by_first ends.Open s line left l ls) e

-- and have their end at the first one at which they do
stops_at : (end : GutterEnd) (s : SnippetSettings) (line : Line) (left : ℕ) (l : DrawnLabel) (ls : List DrawnLabel)
    → stops end line l ≡ true → gutter_with end s line left (l ∷ ls) ≡ gutter_end end s line left l
stops_at ends.Arrow s line left l ls e =
    let cornered : Bool → Row = λ b. arrow s l (cond b s.theme.characters.ltop
    (ending_corner s.theme.characters l.parts)) left ∷ blank s 1 ∷ [] in
    by_cases {C = gutter_with ends.Arrow s line left (l ∷ ls) ≡ gutter_end ends.Arrow s line left l} (starts_on line l)
    (λ t. ap (by_first ends.Arrow s line left l ls) t ∙ sym (ap cornered t))
    (λ f. ap (by_first ends.Arrow s line left l ls) f
    ∙ ap (unless_starts s line left l ls) (sym (ap (λ b. b || ends_on line l) f) ∙ e) ∙ sym (ap cornered f))
stops_at ends.Corner s line left l ls e = ap (by_first ends.Corner s line left l ls) e
stops_at ends.Open s line left l ls e = ap (by_first ends.Open s line left l ls) e

-- where there is no label more, there are spaces
nothing_more : (end : GutterEnd) (s : SnippetSettings) (line : Line) (left : ℕ)
    → gutter_with end s line left [] ≡ blank s left ∷ []
nothing_more ends.Arrow s line left = refl
nothing_more ends.Corner s line left = refl
nothing_more ends.Open s line left = refl

-- A page with the bars of the labels before an index: a bar more, the end at a label, the end after the last one.
pub bar_more : (end : GutterEnd) (s : SnippetSettings) (line : Line) (left less : ℕ) (placed : List PlacedLabel) (i : ℕ)
    (row new whole : Printout) → i < length placed → stops end line (drawn_of (get_or placed i no_label)) ≡ false
    → less ≡ left - 1 → new ≡ row ⊕ styled_tokens (get_or placed i no_label).style (s.theme.characters.vbar ∷ []) →
    row ⊕ row_tokens (gutter_with end s line left (map drawn_of (drop i placed))) ≡ whole → new
    ⊕ row_tokens (gutter_with end s line less (map drawn_of (drop (i + 1) placed))) ≡ whole
bar_more end s line left less placed i row new whole lt e z hn h =
    let l : DrawnLabel = drawn_of (get_or placed i no_label) in
    let later : List DrawnLabel = map drawn_of (drop (i + 1) placed) in
    let rest : Row = gutter_with end s line (left - 1) later in
    let own : List RowToken = styled_tokens l.style (s.theme.characters.vbar ∷ []) in
    ap (λ n. new ⊕ row_tokens (gutter_with end s line n later)) z
    ∙ ap (λ x. x ⊕ row_tokens rest) hn ∙ put_append row own (row_tokens rest)
    ∙ ap (λ x. row ⊕ (x ++ row_tokens rest)) (sym (styled_row s.width l.style (s.theme.characters.vbar ∷ [])))
    ∙ ap (λ x. row ⊕ x) (sym (told-append (bar s l ∷ []) rest))
    ∙ ap (λ r. row ⊕ row_tokens r) (sym (goes_on end s line left l later e))
    ∙ ap (λ r. row ⊕ row_tokens (gutter_with end s line left r))
    (sym (at_drop_more (map drawn_of) placed i no_label lt)) ∙ h

pub end_put : (end : GutterEnd) (s : SnippetSettings) (line : Line) (left : ℕ) (placed : List PlacedLabel) (i : ℕ)
    (row new whole : Printout) → i < length placed → stops end line (drawn_of (get_or placed i no_label)) ≡ true
    → new ≡ row ⊕ row_tokens (gutter_end end s line left (drawn_of (get_or placed i no_label)))
    → row ⊕ row_tokens (gutter_with end s line left (map drawn_of (drop i placed))) ≡ whole → new ≡ whole
end_put end s line left placed i row new whole lt e hn h =
    hn ∙ ap (λ r. row ⊕ row_tokens r) (sym (stops_at end s line left (drawn_of (get_or placed i no_label))
    (map drawn_of (drop (i + 1) placed)) e))
    ∙ ap (λ r. row ⊕ row_tokens (gutter_with end s line left r))
    (sym (at_drop_more (map drawn_of) placed i no_label lt)) ∙ h

pub blank_put : (end : GutterEnd) (s : SnippetSettings) (line : Line) (left : ℕ) (placed : List PlacedLabel) (i : ℕ)
    (row new whole : Printout) → length placed ≤ i → new ≡ row ⊕ styled_tokens plain (replicate left 32)
    → row ⊕ row_tokens (gutter_with end s line left (map drawn_of (drop i placed))) ≡ whole → new ≡ whole
blank_put end s line left placed i row new whole le hn h =
    hn ∙ ap (λ x. row ⊕ x) (sym (ap row_tokens (nothing_more end s line left) ∙ blank_row s left))
    ∙ ap (λ r. row ⊕ row_tokens (gutter_with end s line left r)) (sym (at_drop_all (map drawn_of) placed i le)) ∙ h

-- an arrow and a space
abbrev pub arrow_told : Characters → Style → ℕ → ℕ → List RowToken
arrow_told t style corner left = styled_tokens style (corner ∷ replicate (left - 3) t.hbar ++ t.rarrow ∷ [])
    ++ styled_tokens plain (32 ∷ [])

arrow_row : (s : SnippetSettings) (l : DrawnLabel) (corner left : ℕ)
    → row_tokens (arrow s l corner left ∷ blank s 1 ∷ []) ≡ arrow_told s.theme.characters l.style corner left
arrow_row s l corner left =
    ap (λ r. r ++ row_tokens (blank s 1 ∷ [])) (styled_told s.width l.style
    (corner ∷ replicate (left - 3) s.theme.characters.hbar ++ s.theme.characters.rarrow ∷ []))
    ∙ ap (λ r. styled_tokens l.style (corner ∷ replicate (left - 3) s.theme.characters.hbar ++ s.theme.characters.rarrow
    ∷ []) ++ r) (blank_row s 1)

-- the ends
pub arrow_end : (s : SnippetSettings) (line : Line) (left corner : ℕ) (l : DrawnLabel) (p n : Printout) → corner
    ≡ cond (starts_on line l) s.theme.characters.ltop (ending_corner s.theme.characters l.parts) → n ≡ p
    ⊕ arrow_told s.theme.characters l.style corner left → n ≡ p ⊕ row_tokens (gutter_end ends.Arrow s line left l)
arrow_end s line left corner l p n e hn =
    hn ∙ ap (λ c. p ⊕ arrow_told s.theme.characters l.style c left) e
    ∙ ap (λ x. p ⊕ x) (sym (arrow_row s l (cond (starts_on line l) s.theme.characters.ltop
    (ending_corner s.theme.characters l.parts)) left))

pub corner_end : (s : SnippetSettings) (line : Line) (left bars : ℕ) (l : DrawnLabel) (p n : Printout) → bars ≡ left - 1
    → n ≡ p ⊕ styled_tokens l.style (s.theme.characters.lbot ∷ replicate bars s.theme.characters.hbar)
    → n ≡ p ⊕ row_tokens (gutter_end ends.Corner s line left l)
corner_end s line left bars l p n e hn =
    hn ∙ ap (λ k. p ⊕ styled_tokens l.style (s.theme.characters.lbot ∷ replicate k s.theme.characters.hbar)) e
    ∙ ap (λ x. p ⊕ x) (sym (styled_row s.width l.style
    (s.theme.characters.lbot ∷ replicate (left - 1) s.theme.characters.hbar)))

-- the corner of a label with a text
pub corner_of_some : (t : Characters) (text : Option (List ℕ)) (bytes : List ℕ) → text ≡ Some bytes → t.lcross
    ≡ ending_corner t (parts_of text)
corner_of_some t text bytes e = sym (ap (λ x. ending_corner t (parts_of x)) e
    ∙ ap (ending_corner t) (cut_some (chars bytes)).1.1)

pub arrow_put : (t : Characters) (style : Style) (corner left less : ℕ) (p q r n : Printout) → less ≡ left - 3 → q ≡ p
    ⊕ styled_tokens style (corner ∷ replicate less t.hbar) → r ≡ q ⊕ text_tokens (t.rarrow ∷ []) → n ≡ r
    ⊕ styled_tokens plain (32 ∷ []) →
    n ≡ p ⊕ arrow_told t style corner left
arrow_put t style corner left less p q r n z e f g =
    let bars : List ℕ = corner ∷ replicate less t.hbar in
    let space : List RowToken = styled_tokens plain (32 ∷ []) in
    g ∙ ap (λ x. x ⊕ space) (then p (styled_tokens style bars) (text_tokens (t.rarrow ∷ [])) e f)
    ∙ put_append p (styled_tokens style bars ++ text_tokens (t.rarrow ∷ [])) space
    ∙ ap (λ x. p ⊕ (x ++ space)) (run_one style bars t.rarrow)
    ∙ ap (λ k. p ⊕ (styled_tokens style (corner ∷ replicate k t.hbar ++ t.rarrow ∷ []) ++ space)) z
