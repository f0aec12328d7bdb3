-- The ends of a line, mark by mark and label by label.
use Rattle.std.proofs.Common.{ℕ, ◌+◌, ◌-◌, ◌<◌, ◌≤◌, ◌≡◌, Bool, true, false, cond, eqb, List, [], ◌∷◌, ◌++◌, map}
use Rattle.std.proofs.Common.{length, drop, get_or, chars, refl, sym, ap, ◌∙◌, append_assoc, append-nil, Option, Some}
use Rattle.std.proofs.Common.{None}
use Rattle.std.proofs.lemmas.Bool.{or_parts}
use Rattle.std.proofs.lemmas.List.{at_drop_more, at_drop_all}
use Rattle.std.specs.List.{list_any}
use Rattle.miette_lines.proofs.Cases.{by_cases}
use Rattle.miette_lines.specs.rules.Lists.{onto}
use Rattle.miette_lines.specs.rules.Lines.{Line}
use Rattle.miette_labels.specs.declared.placed.PlacedLabel.{PlacedLabel}
use Rattle.miette_labels.specs.rules.Labels.{cut_at_lf, ends_on, parts_of, starts_on}
use Rattle.miette_labels.specs.views.ProgramLabels.{drawn_of}
use Rattle.miette_snippet_rules.specs.declared.underlines.Underline.{Underline as MadeUnderline}
use Rattle.miette_snippet_rules.specs.rules.LabelColumns.{pointer_ends, underline_ends, multi_line_ends}
use Rattle.miette_snippet_rules.specs.rules.Underlines.{MeasuredText}
use Rattle.miette_snippet_rules.specs.rules.PrintedCells.{first_column, last_column}
use Rattle.miette_snippet_rules.specs.views.MadeUnderlines.{underline_of}
use Rattle.miette_snippet_rules.specs.steps.LabelColumnSteps.{has_end, multi_line_end}

-- ---- anchors

hung_onto : (code : ℕ) (parts : List (List ℕ)) (pointer : ℕ) → pointer_ends (onto code parts) pointer ≡ pointer ∷ []
hung_onto code [] pointer = refl
hung_onto code (p ∷ ps) pointer = refl

-- a text has a part
hung_text : (codes : List ℕ) (pointer : ℕ) → pointer_ends (cut_at_lf codes) pointer ≡ pointer ∷ []
hung_text [] pointer = refl
hung_text (c ∷ cs) pointer =
    by_cases {C = pointer_ends (cut_at_lf (c ∷ cs)) pointer ≡ pointer ∷ []} (eqb c 10)
    (λ e. ap (λ b. pointer_ends (cond b ([] ∷ cut_at_lf cs) (onto c (cut_at_lf cs))) pointer) e)
    (λ f. ap (λ b. pointer_ends (cond b ([] ∷ cut_at_lf cs) (onto c (cut_at_lf cs))) pointer) f
    ∙ hung_onto c (cut_at_lf cs) pointer)

pub anchor_put : (text : Option (List ℕ)) (own : List ℕ) (pointer : ℕ) (made new : List ℕ) → text ≡ Some own → new
    ≡ made ++ pointer ∷ [] → new ≡ made ++ pointer_ends (parts_of text) pointer
anchor_put text own pointer made new e n =
    n ∙ ap (λ xs. made ++ xs)
    (sym (ap (λ o. pointer_ends (parts_of o) pointer) e ∙ hung_text (chars own) pointer))

pub anchor_none : (text : Option (List ℕ)) (pointer : ℕ) (made : List ℕ) → text ≡ None → made
    ≡ made ++ pointer_ends (parts_of text) pointer
anchor_none text pointer made e =
    sym (append-nil made) ∙ ap (λ o. made ++ pointer_ends (parts_of o) pointer) (sym e)

-- ---- marks

pub ends_more : (marks : List MadeUnderline) (i last : ℕ) (d : MadeUnderline)
    (made one two three whole : List ℕ) → i < length marks → last ≡ (get_or marks i d).until - 1 →
    one ≡ made ++ (get_or marks i d).from ∷ [] →
    two ≡ one ++ pointer_ends (underline_of (get_or marks i d)).label.parts (get_or marks i d).pointer →
    three ≡ two ++ last ∷ [] →
    made ++ underline_ends (map underline_of (drop i marks)) ≡ whole → three
    ++ underline_ends (map underline_of (drop (i + 1) marks))
    ≡ whole
ends_more marks i last d made one two three whole lt l a b c inv =
    let m : MadeUnderline = get_or marks i d in
    let hung : List ℕ = pointer_ends (underline_of m).label.parts m.pointer in
    let rest : List ℕ = underline_ends (map underline_of (drop (i + 1) marks)) in
    ap (λ xs. xs ++ rest) c ∙ append_assoc two (last ∷ []) rest
    ∙ ap (λ xs. xs ++ last ∷ rest) b ∙ append_assoc one hung (last ∷ rest)
    ∙ ap (λ xs. xs ++ (hung ++ last ∷ rest)) a ∙ append_assoc made (m.from ∷ []) (hung ++ last ∷ rest)
    ∙ ap (λ n. made ++ m.from ∷ (hung ++ n ∷ rest)) l
    ∙ ap (λ xs. made ++ underline_ends xs) (sym (at_drop_more (map underline_of) marks i d lt)) ∙ inv

pub ends_end : (marks : List MadeUnderline) (i : ℕ) (made whole : List ℕ) → length marks ≤ i → made
    ++ underline_ends (map underline_of (drop i marks)) ≡ whole → made ≡ whole
ends_end marks i made whole le inv = sym (append-nil made)
    ∙ ap (λ xs. made ++ underline_ends xs) (sym (at_drop_all (map underline_of) marks i le)) ∙ inv

-- ---- labels of several lines

pub begin_put : (line : Line) (text : MeasuredText) (label : PlacedLabel) (first : ℕ) (made new : List ℕ)
    → starts_on line (drawn_of label) ≡ true →
    first ≡ first_column text.cells text.text_end text.width label.start → new ≡ made ++ first ∷ [] →
    new ≡ made ++ multi_line_end line text (drawn_of label)
begin_put line text label first made new on f n =
    n ∙ ap (λ c. made ++ c ∷ []) f
    ∙ ap (λ b. made ++ cond b (first_column text.cells text.text_end text.width label.start ∷ [])
    (cond (ends_on line (drawn_of label)) ((last_column text.cells text.text_end text.width label.after - 1) ∷ []) []))
    (sym on)

pub end_put : (line : Line) (text : MeasuredText) (label : PlacedLabel) (after last : ℕ) (made new : List ℕ)
    → starts_on line (drawn_of label) ≡ false → ends_on line (drawn_of label) ≡ true →
    after ≡ last_column text.cells text.text_end text.width label.after → last ≡ after - 1 → new ≡ made ++ last ∷ []
    → new ≡ made ++ multi_line_end line text (drawn_of label)
end_put line text label after last made new off on b l n =
    n ∙ ap (λ c. made ++ c ∷ []) (l ∙ ap (λ k. k - 1) b)
    ∙ ap (λ t. made ++ cond t ((last_column text.cells text.text_end text.width label.after - 1) ∷ []) []) (sym on)
    ∙ ap (λ t. made ++ cond t (first_column text.cells text.text_end text.width label.start ∷ [])
    (cond (ends_on line (drawn_of label)) ((last_column text.cells text.text_end text.width label.after - 1) ∷ []) []))
    (sym off)

pub neither_put : (line : Line) (text : MeasuredText) (label : PlacedLabel) (made : List ℕ)
    → starts_on line (drawn_of label) ≡ false → ends_on line (drawn_of label) ≡ false → made
    ≡ made ++ multi_line_end line text (drawn_of label)
neither_put line text label made off out =
    sym (append-nil made)
    ∙ ap (λ t. made ++ cond t ((last_column text.cells text.text_end text.width label.after - 1) ∷ []) []) (sym out)
    ∙ ap (λ t. made ++ cond t (first_column text.cells text.text_end text.width label.start ∷ [])
    (cond (ends_on line (drawn_of label)) ((last_column text.cells text.text_end text.width label.after - 1) ∷ []) []))
    (sym off)

pub spread_more : (line : Line) (text : MeasuredText) (labels : List PlacedLabel) (i : ℕ) (d : PlacedLabel)
    (made new whole : List ℕ) → i < length labels → new ≡ made ++ multi_line_end line text
    (drawn_of (get_or labels i d)) →
    made ++ multi_line_ends line text (map drawn_of (drop i labels)) ≡ whole →
    new ++ multi_line_ends line text (map drawn_of (drop (i + 1) labels)) ≡ whole
spread_more line text labels i d made new whole lt n inv =
    let rest : List ℕ = multi_line_ends line text (map drawn_of (drop (i + 1) labels)) in
    ap (λ xs. xs ++ rest) n ∙ append_assoc made (multi_line_end line text (drawn_of (get_or labels i d))) rest
    ∙ ap (λ xs. made ++ multi_line_ends line text xs) (sym (at_drop_more (map drawn_of) labels i d lt)) ∙ inv

pub spread_done : (line : Line) (text : MeasuredText) (labels : List PlacedLabel) (i : ℕ) (made whole : List ℕ)
    → length labels ≤ i → made ++ multi_line_ends line text (map drawn_of (drop i labels)) ≡ whole → made ≡ whole
spread_done line text labels i made whole le inv = sym (append-nil made)
    ∙ ap (λ xs. made ++ multi_line_ends line text xs) (sym (at_drop_all (map drawn_of) labels i le)) ∙ inv

-- labels of which none begins or ends on the line have no end there
none_spread : (line : Line) (text : MeasuredText) (labels : List PlacedLabel) → list_any (has_end line) labels ≡ false
    → multi_line_ends line text (map drawn_of labels) ≡ []
none_spread line text [] h = refl
none_spread line text (l ∷ ls) h =
    let parts = or_parts (has_end line l) (list_any (has_end line) ls) h in
    let own = or_parts (starts_on line (drawn_of l)) (ends_on line (drawn_of l)) parts.0 in
    ap (λ xs. xs ++ multi_line_ends line text (map drawn_of ls)) (sym (neither_put line text l [] own.0 own.1))
    ∙ none_spread line text ls parts.1

pub ends_alone : (line : Line) (text : MeasuredText) (labels : List PlacedLabel) (found : Bool) (marks made : List ℕ)
    → found
    ≡ list_any (has_end line) labels → found ≡ false → made ≡ [] ++ marks → made
    ≡ marks ++ multi_line_ends line text (map drawn_of labels)
ends_alone line text labels found marks made f off m =
    m ∙ sym (append-nil marks) ∙ ap (λ xs. marks ++ xs) (sym (none_spread line text labels (sym f ∙ off)))
