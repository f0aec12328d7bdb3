-- The rows of labels under a line that isn't a snippet's last: those of labels that end there, then those of labels
-- that begin there.
use Rattle.std.proofs.Common.{ℕ, ◌≤◌, ◌≡◌, Bool, true, false, cond, leb, ltb, ◌&&◌, List, [], ◌∷◌, ◌++◌, refl, sym, ap}
use Rattle.std.proofs.Common.{ap₂, ◌∙◌, append_assoc, arith}
use Rattle.std.specs.List.{filter}
use Rattle.std.proofs.lemmas.Bool.{leb-true, leb-false, le-ltb}
use Rattle.std.proofs.lemmas.Bool.Decides.{nat_tests}
use Rattle.miette_lines.specs.rules.Lines.{Line}
use Rattle.miette_labels.specs.declared.placed.PlacedLabel.{PlacedLabel}
use Rattle.miette_lines.proofs.Cases.{by_cases}
use Rattle.miette_narrated.specs.rules.Labels.{SnippetLine, LabelRange, ends_before, begins_before_text_end, start_row}
use Rattle.miette_narrated.specs.rules.Labels.{begun_row, label_row, label_rows}
use Rattle.miette_narrated.specs.steps.Ends.{is_ended, is_begun}
use Rattle.miette_narrated.specs.steps.Conversions.{range_of, ranges_of}
use Rattle.miette_narrated.specs.steps.LabelSweep.{BeginsFrom, AreOrdered}
use Rattle.miette_narrated.proofs.Sweeps.{lower, row_beyond}

-- a label that begins in the line's text and ends after it
pub begun_here : (it : SnippetLine) (d : LabelRange) → ends_before it d.start d.after ≡ false
    → begins_before_text_end it d.start ≡ true → begun_row it d ≡ start_row it d
begun_here it d ends begins = rw (ends, begins) refl

row_before : (it : SnippetLine) (p : PlacedLabel) → it.is_last ≡ false → leb it.line.start p.start
    ≡ false → (leb it.line.start p.after && leb p.after it.line.text_end) ≡ false →
    label_row it (range_of p) ≡ []
row_before it p last f n =
    by_cases {C = label_row it (range_of p) ≡ []} (leb it.line.start p.after)
    (λ t. let g : leb p.after it.line.text_end ≡ false = sym (ap (λ b. b && leb p.after it.line.text_end) t) ∙ n in
    rw (f, t, g, last) refl)
    (λ g. rw (f, g) refl)

none_ended : (line : Line) (ps : List PlacedLabel) → BeginsFrom line.start ps → AreOrdered ps
    → filter (is_ended line) ps ≡ []
none_ended line [] h o = refl
none_ended line (p ∷ ps) h o = rw (le-ltb p.start line.start h)
    (none_ended line ps (lower line.start p.start ps h o.1) o.2)

before_begun : (start k : ℕ) → leb start k ≡ false → ltb k start ≡ true
before_begun start k f = grind (arith, nat_tests)

row_after : (it : SnippetLine) (p : PlacedLabel) → it.is_last ≡ false → p.start ≤ p.after
    → leb p.start it.line.text_end ≡ false → label_row it (range_of p) ≡ []
row_after it p last le f = row_beyond it p le
    (rw last (omega (arith, leb-false p.start it.line.text_end f)))

-- one more label before those that end and those that begin on the line, where it does so itself
abbrev apart : SnippetLine → PlacedLabel → List PlacedLabel → List PlacedLabel → Bool → Bool → List ℕ
apart it p ended begun ends begins =
    label_rows it (ranges_of (cond ends (p ∷ ended) ended))
    ++ label_rows it (ranges_of (cond begins (p ∷ begun) begun))

pub rows_apart : (it : SnippetLine) (ps : List PlacedLabel) → it.is_last ≡ false → AreOrdered ps →
    label_rows it (ranges_of ps) ≡ label_rows it (ranges_of (filter (is_ended it.line) ps))
    ++ label_rows it (ranges_of (filter (is_begun it.line) ps))
rows_apart it [] last o = refl
rows_apart it (p ∷ ps) last o =
    let E = filter (is_ended it.line) ps in
    let B = filter (is_begun it.line) ps in
    let r = label_row it (range_of p) in
    let C = label_rows it (ranges_of (p ∷ ps)) ≡ apart it p E B (is_ended it.line p) (is_begun it.line p)
    in
    let ended = label_rows it (ranges_of E) in
    let begun = label_rows it (ranges_of B) in
    let rest = rows_apart it ps last o.2 in
    by_cases {C = C} (leb it.line.start p.start)
    (λ t.
    let from : it.line.start ≤ p.start = leb-true it.line.start p.start t in
    let none : E ≡ [] = none_ended it.line ps (lower it.line.start p.start ps from o.1) o.2 in
    let only : label_rows it (ranges_of ps) ≡ begun = rest
    ∙ ap (λ xs. label_rows it (ranges_of xs) ++ begun) none in
    let later = le-ltb p.start it.line.start from in
    let not_ended : is_ended it.line p ≡ false = rw later refl in
    by_cases {C = C} (leb p.start it.line.text_end)
    (λ u.
    let here : is_begun it.line p ≡ true = rw (t, u) refl in
    ap (λ x. r ++ x) only ∙ sym (ap (λ xs. label_rows it (ranges_of xs) ++ (r ++ begun)) none)
    ∙ sym (ap₂ (apart it p E B) not_ended here))
    (λ f.
    let not_here : is_begun it.line p ≡ false = rw (t, f) refl in
    ap₂ (λ a b. a ++ b) (row_after it p last o.0 f) only
    ∙ sym (ap (λ xs. label_rows it (ranges_of xs) ++ begun) none)
    ∙ sym (ap₂ (apart it p E B) not_ended not_here)))
    (λ f.
    let earlier = before_begun it.line.start p.start f in
    let not_here : is_begun it.line p ≡ false = rw f refl in
    by_cases {C = C} (leb it.line.start p.after && leb p.after it.line.text_end)
    (λ t.
    let ends : is_ended it.line p ≡ true = rw (earlier, t) refl in
    ap (λ x. r ++ x) rest ∙ sym (append_assoc r ended begun) ∙ sym (ap₂ (apart it p E B) ends not_here))
    (λ n.
    let not_ended : is_ended it.line p ≡ false = rw (earlier, n) refl in
    ap (λ x. x ++ label_rows it (ranges_of ps)) (row_before it p last f n) ∙ rest
    ∙ sym (ap₂ (apart it p E B) not_ended not_here)))
