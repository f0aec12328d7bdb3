-- A sweep over labels by offset finds those that have a row under a line.
use Rattle.std.proofs.Common.{ℕ, zero, suc, ◌<◌, ◌≤◌, ◌≡◌, Bool, true, false, cond, leb, max, List, [], ◌∷◌, ◌++◌, ◌&&◌}
use Rattle.std.proofs.Common.{◌||◌, take, drop, refl, sym, ap, ap₂, ◌∙◌, append_assoc, arith}
use Rattle.std.specs.Prelude.{if◌then◌else◌}
use Rattle.std.specs.List.{filter}
use Rattle.std.proofs.lemmas.Bool.{leb-false, lt-leb}
use Rattle.miette_labels.specs.declared.placed.PlacedLabel.{PlacedLabel}
use Rattle.miette_lines.proofs.Cases.{by_cases}
use Rattle.miette_narrated.specs.rules.Labels.{SnippetLine, ends_before, whole_row, start_row, end_row, label_row}
use Rattle.miette_narrated.specs.rules.Labels.{label_rows}
use Rattle.miette_narrated.specs.steps.Conversions.{range_of, ranges_of}
use Rattle.miette_narrated.specs.steps.LabelSweep.{reaches, IsSweptTo, BeginsFrom, AreOrdered, last_start}

-- ---- the labels that reach a place

pub reach_later : (a b : ℕ) (ps : List PlacedLabel) → a ≤ b → filter (reaches b) (filter (reaches a) ps)
    ≡ filter (reaches b) ps
reach_later a b [] le = refl
reach_later a b (p ∷ ps) le =
    by_cases {C = filter (reaches b) (filter (reaches a) (p ∷ ps)) ≡ filter (reaches b) (p ∷ ps)} (leb a p.after)
    (λ t. rw t (ap (λ r. cond (leb b p.after) (p ∷ r) r) (reach_later a b ps le)))
    (λ f. let g : leb b p.after ≡ false = lt-leb b p.after (omega (arith, leb-false a p.after f)) in
    rw (f, g) (reach_later a b ps le))

-- ---- a label's row under a line

abbrev chosen : Bool → Bool → Bool → Bool → List ℕ → List ℕ → List ℕ → List ℕ
chosen begun ends within reached x y z = if begun then (if ends then x else (if within then y else []))
    else (if reached then (if ends then z else []) else [])

beyond : (begun reached : Bool) (x y z : List ℕ) → chosen begun false false reached x y z ≡ []
beyond true reached x y z = refl
beyond false true x y z = refl
beyond false false x y z = refl

row_unreached : (it : SnippetLine) (p : PlacedLabel) → p.start ≤ p.after
    → leb it.line.start p.after ≡ false → label_row it (range_of p) ≡ []
row_unreached it p le f =
    let d = range_of p in
    let begun : leb it.line.start p.start ≡ false = lt-leb it.line.start p.start
    (omega (arith, leb-false it.line.start p.after f)) in
    ap₂ (λ a b. chosen a (ends_before it p.start p.after) (leb p.start it.line.text_end) b (whole_row it d)
    (start_row it d) (end_row it d)) begun f

last_beyond : (is_last : Bool) (far text at : ℕ) → (if is_last then max far text else text) < at
    → (is_last && leb at far) ≡ false
last_beyond true far text at lt = lt-leb at far (omega arith)
last_beyond false far text at lt = refl

last_text : (is_last : Bool) (far text at : ℕ) → (if is_last then max far text else text) < at → text < at
last_text true far text at lt = omega arith
last_text false far text at lt = lt

pub row_beyond : (it : SnippetLine) (p : PlacedLabel) → p.start ≤ p.after → last_start it
    < p.start → label_row it (range_of p) ≡ []
row_beyond it p le lt =
    let d = range_of p in
    let text : it.line.text_end < p.start = last_text it.is_last it.data_end it.line.text_end p.start lt in
    let within : leb p.start it.line.text_end ≡ false = lt-leb p.start it.line.text_end text in
    let after : leb p.after it.line.text_end ≡ false = lt-leb p.after it.line.text_end (omega (arith, text, le)) in
    let ends : ends_before it p.start p.after ≡ false = ap (λ b. b || (it.is_last && leb p.start it.data_end)) after
    ∙ last_beyond it.is_last it.data_end it.line.text_end p.start lt in
    ap₂ (λ a b. chosen (leb it.line.start p.start) a b (leb it.line.start p.after) (whole_row it d) (start_row it d)
    (end_row it d)) ends within
    ∙ beyond (leb it.line.start p.start) (leb it.line.start p.after) (whole_row it d) (start_row it d) (end_row it d)

-- ---- the rows of many labels

abbrev AreDrawn : List PlacedLabel → Type 0
AreDrawn [] = Unit {0}
AreDrawn (p ∷ ps) = (p.start ≤ p.after) × AreDrawn ps

drawn_taken : (n : ℕ) (ps : List PlacedLabel) → AreOrdered ps → AreDrawn (take n ps)
drawn_taken zero [] o = tt
drawn_taken (suc n) [] o = tt
drawn_taken zero (p ∷ ps) o = tt
drawn_taken (suc n) (p ∷ ps) o = (o.0, drawn_taken n ps o.2)

ordered_dropped : (n : ℕ) (ps : List PlacedLabel) → AreOrdered ps → AreOrdered (drop n ps)
ordered_dropped zero [] o = tt
ordered_dropped (suc n) [] o = tt
ordered_dropped zero (p ∷ ps) o = o
ordered_dropped (suc n) (p ∷ ps) o = ordered_dropped n ps o.2

rows_reached : (it : SnippetLine) (ps : List PlacedLabel) → AreDrawn ps
    → label_rows it (ranges_of (filter (reaches it.line.start) ps)) ≡ label_rows it (ranges_of ps)
rows_reached it [] h = refl
rows_reached it (p ∷ ps) h =
    let f : Bool → List ℕ = λ b. label_rows it (ranges_of
    (cond b (p ∷ filter (reaches it.line.start) ps) (filter (reaches it.line.start) ps))) in
    by_cases {C = label_rows it (ranges_of (filter (reaches it.line.start) (p ∷ ps)))
    ≡ label_rows it (ranges_of (p ∷ ps))} (leb it.line.start p.after)
    (λ t. ap f t ∙ ap (λ r. label_row it (range_of p) ++ r) (rows_reached it ps h.1))
    (λ g. ap f g ∙ rows_reached it ps h.1 ∙ sym (ap (λ r. r ++ label_rows it (ranges_of ps))
    (row_unreached it p h.0 g)))

pub lower : (a b : ℕ) (ps : List PlacedLabel) → a ≤ b → BeginsFrom b ps → BeginsFrom a ps
lower a b [] le h = h
lower a b (p ∷ ps) le h = omega (arith, h)

rows_beyond : (it : SnippetLine) (ps : List PlacedLabel) → AreOrdered ps
    → BeginsFrom (suc (last_start it)) ps → label_rows it (ranges_of ps) ≡ []
rows_beyond it [] o h = refl
rows_beyond it (p ∷ ps) o h =
    ap (λ r. r ++ label_rows it (ranges_of ps)) (row_beyond it p o.0 (omega (arith, h)))
    ∙ rows_beyond it ps o.2 (lower (suc (last_start it)) p.start ps h o.1)

rows_split : (it : SnippetLine) (n : ℕ) (ps : List PlacedLabel)
    → label_rows it (ranges_of (take n ps)) ++ label_rows it (ranges_of (drop n ps))
    ≡ label_rows it (ranges_of ps)
rows_split it zero [] = refl
rows_split it (suc n) [] = refl
rows_split it zero (p ∷ ps) = refl
rows_split it (suc n) (p ∷ ps) =
    append_assoc (label_row it (range_of p)) (label_rows it (ranges_of (take n ps)))
    (label_rows it (ranges_of (drop n ps)))
    ∙ ap (λ r. label_row it (range_of p) ++ r) (rows_split it n ps)

-- the labels that run have all the rows of a line
pub rows_swept : (it : SnippetLine) (ps : List PlacedLabel) (place next : ℕ)
    (running : List PlacedLabel) → AreOrdered ps → place ≡ it.line.start → IsSweptTo ps place next running →
    BeginsFrom (suc (last_start it)) (drop next ps) → label_rows it (ranges_of running)
    ≡ label_rows it (ranges_of ps)
rows_swept it ps place next running o e at end =
    ap (λ r. label_rows it (ranges_of r)) (at ∙ ap (λ k. filter (reaches k) (take next ps)) e)
    ∙ rows_reached it (take next ps) (drawn_taken next ps o)
    ∙ sym (append-nil_of (label_rows it (ranges_of (take next ps))))
    ∙ ap (λ r. label_rows it (ranges_of (take next ps)) ++ r)
    (sym (rows_beyond it (drop next ps) (ordered_dropped next ps o) end))
    ∙ rows_split it next ps where
      append-nil_of : (xs : List ℕ) → xs ++ [] ≡ xs
      append-nil_of [] = refl
      append-nil_of (x ∷ xs) = ap (λ r. x ∷ r) (append-nil_of xs)

-- ---- where a sweep stops
