-- What is found in a source lies in it, so that each label is accepted.
use Rattle.std.proofs.Common.{◌≡◌, ℕ, ◌+◌, ◌-◌, ◌<◌, ◌≤◌, Bool, true, false, cond, eqb, List, [], ◌∷◌, ◌++◌, length}
use Rattle.std.proofs.Common.{drop, map, Option, Some, None, IfSome, refl, sym, arith, subst}
use Rattle.std.specs.Prelude.{codes, find, nat_lt, position, slice_range, take_while}
use Rattle.std.specs.List.{AllByRecursion, flat_map, last_or, position_or_len, prefix_len}
use Rattle.std.specs.Option.{option_and_then, option_map, option_map_or}
use Rattle.std.proofs.lemmas.Bool.{ltb-true}
use Rattle.std.proofs.lemmas.List.{length-drop, length-take}
use Rattle.bstr.specs.Utf8.{Decoded, pieces}
use Rattle.bstr.proofs.lemmas.PieceLemmas.{pieces-sizes, sizes}
use Rattle.miette_columns.specs.rules.Cells.{Cell, cells_from, hides_next, width_at}
use Rattle.miette_columns.specs.rules.Widths.{width_of}
use Rattle.miette_columns.proofs.Stepping.{character}
use Rattle.miette_labels.specs.rules.Groups.{AreInBounds}
use Rattle.miette_protocol.specs.rules.Reading.{IsInBounds}
use Rattle.miette_protocol.specs.views.Meaning.{Label}
use Rattle.miette_lines.specs.rules.Lines.{Line, IsCut, is_terminated, lines_of}
use Rattle.miette_lines.proofs.Cuts.{cut_le, lines_cut}
use Rattle.miette_lines.proofs.Parts.{part_length}
use Rattle.miette_lint.specs.rules.Findings.{lint_cells_of, ending_blanks, finding, findings_of, is_blank}
use Rattle.miette_lint.specs.rules.Findings.{line_findings}
use Rattle.miette_lint.specs.rules.Findings.{misplaced_tab, missing_terminator, overlong, tab_after_space}
use Rattle.miette_lint.specs.rules.Findings.{tab_from, text_findings, too_wide, trailing_space}

-- ---- a label for one of several

all_append : {X : Type 0} (P : X → Type 0) (xs ys : List X) → AllByRecursion P xs → AllByRecursion P ys
    → AllByRecursion P (xs ++ ys)
all_append P [] ys h k = k
all_append P (x ∷ xs) ys h k = (h.0, all_append P xs ys h.1 k)

one_label : {X : Type 0} (P : X → Type 0) (Q : Label → Type 0) (f : X → Label) (o : Option X)
    → ((x : X) → P x → Q (f x)) → IfSome o P → AllByRecursion Q (option_map_or (λ x. f x ∷ []) o [])
one_label P Q f None each h = tt
one_label P Q f (Some x) each h = (each x h, tt)

first_holds : {X : Type 0} (P : X → Type 0) (b : Bool) (x : X) (rest : Option X) → P x → IfSome rest P
    → IfSome (cond b (Some x) rest) P
first_holds P true x rest h k = h
first_holds P false x rest h k = k

found_holds : {X : Type 0} (P : X → Type 0) (test : X → Bool) (xs : List X) → AllByRecursion P xs
    → IfSome (find test xs) P
found_holds P test [] h = tt
found_holds P test (x ∷ xs) h = first_holds P (test x) x (find test xs) h.0 (found_holds P test xs h.1)

last_holds : {X : Type 0} (P : X → Type 0) (o : Option X) (xs : List X) → IfSome o P → AllByRecursion P xs
    → IfSome (last_or o xs) P
last_holds P o [] h k = h
last_holds P o (x ∷ xs) h k = last_holds P (Some x) xs k.0 k.1

-- ---- places in a text

kept_below : (b : Bool) (i n : ℕ) → (b ≡ true → i < n) → IfSome (cond b (Some i) None) (λ at. at < n)
kept_below true i n h = h refl
kept_below false i n h = tt

position_below : (p : ℕ → Bool) (xs : List ℕ) → IfSome (position p xs) (λ at. at < length xs)
position_below p xs = kept_below (nat_lt (position_or_len p xs) (length xs)) (position_or_len p xs) (length xs)
    (ltb-true (position_or_len p xs) (length xs))

moved_below : (s n m : ℕ) (o : Option ℕ) → m ≡ n - s → IfSome o (λ t. t < m)
    → IfSome (option_map (λ t. s + t) o) (λ at. at < n)
moved_below s n m None e h = tt
moved_below s n m (Some t) e h = omega (arith, e, h)

after_below : (blanks : List ℕ) (o : Option ℕ)
    → IfSome (option_and_then (tab_from blanks) o) (λ at. at < length blanks)
after_below blanks None = tt
after_below blanks (Some s) =
    moved_below s (length blanks) (length (drop s blanks)) (position (λ b. eqb b 9) (drop s blanks))
    (length-drop s blanks) (position_below (λ b. eqb b 9) (drop s blanks))

tab_below : (blanks : List ℕ) → IfSome (tab_after_space blanks) (λ at. at < length blanks)
tab_below blanks = after_below blanks (position (λ b. eqb b 32) blanks)

-- a cell begins and ends at an offset or before it
abbrev LiesBefore : ℕ → Cell → Type 0
LiesBefore to c = (c.start ≤ to) × (c.after ≤ to)

cells_before : (tab : ℕ) (hidden : Bool) (offset column to : ℕ) (ps : List Decoded) → offset + sizes ps ≤ to
    → AllByRecursion (LiesBefore to) (cells_from width_of tab hidden offset column (map character ps))
unfolding sizes
cells_before tab hidden offset column to [] h = tt
cells_before tab hidden offset column to (p ∷ ps) h =
    let code = (character p).code in (
      (omega (arith, h), omega (arith, h)),
      cells_before tab (hides_next hidden code) (offset + p.size)
          (column + width_at width_of tab hidden column code) to ps (omega (arith, h)),
    )

text_cells : (start to : ℕ) (text : List ℕ) → start + length text ≤ to
    → AllByRecursion (LiesBefore to) (lint_cells_of start text)
text_cells start to text h =
    cells_before 4 false start 0 to (pieces text)
    (omega (arith, h, pieces-sizes (length text) text (omega arith)))

-- ---- the labels of a line

in_source : (bytes text : List ℕ) (from to : ℕ) → from ≤ length bytes → to ≤ length bytes
    → IsInBounds bytes (finding text from to).span
in_source bytes text from to h k = record { begins = h; ends = omega (arith, h, k) }

unless_none : (b : Bool) (bytes : List ℕ) (label : Label) → IsInBounds bytes label.span
    → AreInBounds bytes (cond b [] (label ∷ []))
unless_none true bytes label h = tt
unless_none false bytes label h = (h, tt)

trailing_in : (bytes text : List ℕ) (end : ℕ) → end ≤ length bytes → AreInBounds bytes (trailing_space end text)
trailing_in bytes text end h =
    unless_none (eqb (ending_blanks text) 0) bytes _
    (in_source bytes (codes "trailing blanks") (end - ending_blanks text) end (omega (arith, h)) h)

tab_in : (bytes text : List ℕ) (start : ℕ) → start + length text ≤ length bytes
    → AreInBounds bytes (misplaced_tab start text)
tab_in bytes text start h =
    let short = length-take (prefix_len is_blank text) text in
    one_label (λ at. at < length (take_while is_blank text)) (λ label. IsInBounds bytes label.span)
    (λ at. finding (codes "tab after space") (start + at) (start + at + 1)) (tab_after_space (take_while is_blank text))
    (λ at lt. in_source bytes (codes "tab after space") (start + at) (start + at + 1) (omega (arith, h, lt, short))
    (omega (arith, h, lt, short))) (tab_below (take_while is_blank text))

overlong_in : (bytes : List ℕ) (width end : ℕ) (cells : List Cell) → end ≤ length bytes
    → AllByRecursion (LiesBefore (length bytes)) cells → AreInBounds bytes (overlong width end cells)
overlong_in bytes width end cells h all =
    one_label (LiesBefore (length bytes)) (λ label. IsInBounds bytes label.span)
    (λ (c : Cell). finding (too_wide width) c.start end) (find (λ (c : Cell). nat_lt width c.until) cells)
    (λ c lies. in_source bytes (too_wide width) c.start end lies.0 h)
    (found_holds (LiesBefore (length bytes)) (λ (c : Cell). nat_lt width c.until) cells all)

unless_ended : (b : Bool) (bytes : List ℕ) (labels : List Label) → AreInBounds bytes labels
    → AreInBounds bytes (cond b [] labels)
unless_ended true bytes labels h = tt
unless_ended false bytes labels h = h

unended_in : (bytes : List ℕ) (l : Line) (cells : List Cell) → AllByRecursion (LiesBefore (length bytes)) cells
    → AreInBounds bytes (missing_terminator l cells)
unended_in bytes l cells all =
    unless_ended (is_terminated l) bytes _
    (one_label (LiesBefore (length bytes)) (λ label. IsInBounds bytes label.span)
    (λ (c : Cell). finding (codes "no final terminator") c.start c.after) (last_or None cells)
    (λ c lies. in_source bytes (codes "no final terminator") c.start c.after lies.0 lies.1)
    (last_holds (LiesBefore (length bytes)) None cells tt all))

text_in : (bytes text : List ℕ) (width : ℕ) (l : Line) (cells : List Cell) → l.text_end ≤ length bytes
    → l.start + length text ≤ length bytes → AllByRecursion (LiesBefore (length bytes)) cells
    → AreInBounds bytes (text_findings width l text cells)
text_in bytes text width l cells h k all =
    let accepted : Label → Type 0 = λ label. IsInBounds bytes label.span in
    all_append accepted (trailing_space l.text_end text) _ (trailing_in bytes text l.text_end h)
    (all_append accepted (misplaced_tab l.start text) _ (tab_in bytes text l.start k)
    (all_append accepted (overlong width l.text_end cells) _ (overlong_in bytes width l.text_end cells h all)
    (unended_in bytes l cells all)))

line_in : (bytes : List ℕ) (width : ℕ) (l : Line) → l.start ≤ l.text_end → l.text_end ≤ length bytes
    → AreInBounds bytes (line_findings bytes width l)
line_in bytes width l begins ends =
    let text = slice_range bytes l.start l.text_end in
    let within : l.start + length text ≤ length bytes =
    omega (arith, begins, ends, part_length bytes l.start l.text_end ends) in
    text_in bytes text width l (lint_cells_of l.start text) ends within (text_cells l.start (length bytes) text within)

lines_in : (bytes : List ℕ) (width at : ℕ) (ls : List Line) → IsCut at ls (length bytes)
    → AreInBounds bytes (flat_map (line_findings bytes width) ls)
lines_in bytes width at [] h = tt
lines_in bytes width at (l ∷ ls) h =
    all_append (λ label. IsInBounds bytes label.span) (line_findings bytes width l) _
    (line_in bytes width l (omega (arith, h.0, h.1)) (omega (arith, h.2, cut_le l.end ls (length bytes) h.4)))
    (lines_in bytes width l.end ls h.4)

-- ---- all labels of a source

pub findings_accepted : (bytes : List ℕ) (width : ℕ) (found : List Label) → found ≡ findings_of bytes width
    → AreInBounds bytes found
findings_accepted bytes width found is =
    subst (λ (ls : List Label). AreInBounds bytes ls) (sym is)
    (lines_in bytes width 0 (lines_of bytes) (lines_cut bytes))
