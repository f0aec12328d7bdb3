-- The rows of lines, one line after the other.
use Rattle.std.proofs.Common.{ℕ, ◌+◌, ◌-◌, ◌≤◌, ◌≡◌, Bool, false, List, [], ◌∷◌, ◌++◌, length, drop, eqb, refl, sym, ap}
use Rattle.std.proofs.Common.{◌∙◌, subst, append_assoc, append-nil, arith}
use Rattle.std.specs.Prelude.{slice_index}
use Rattle.std.proofs.lemmas.Bool.{ne_eqb, eq-eqb, eqb-true, eqb-false}
use Rattle.std.proofs.lemmas.List.{length-drop}
use Rattle.miette_lines.specs.rules.Lines.{Line, lines_from, ends_line, with_byte}
use Rattle.miette_lines.specs.declared.lines.LineOfText.{LineOfText}
use Rattle.miette_lines.specs.views.Walking.{RemainingLines, IsFirst, after_line, line_of_text, lines_left}
use Rattle.miette_protocol.specs.rules.Reading.{Contents}
use Rattle.miette_labels.specs.rules.Contexts.{lines_of_contents}
use Rattle.miette_lines.proofs.Cases.{by_cases}
use Rattle.miette_narrated.specs.rules.Labels.{LabelRange, SnippetLine}
use Rattle.miette_narrated.specs.rules.Lines.{snippet_line, narrated_line_rows, narrated_lines_rows}
use Rattle.miette_lines.specs.rules.Lists.{is_nil}

-- The lines that are left of a read's contents, with numbers after this one, have the rows that are left of the goal.
pub record AreLeft (labels : List LabelRange) (contents : Contents) (before : ℕ) (rest : RemainingLines)
    (out goal : List ℕ) : Type 0 where
  pub rows : out ++ narrated_lines_rows labels contents (before + 1) (lines_left rest) ≡ goal
  pub from : contents.span.offset ≤ rest.start
  pub to : rest.start + length rest.bytes ≡ contents.span.offset + length contents.bytes

-- all of them
pub left_first : (labels : List LabelRange) (contents : Contents) (before : ℕ) (rest : RemainingLines) (out : List ℕ)
    → rest
    ≡ record { start = contents.span.offset; bytes = contents.bytes } → before ≡ contents.line →
    AreLeft labels contents before rest out
    (out ++ narrated_lines_rows labels contents (contents.line + 1) (lines_of_contents contents))
left_first labels contents before rest out is n =
    subst (λ (r : RemainingLines). AreLeft labels contents before r out
    (out ++ narrated_lines_rows labels contents (contents.line + 1) (lines_of_contents contents))) (sym is)
    (record {
      rows = ap (λ k. out ++ narrated_lines_rows labels contents (k + 1) (lines_of_contents contents)) n;
      from =
          omega arith;
      to = refl;
    })

-- bytes have no line where there is none of them
with_some : (b at : ℕ) (ls : List Line) → is_nil (with_byte b at ls) ≡ false
with_some b at [] = refl
with_some b at (l ∷ ls) = refl

some_line : (at b : ℕ) (bs : List ℕ) → is_nil (lines_from at (b ∷ bs)) ≡ false
some_line at b bs =
    by_cases {C = is_nil (lines_from at (b ∷ bs)) ≡ false} (ends_line b (slice_index bs 0)) (λ t. rw t refl)
    (λ f. rw f (with_some b at (lines_from (at + 1) bs)))

nil_of : (at : ℕ) (bytes : List ℕ) → is_nil (lines_from at bytes) ≡ eqb (length bytes) 0
nil_of at [] = refl
nil_of at (b ∷ bs) = some_line at b bs ∙ sym (ne_eqb (length (b ∷ bs)) 0 (λ e. omega (arith, e)))

-- a line is the last one where it ends with the bytes
last_is : (rest : RemainingLines) (line : LineOfText) (end : ℕ) → IsFirst rest line → rest.start + length rest.bytes
    ≡ end
    → is_nil (lines_left (after_line rest line)) ≡ eqb line.end end
last_is rest line end h to =
    let left : length (drop (line.end - rest.start) rest.bytes) ≡ length rest.bytes - (line.end - rest.start) =
    length-drop (line.end - rest.start) rest.bytes in
    let n : ℕ = length (drop (line.end - rest.start) rest.bytes) in
    nil_of line.end (drop (line.end - rest.start) rest.bytes)
    ∙ by_cases {C = eqb n 0 ≡ eqb line.end end} (eqb line.end end)
    (λ t. let e : line.end ≡ end = eqb-true line.end end t in eq-eqb n 0 (omega (arith, left, to, e, h.from, h.some))
    ∙ sym t)
    (λ f. ne_eqb n 0 (λ z. eqb-false line.end end f (omega (arith, left, to, z, h.from, h.some, h.to))) ∙ sym f)

pub left_more : (labels : List LabelRange) (contents : Contents) (before number : ℕ) (rest after : RemainingLines)
    (line : LineOfText) (is_last : Bool) (it : SnippetLine) (out new goal : List ℕ)
    → AreLeft labels contents before rest out goal → IsFirst rest line → after ≡ after_line rest line
    → number ≡ before + 1 → is_last ≡ eqb line.end (contents.span.offset + length contents.bytes) →
    it ≡ snippet_line contents number is_last (line_of_text line) → new ≡ out ++ narrated_line_rows labels it
    → AreLeft labels contents number after new goal
left_more labels contents before number rest after line is_last it out new goal h first left n last here put =
    let later : List ℕ = narrated_lines_rows labels contents (number + 1) (lines_left (after_line rest line)) in
    let at_end : is_nil (lines_left (after_line rest line)) ≡ is_last =
    last_is rest line (contents.span.offset + length contents.bytes) first h.to ∙ sym last in
    let size : length (drop (line.end - rest.start) rest.bytes) ≡ length rest.bytes - (line.end - rest.start) =
    length-drop (line.end - rest.start) rest.bytes in
    subst (λ (r : RemainingLines). AreLeft labels contents number r new goal) (sym left)
    (record {
      rows = ap (λ o. o ++ later) (put ∙ ap (λ x. out ++ narrated_line_rows labels x)
          (here ∙ ap (λ b. snippet_line contents number b (line_of_text line)) (sym at_end)))
          ∙ append_assoc out (narrated_line_rows labels (snippet_line contents number
          (is_nil (lines_left (after_line rest line))) (line_of_text line))) later
          ∙ ap (λ ls. out ++ narrated_lines_rows labels contents number ls) (sym first.lines)
          ∙ ap (λ k. out ++ narrated_lines_rows labels contents k (lines_left rest)) n ∙ h.rows;
      from = omega (arith, h.from, first.from, first.some);
      to = omega (arith, h.to, size, first.from, first.some, first.to);
    })

pub left_none : (labels : List LabelRange) (contents : Contents) (before : ℕ) (rest : RemainingLines)
    (out goal : List ℕ)
    → AreLeft labels contents before rest out goal → rest.bytes ≡ [] → out ≡ goal
left_none labels contents before rest out goal h none =
    sym (append-nil out) ∙ ap (λ bs. out ++ narrated_lines_rows labels contents (before + 1) (lines_from rest.start bs))
    (sym none) ∙ h.rows
