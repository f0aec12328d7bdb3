-- Steps of counting what lines have.
use Rattle.std.proofs.Common.{ℕ, ◌+◌, ◌-◌, ◌≡◌, ◌≤◌, List, [], ◌++◌, length, drop, Option, Some, None, sym, ap}
use Rattle.std.proofs.Common.{◌∙◌, subst, arith, IfOk, Result, Ok, Err, ap₂}
use Rattle.std.specs.List.{flat_map}
use Rattle.std.proofs.lemmas.List.{length-append, length-drop}
use Rattle.miette_lines.specs.rules.Lines.{Line, lines_from}
use Rattle.miette_lines.specs.declared.lines.LineOfText.{LineOfText}
use Rattle.miette_lines.specs.views.Walking.{GivesLine, IsFirst, RemainingLines, after_line, line_of_text, lines_left}
use Rattle.miette_fixes.specs.declared.applicability.Applicability.TheVariants.{MachineApplicable}
use Rattle.miette_fixes.specs.rules.Edits.{FixModel, Replacement}
use Rattle.miette_lint.specs.rules.Findings.{findings_of}
use Rattle.miette_lint.specs.rules.Fixes.{fixed_text, proposals_of, wide_lines}
use Rattle.miette_lint.specs.rules.Combined.{combined_proposal, mended_count, resolved_text}
use Rattle.miette_lint.proofs.FewerFindings.{mended_is, no_more_found}
use Rattle.miette_lint.proofs.FindingSteps.{given_line}
use Rattle.miette_lint.proofs.FixedLines.{fixed_clean}

-- The lines that are left of `size` bytes have what is left to be counted; so far no line has more than one.
pub record AreToCount {X : Type 0} (f : Line → List X) (size : ℕ) (rest : RemainingLines) (count all : ℕ) : Type 0 where
  pub sum : count + length (flat_map f (lines_left rest)) ≡ all
  pub few : count ≤ rest.start
  pub to : rest.start + length rest.bytes ≡ size

-- all lines
pub count_first : {X : Type 0} (f : Line → List X) (rest : RemainingLines) (bytes : List ℕ) → rest
    ≡ record { start = 0; bytes = bytes }
    → AreToCount f (length bytes) rest 0 (length (flat_map f (lines_from 0 bytes)))
count_first f rest bytes is =
    subst (λ (r : RemainingLines). AreToCount f (length bytes) r 0 (length (flat_map f (lines_from 0 bytes)))) (sym is)
    (record { sum = omega arith; few = omega arith; to = omega arith })

-- after one more line
pub count_more : {X : Type 0} (f : Line → List X) (size : ℕ) (rest after : RemainingLines) (r : Option LineOfText)
    (line : LineOfText) (count n all : ℕ) → AreToCount f size rest count all → r ≡ Some line
    → GivesLine rest r after → n ≡ length (f (line_of_text line)) → n ≤ 1
    → AreToCount f size after (count + n) all
count_more {X} f size rest after r line count n all h is given own one =
    let step_is : IsFirst rest line × (after ≡ after_line rest line) = given_line rest after r line is given in
    let first : IsFirst rest line = step_is.0 in
    let later : List X = flat_map f (lines_left (after_line rest line)) in
    let bytes : length (drop (line.end - rest.start) rest.bytes) ≡ length rest.bytes - (line.end - rest.start) =
    length-drop (line.end - rest.start) rest.bytes in
    let size_is : length (flat_map f (lines_left rest)) ≡ length (f (line_of_text line)) + length later =
    ap (λ ls. length (flat_map f ls)) first.lines ∙ length-append (f (line_of_text line)) later in
    subst (λ (r : RemainingLines). AreToCount f size r (count + n) all) (sym step_is.1)
    (record {
      sum = omega (arith, h.sum, size_is, own);
      few = omega (arith, h.few, one, first.from, first.some);
      to = omega (arith, h.to, bytes, first.from, first.some, first.to);
    })

-- after all
pub count_none : {X : Type 0} (f : Line → List X) (size : ℕ) (rest after : RemainingLines) (r : Option LineOfText)
    (count all : ℕ) → AreToCount f size rest count all → r ≡ None → GivesLine rest r after → count ≡ all
count_none f size rest after r count all h is given =
    let end : (rest.bytes ≡ []) × (after ≡ rest) =
    subst (λ (o : Option LineOfText). GivesLine rest o after) is given in
    let none : length (flat_map f (lines_left rest)) ≡ 0 =
    ap (λ bs. length (flat_map f (lines_from rest.start bs))) end.0 in
    omega (arith, h.sum, none)

-- ---- what is left in a fixed text

pub left_counted : {E : Type 0} (source : List ℕ) (width : ℕ) (text : List ℕ) (r : Result ℕ E)
    → text ≡ fixed_text source → IfOk r (λ n. n ≡ length (wide_lines text width))
    → IfOk r (λ n. n ≡ length (findings_of (fixed_text source) width))
left_counted source width text (Err e) is h = tt
left_counted source width text (Ok n) is h =
    h ∙ ap (λ t. length (wide_lines t width)) is ∙ ap length (sym (fixed_clean source width))

pub left_few : {E : Type 0} (source : List ℕ) (width : ℕ) (text : List ℕ) (r : Result ℕ E)
    → text ≡ fixed_text source → IfOk r (λ n. n ≡ length (wide_lines text width))
    → IfOk r (λ n. n ≤ length (findings_of source width))
left_few source width text (Err e) is h = tt
left_few {E} source width text (Ok n) is h =
    let count : n ≡ length (findings_of (fixed_text source) width) =
    left_counted {E = E} source width text (Ok n) is h in
    omega (arith, count, no_more_found source width)

-- all that is proposed as one fix, with how many findings are gone
pub joint_made : {E : Type 0} (source : List ℕ) (width found left : ℕ) (message : List ℕ) (fix : FixModel)
    (fixes : List FixModel) (r : Result FixModel E) → found ≡ length (findings_of source width)
    → left ≡ length (findings_of (fixed_text source) width) → message ≡ resolved_text (found - left) found
    → fix ≡ record { message = message; applicability = MachineApplicable; edits = [] }
    → fixes ≡ proposals_of source
    → IfOk r (λ it. it ≡ record fix { edits = fix.edits ++ flat_map (λ (other : FixModel). other.edits) fixes })
    → IfOk r (λ it. it ≡ combined_proposal source width)
joint_made source width found left message fix fixes (Err e) all some words is list h = tt
joint_made source width found left message fix fixes (Ok it) all some words is list h =
    let own : List FixModel → List Replacement = flat_map (λ (other : FixModel). other.edits) in
    let gone : found - left ≡ mended_count source width = ap₂ (λ a b. a - b) all some ∙ mended_is source width in
    let said : message ≡ resolved_text (mended_count source width) (length (findings_of source width)) =
    words ∙ ap₂ resolved_text gone all in
    h
    ∙ ap (λ (f : FixModel). record f { edits = f.edits ++ own fixes }) is
    ∙ ap₂ (λ m es. record { message = m; applicability = MachineApplicable; edits = es }) said (ap own list)
