-- Steps of finding what is to be found in lines.
use Rattle.std.proofs.Common.{ℕ, ◌+◌, ◌-◌, ◌≡◌, false, cond, eqb, List, [], ◌∷◌, ◌++◌, length, take, drop, Option, Some}
use Rattle.std.proofs.Common.{None, Result, OnOk, sym, ap, ◌∙◌, subst, arith, append_assoc, append-nil}
use Rattle.std.specs.Prelude.{codes, find, nat_lt, position, take_while}
use Rattle.std.specs.List.{flat_map}
use Rattle.std.specs.Option.{option_and_then, option_map, option_map_or}
use Rattle.std.proofs.lemmas.Bool.Decides.{nat_tests}
use Rattle.std.proofs.lemmas.List.{length-drop, take_rest}
use Rattle.std.proofs.lemmas.List.Folds.{length-prefix_len}
use Rattle.miette_lines.specs.rules.Lines.{Line, lines_from}
use Rattle.miette_lines.specs.declared.lines.LineOfText.{LineOfText}
use Rattle.miette_lines.specs.views.Walking.{RemainingLines, GivesLine, IsFirst, after_line, line_of_text, lines_left}
use Rattle.miette_protocol.specs.views.Meaning.{Label}
use Rattle.miette_columns.specs.rules.Cells.{Cell}
use Rattle.miette_lint.specs.rules.Findings.{ending_blanks, finding, is_blank, misplaced_tab, overlong}
use Rattle.miette_lint.specs.rules.Findings.{tab_after_space, tab_from, too_wide, trailing_space}

-- The lines that are left of `size` bytes have what is left to be found.
pub record AreLeft {X : Type 0} (f : Line → List X) (size : ℕ) (rest : RemainingLines) (found all : List X)
    : Type 0 where
  pub rows : found ++ flat_map f (lines_left rest) ≡ all
  pub to : rest.start + length rest.bytes ≡ size

-- all lines
pub left_first : {X : Type 0} (f : Line → List X) (rest : RemainingLines) (bytes : List ℕ) (found : List X) → rest
    ≡ record { start = 0; bytes = bytes } → found ≡ [] →
    AreLeft f (length bytes) rest found (flat_map f (lines_from 0 bytes))
left_first f rest bytes found is none =
    subst (λ (r : RemainingLines). AreLeft f (length bytes) r found (flat_map f (lines_from 0 bytes))) (sym is)
    (record { rows = ap (λ ls. ls ++ flat_map f (lines_from 0 bytes)) none; to = omega arith })

-- a step that gives a line
pub given_line : (rest after : RemainingLines) (r : Option LineOfText) (line : LineOfText) → r ≡ Some line
    → GivesLine rest r after → IsFirst rest line × (after ≡ after_line rest line)
given_line rest after r line is given = subst (λ (o : Option LineOfText). GivesLine rest o after) is given

pub left_more : {X : Type 0} (f : Line → List X) (size : ℕ) (rest after : RemainingLines) (r : Option LineOfText)
    (line : LineOfText) (found more all : List X) → AreLeft f size rest found all → r ≡ Some line
    → GivesLine rest r after → more ≡ found ++ f (line_of_text line) → AreLeft f size after more all
left_more {X} f size rest after r line found more all h is given step =
    let step_is : IsFirst rest line × (after ≡ after_line rest line) = given_line rest after r line is given in
    let first : IsFirst rest line = step_is.0 in
    let later : List X = flat_map f (lines_left (after_line rest line)) in
    let bytes : length (drop (line.end - rest.start) rest.bytes) ≡ length rest.bytes - (line.end - rest.start) =
    length-drop (line.end - rest.start) rest.bytes in
    subst (λ (r : RemainingLines). AreLeft f size r more all) (sym step_is.1)
    (record {
      rows = ap (λ m. m ++ later) step ∙ append_assoc found (f (line_of_text line)) later
          ∙ ap (λ ls. found ++ flat_map f ls) (sym first.lines) ∙ h.rows;
      to = omega (arith, h.to, bytes, first.from, first.some, first.to);
    })

-- one that gives none
pub left_none : {X : Type 0} (f : Line → List X) (size : ℕ) (rest after : RemainingLines) (r : Option LineOfText)
    (found all : List X) → AreLeft f size rest found all → r ≡ None → GivesLine rest r after → found ≡ all
left_none f size rest after r found all h is given =
    let end : (rest.bytes ≡ []) × (after ≡ rest) =
    subst (λ (o : Option LineOfText). GivesLine rest o after) is given in
    sym (append-nil found) ∙ ap (λ bs. found ++ flat_map f (lines_from rest.start bs)) (sym end.0) ∙ h.rows

-- the texts of a line

unequal : (n : ℕ) → (n ≡ 0 → ⊥) → eqb n 0 ≡ false
unequal n h = grind (arith, nat_tests)

pub trailing_put : {E : Type 0} (r : Result (Unit {0}) E) (end n : ℕ) (text : List ℕ) (old new : List Label) → n
    ≡ ending_blanks text → (n ≡ 0 → ⊥)
    → OnOk r (new ≡ old ++ finding (codes "trailing blanks") (end - n) end ∷ [])
    → OnOk r (new ≡ old ++ trailing_space end text)
trailing_put r end n text old new e some h =
    subst (λ ls. OnOk r (new ≡ old ++ ls))
    (ap (λ b. cond b [] (finding (codes "trailing blanks") (end - n) end ∷ [])) (sym (unequal n some))
    ∙ ap (λ k. cond (eqb k 0) [] (finding (codes "trailing blanks") (end - k) end ∷ [])) e) h

pub tab_put : {E : Type 0} (r : Result (Unit {0}) E) (start at : ℕ) (text blanks : List ℕ) (old new : List Label)
    → Some at ≡ tab_after_space blanks → blanks ≡ take_while is_blank text
    → OnOk r (new ≡ old ++ finding (codes "tab after space") (start + at) (start + at + 1) ∷ [])
    → OnOk r (new ≡ old ++ misplaced_tab start text)
tab_put r start at text blanks old new e same h =
    subst (λ ls. OnOk r (new ≡ old ++ ls)) (ap (λ o. option_map_or
    (λ at. finding (codes "tab after space") (start + at) (start + at + 1) ∷ []) o [])
    (e ∙ ap tab_after_space same)) h

pub no_tab : (start : ℕ) (text blanks : List ℕ) (old : List Label) → None ≡ tab_after_space blanks → blanks
    ≡ take_while is_blank text → old ≡ old ++ misplaced_tab start text
no_tab start text blanks old e same =
    sym (append-nil old) ∙ ap (λ o. old ++ option_map_or (λ at. finding (codes "tab after space") (start + at)
    (start + at + 1) ∷ []) o []) (e ∙ ap tab_after_space same)

pub overlong_put : {E : Type 0} (r : Result (Unit {0}) E) (width end : ℕ) (cells : List Cell) (cell : Cell)
    (text : List ℕ) (old new : List Label) → Some cell ≡ find (λ c. nat_lt width c.until) cells → text ≡ too_wide width
    → OnOk r (new ≡ old ++ finding text cell.start end ∷ []) → OnOk r (new ≡ old ++ overlong width end cells)
overlong_put r width end cells cell text old new e t h =
    subst (λ ls. OnOk r (new ≡ old ++ ls))
    (ap (λ t. finding t cell.start end ∷ []) t ∙ ap (λ o. option_map_or
    (λ (c : Cell). finding (too_wide width) c.start end ∷ []) o []) e) h

pub begun : (xs : List ℕ) (n : ℕ) → n ≡ length (take_while is_blank xs) → take n xs ≡ take_while is_blank xs
begun xs n e = ap (λ k. take k xs) (e ∙ length-prefix_len is_blank xs)

pub tab_after : (xs : List ℕ) (s : ℕ) (r : Option ℕ) → Some s ≡ position (λ b. eqb b 32) xs → r ≡ tab_from xs s → r
    ≡ tab_after_space xs
tab_after xs s r e h = h ∙ ap (option_and_then (tab_from xs)) e

pub found_after : (xs : List ℕ) (s : ℕ) (o : Option ℕ) → o ≡ position (λ b. eqb b 9) (take (length xs - s) (drop s xs))
    → option_map (λ t. s + t) o ≡ tab_from xs s
found_after xs s o e = ap (option_map (λ t. s + t)) (e ∙ ap (position (λ b. eqb b 9)) (take_rest xs s))
