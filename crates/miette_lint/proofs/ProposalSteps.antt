-- Steps of proposing fixes.
use Rattle.std.proofs.Common.{ℕ, ◌+◌, ◌-◌, ◌≤◌, ◌≡◌, false, cond, eqb, List, [], ◌∷◌, ◌++◌, length, Option, Some}
use Rattle.std.proofs.Common.{Result, OnOk, sym, ap, ◌∙◌, subst, arith}
use Rattle.std.specs.Prelude.{codes, is_none}
use Rattle.std.proofs.lemmas.Bool.{le-ltb}
use Rattle.std.proofs.lemmas.Bool.Decides.{nat_tests}
use Rattle.miette_lines.specs.rules.Lines.{Line}
use Rattle.miette_fixes.specs.rules.Edits.{FixModel}
use Rattle.miette_lint.specs.rules.Findings.{ending_blanks, tab_after_space}
use Rattle.miette_lint.specs.rules.Fixes.{blanks_fix, ending_fix, proposal, spaces_from, trailing_fix}

unequal : (n : ℕ) → (n ≡ 0 → ⊥) → eqb n 0 ≡ false
unequal n h = grind (arith, nat_tests)

pub ending_proposed : {E : Type 0} (r : Result (Unit {0}) E) (ending text : List ℕ) (l : Line) (old new : List FixModel)
    → text ≡ ending → l.end ≤ l.text_end
    → OnOk r (new ≡ old ++ proposal (codes "end the last line") l.end (l.end - l.end) text ∷ [])
    → OnOk r (new ≡ old ++ ending_fix ending l)
ending_proposed r ending text l old new same le h =
    let z : l.end - l.end ≡ 0 = omega arith in
    subst (λ ps. OnOk r (new ≡ old ++ ps))
    (ap (λ n. proposal (codes "end the last line") l.end n text ∷ []) z
    ∙ ap (λ t. proposal (codes "end the last line") l.end 0 t ∷ []) same
    ∙ sym (ap (λ b. cond b [] (proposal (codes "end the last line") l.end 0 ending ∷ []))
    (le-ltb l.text_end l.end le))) h

pub trailing_proposed : {E : Type 0} (r : Result (Unit {0}) E) (end n : ℕ) (text none : List ℕ)
    (old new : List FixModel) → n ≡ ending_blanks text → (n ≡ 0 → ⊥) → n ≤ end → none ≡ []
    → OnOk r (new ≡ old ++ proposal (codes "delete trailing blanks") (end - n) (end - (end - n)) none ∷ [])
    → OnOk r (new ≡ old ++ trailing_fix end text)
trailing_proposed r end n text none old new e some le empty h =
    let size : end - (end - n) ≡ n = omega (arith, le) in
    subst (λ ps. OnOk r (new ≡ old ++ ps))
    (ap (λ k. proposal (codes "delete trailing blanks") (end - n) k none ∷ []) size
    ∙ ap (λ t. proposal (codes "delete trailing blanks") (end - n) n t ∷ []) empty
    ∙ sym (ap (λ b. cond b [] (proposal (codes "delete trailing blanks") (end - n) n [] ∷ [])) (unequal n some))
    ∙ ap (λ k. cond (eqb k 0) [] (proposal (codes "delete trailing blanks") (end - k) k [] ∷ [])) e) h

pub blanks_proposed : {E : Type 0} (r : Result (Unit {0}) E) (o : Option ℕ) (start at : ℕ) (blanks spaces : List ℕ)
    (old new : List FixModel) → o ≡ Some at → o ≡ tab_after_space blanks → spaces ≡ spaces_from 0 blanks
    → OnOk r (new ≡ old ++ proposal (codes "indent by spaces") start (start + length blanks - start) spaces ∷ [])
    → OnOk r (new ≡ old ++ blanks_fix start blanks)
blanks_proposed r o start at blanks spaces old new is e same h =
    let size : start + length blanks - start ≡ length blanks = omega arith in
    subst (λ ps. OnOk r (new ≡ old ++ ps))
    (ap (λ k. proposal (codes "indent by spaces") start k spaces ∷ []) size
    ∙ ap (λ t. proposal (codes "indent by spaces") start (length blanks) t ∷ []) same
    ∙ ap (λ (o : Option ℕ). cond (is_none o) []
    (proposal (codes "indent by spaces") start (length blanks) (spaces_from 0 blanks) ∷ [])) (sym is ∙ e)) h
