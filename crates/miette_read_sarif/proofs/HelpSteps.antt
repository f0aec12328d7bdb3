-- What isn't offered is help.
use Rattle.std.proofs.Common.{◌≡◌, ℕ, ◌<◌, List, [], ◌∷◌, Bool, true, false, Option, None, length, arith, refl}
use Rattle.std.proofs.Common.{ap, sym}
use Rattle.std.specs.Prelude.{if◌then◌else◌, is_none}
use Rattle.miette_read.specs.rules.AnnotationLabels.{with_row}
use Rattle.miette_read_sarif.specs.rules.Proposals.{with_help_row}

-- what says nothing is none
pub silent : (b : Bool) (rows : List (List ℕ)) (words : List ℕ) → length words ≡ 0
    → rows ≡ (if b then with_help_row rows words else rows)
silent false rows words none = refl
silent true rows [] none = refl
silent true rows (c ∷ cs) none = absurd (omega (arith, none))

-- nor is what is offered
pub offered : {A : Type 0} (o : Option A) (rows more : List (List ℕ)) → is_none o ≡ false
    → rows ≡ (if is_none o then more else rows)
offered o rows more e = ap (λ b. if b then more else rows) (sym e)

-- what isn't is help
pub helped : {A : Type 0} (o : Option A) (rows : List (List ℕ)) (words : List ℕ) → 0 < length words → o ≡ None
    → with_row rows words ≡ (if is_none o then with_help_row rows words else rows)
helped o rows [] some none = absurd (omega (arith, some))
helped o rows (c ∷ cs) some none =
    ap (λ (b : Bool). if b then with_help_row rows (c ∷ cs) else rows) (sym (ap is_none none))
