-- What is told of an error with a message in front.
use Rattle.std.proofs.Common.{◌≡◌, Option, Some, Result, Ok, Err, IfErr, refl, subst}
use Rattle.std.specs.Option.{IsNone}
use Rattle.std.specs.Result.{IsErrAnd, result_ok}

-- the error's own report stands after the message, as the error converts to it alone
pub told_after : {A B R : Type 0} (outcome : Result A R) (result : Result B R) (converts : R → R → Type 0)
    (tells : Option R → R → Type 0) (Q : R → R → Type 0) → ((e r : R) → converts e r → r ≡ e)
    → ((report r : R) → tells (Some report) r → Q report r)
    → (IsNone (result_ok outcome) → IsErrAnd result (λ r. (below : Option R) × IfErr outcome
    (λ error. (report : R) × converts error report × (below ≡ Some report)) × tells below r))
    → IfErr outcome (λ report. IfErr result (λ r. Q report r))
told_after (Ok x) result converts tells Q same to missing = tt
told_after (Err e) (Ok y) converts tells Q same to missing = tt
told_after (Err e) (Err r) converts tells Q same to missing =
    let m = missing refl in
    let is = m.1.2 in
    subst (λ x. Q x r) (same e m.1.0 m.1.1) (to m.1.0 r (subst (λ below. tells below r) is m.2))
