-- A last call whose result is returned as it is.
use Rattle.std.proofs.Common.{◌≡◌, ◌∙◌, Result, IfOk}
use Rattle.std.proofs.lemmas.Result.{IfOk-weaker}

pub returned : {T E V : Type 0} (r : Result T E) (look : T → V) (x y : V) → x ≡ y → IfOk r (λ t. look t ≡ x)
    → IfOk r (λ t. look t ≡ y)
returned r look x y e = IfOk-weaker r (λ t. look t ≡ x) (λ t. look t ≡ y) (λ t h. h ∙ e)
