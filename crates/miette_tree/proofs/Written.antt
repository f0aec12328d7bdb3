-- What a text is where an append is told as one that may fail, and how one fails that is never refused.
use Rattle.std.proofs.Common.{◌≡◌, ℕ, List, Result, Ok, Err, refl}
use Rattle.std.specs.Prelude.{cond, is_ok, OnOk, OnErr}
use Rattle.miette_protocol.specs.declared.error.RenderError.{RenderError}
use Rattle.miette_protocol.specs.declared.error.RenderError.TheVariants.{Memory, Refused}

pub where_written : {T E : Type 0} (r : Result T E) (new written old : List ℕ) → new ≡ cond (is_ok r) written old
    → OnOk r (new ≡ written)
where_written (Ok x) new written old is = is
where_written (Err e) new written old is = tt

pub only_memory : {T : Type 0} (r : Result T RenderError) → (r ≡ Err Refused → ⊥) → OnErr r (r ≡ Err Memory)
only_memory (Ok x) h = tt
only_memory (Err Memory) h = refl
only_memory (Err Refused) h = absurd (h refl)
