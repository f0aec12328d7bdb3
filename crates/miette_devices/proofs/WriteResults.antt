-- What the result of writing all says.
use Rattle.std.proofs.Common.{◌≡◌, ◌↔◌, Result, Ok, Err, Bool, IsTrue, OnErr, refl, sym, subst, ◌∙◌}
use Rattle.std.specs.Prelude.{IsErr}
use Rattle.miette_devices.specs.declared.fault.ProgramError.{ProgramError}
use Rattle.miette_devices.specs.declared.fault.ProgramError.TheVariants.{Read, Write}

-- where a writer failed, nothing else did
pub no-other : {A : Type 0} (r : Result A ProgramError) (f : ProgramError) → OnErr r (r ≡ Err Write) → (f ≡ Write → ⊥)
    → r ≡ Err f → ⊥
no-other (Ok x) f only other is = cc
no-other (Err e) f only other is = let same : Err f ≡ Err Write = sym is ∙ only in other cc

-- a writer has failed exactly where this is `Write`
pub write-failed : {A : Type 0} (failed : Bool) (r : Result A ProgramError) → (IsTrue failed ↔ IsErr r)
    → OnErr r (r ≡ Err Write) → IsTrue failed ↔ (r ≡ Err Write)
write-failed failed (Ok x) h only = (λ t. let k = h.0 t in cc, λ e. cc)
write-failed failed (Err e) h only = (λ t. only, λ s. h.1 refl)

-- a reader that has been read has failed exactly where this is `Read`
pub read-failed : {A B : Type 0} (failed : Bool) (all : B) (r : Result A ProgramError)
    → (IsTrue failed ↔ (Ok all ≡ Err Read))
    → OnErr r (r ≡ Err Write) → IsTrue failed ↔ (r ≡ Err Read)
read-failed failed all r h only = (λ t. let k = h.0 t in cc, λ is. absurd (no-other r Read only (λ e. cc) is))

-- what holds of each error holds of this one
pub of-error : {A E : Type 0} (r : Result A E) (e : E) (P : Type 0) → OnErr r P → r ≡ Err e → P
of-error r e P h is = subst (λ s. OnErr s P) is h
