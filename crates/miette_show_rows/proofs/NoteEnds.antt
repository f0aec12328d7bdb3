-- What the results of writing say.
use Rattle.std.proofs.Common.{◌≡◌, ◌⊎◌, ◌↔◌, Bool, true, false, IsTrue, OnErr, OnOk, Result, Ok, Err, inl, inr, refl}
use Rattle.std.proofs.Common.{sym, ◌∙◌}
use Rattle.miette_devices.specs.declared.fault.ProgramError.{ProgramError}
use Rattle.miette_devices.specs.declared.fault.ProgramError.TheVariants.{Memory, Write}

-- after what was done no call has failed
pub not_failed : {A : Type 0} (b : Bool) (x : A) (f : ProgramError) → (IsTrue b ↔ (Ok x ≡ Err f)) → b ≡ false
not_failed false x f h = refl
not_failed true x f h = let e : Ok x ≡ Err f = h.0 refl in cc

-- one that fails by memory or a write fails by nothing else
pub no_other : {A T : Type 0} (r : Result A ProgramError) (s : Result T ProgramError) (f g : ProgramError) → r ≡ Err f
    → s ≡ Err f
    → ((r ≡ Err Memory) ⊎ (r ≡ Err Write)) → (Memory ≡ g → ⊥) → (Write ≡ g → ⊥) → s ≡ Err g → ⊥
no_other r s f g is same (inl m) not_memory not_write e =
    let k : Err f ≡ Err Memory = sym is ∙ m in
    let l : Err f ≡ Err g = sym same ∙ e in
    not_memory cc
no_other r s f g is same (inr w) not_memory not_write e =
    let k : Err f ≡ Err Write = sym is ∙ w in
    let l : Err f ≡ Err g = sym same ∙ e in
    not_write cc

pub on_err_of : {A E : Type 0} (r : Result A E) (P : Type 0) → P → OnErr r P
on_err_of (Ok x) P p = tt
on_err_of (Err e) P p = p

pub on_ok_of : {A E : Type 0} (r : Result A E) (P : Type 0) → P → OnOk r P
on_ok_of (Ok x) P p = p
on_ok_of (Err e) P p = tt
