-- Steps of `lint --lsp`.
use Rattle.std.proofs.Common.{◌≡◌, ℕ, ◌<◌, ◌⊎◌, ◌↔◌, inl, inr, List, [], Bool, IsTrue, Option, Some, None, IfSome}
use Rattle.std.proofs.Common.{Result, Ok, Err, OnErr, ◌∙◌, ap, arith, subst, sym}
use Rattle.std.specs.Prelude.{◌==◌, if◌then◌else◌}
use Rattle.std.specs.Io.Buffered.{reader_buffer, reader_capacity, reader_inner, reader_remaining}
use Rattle.std.specs.Io.KnownBytes.{prepend_known}
use Rattle.std.specs.declared.alloc.Global.{Global}
use Rattle.std.specs.declared.io.buffered.BufReader.{BufReader}
use Rattle.std.proofs.KnownBytes.{prepend_known-nil}
use Rattle.miette_language_server.specs.rules.Serving.{served}
use Rattle.miette_devices.specs.declared.fault.ProgramExit.{ProgramExit}
use Rattle.miette_devices.specs.declared.fault.ProgramError.{ProgramError}
use Rattle.miette_devices.specs.declared.fault.ProgramError.TheVariants.{Memory, Read, Write}
use Rattle.miette_devices.specs.declared.fault.Program.TheVariants.{Lint}
use Rattle.miette_devices.specs.views.Endings.{IsFailure}
use Rattle.miette_lint_program.specs.views.Service.{BeginsService, IsServerFault, IsService}

-- an empty buffer in front of a reader holds nothing back
pub nothing_ahead : {R : Type 0} (remaining : R → Option (List ℕ)) (r : BufReader R Global) (reader : R)
    → reader_inner r ≡ reader → reader_buffer r ≡ [] → reader_capacity r ≡ 8192
    → reader_remaining remaining r ≡ remaining reader
nothing_ahead remaining r reader inner empty capacity =
    ap (λ n. if n == 0 then None else prepend_known (reader_buffer r) (remaining (reader_inner r))) capacity
    ∙ ap (λ bs. prepend_known bs (remaining (reader_inner r))) empty
    ∙ prepend_known-nil (remaining (reader_inner r)) ∙ ap remaining inner

-- the status of a service
service_status : (width : ℕ) (read old new : Option (List ℕ)) (status : ℕ) → IsService width read old new status
    → IfSome read (λ bytes. status ≡ (served width bytes).status)
service_status width None old new status h = tt
service_status width (Some bytes) old new status h = h.1

-- a status below 2 is that of a service
pub ended_status : (width : ℕ) (read same old new was is : Option (List ℕ)) (ending : ProgramExit)
    (ready quiet : Type 0)
    (read_failed write_failed : Bool) → same ≡ read
    → (IsService width same old new ending.status × ready × quiet)
    ⊎ ((fault : ProgramError) × IsFailure Lint ending was is fault × IsServerFault read_failed write_failed fault
    × BeginsService width same old new)
    → ending.status < 2 → IfSome read (λ bytes. ending.status ≡ (served width bytes).status)
ended_status width read same old new was is ending ready quiet read_failed write_failed e (inl h) lt =
    service_status width read old new ending.status
    (subst (λ (r : Option (List ℕ)). IsService width r old new ending.status) e h.0)
ended_status width read same old new was is ending ready quiet read_failed write_failed e (inr h) lt =
    let two : ending.status ≡ 2 = h.1.status in absurd (omega (arith, lt, two))

-- ---- a server's fault

same_fault : {T : Type 0} (r : Result T ProgramError) (f g : ProgramError) → r ≡ Err f → r ≡ Err g → f ≡ g
same_fault r f g is e = let k : Err f ≡ Err g = sym is ∙ e in cc

other_faults : {T : Type 0} (r : Result T ProgramError) (f : ProgramError) → r ≡ Err f
    → OnErr r ((r ≡ Err Memory) ⊎ (r ≡ Err Read) ⊎ (r ≡ Err Write)) → (f ≡ Memory) ⊎ (f ≡ Read) ⊎ (f ≡ Write)
other_faults (Ok x) f is h = cc
other_faults (Err e) f is h =
    elim h [
      | inl p ↦ inl (same_fault (Err e) f Memory is p)
      | inr (inl p) ↦ inr (inl (same_fault (Err e) f Read is p))
      | inr (inr p) ↦ inr (inr (same_fault (Err e) f Write is p))
    ]

pub server_fault : {T : Type 0} (read write : Bool) (r : Result T ProgramError) (f : ProgramError) → r ≡ Err f
    → (IsTrue read ↔ (r ≡ Err Read)) → (IsTrue write ↔ (r ≡ Err Write))
    → OnErr r ((r ≡ Err Memory) ⊎ (r ≡ Err Read) ⊎ (r ≡ Err Write)) → IsServerFault read write f
server_fault read write r f is reads writes others = record {
  read = (λ t. same_fault r f Read is (reads.0 t), λ e. reads.1 (is ∙ ap Err e));
  write = (λ t. same_fault r f Write is (writes.0 t), λ e. writes.1 (is ∙ ap Err e));
  others = other_faults r f is others;
}
