-- What calls leave of a client.
use Rattle.std.proofs.Common.{◌≡◌, ◌↔◌, Bool, true, false, IsTrue, List, Option, Ok, Err, ℕ, refl}
use Rattle.miette_devices.specs.declared.fault.ProgramError.{ProgramError}
use Rattle.miette_devices.specs.declared.fault.ProgramError.TheVariants.{Read, Write}
use Rattle.miette_devices.specs.views.DeviceState.{DeviceState}
use Rattle.miette_language_server.specs.views.ClientState.{ClientState, IsOpen, WriterState}

-- after a call that was done the stream has not failed
pub not_failed : {T : Type 0} (failed : Bool) (x : T) (f : ProgramError) → (IsTrue failed ↔ (Ok x ≡ Err f)) → failed
    ≡ false
not_failed false x f h = refl
not_failed true x f h = let e : Ok x ≡ Err f = h.0 refl in cc

-- and the client can be read again
pub still_open : {T R W : Type 0} (client : ClientState R W) (x : T) → (IsTrue client.reader.failed ↔ (Ok x ≡ Err Read))
    → (IsTrue client.writer.failed ↔ (Ok x ≡ Err Write)) → client.writer.is_sent ≡ true → IsOpen client
still_open client x read write sent =
    (not_failed client.reader.failed x Read read, not_failed client.writer.failed x Write write, sent)

-- what a writer holds that wasn't called
pub held : {W : Type 0} (contents : W → Option (List ℕ)) (old new : WriterState W) → new ≡ old
    → contents new.inner ≡ contents old.inner
held contents old new e = rw e refl

-- which has not failed then either, and all that it took was sent as before
pub still_sound : {W : Type 0} (old new : WriterState W) → new ≡ old → old.failed ≡ false → new.failed ≡ false
still_sound old new e h = rw e h

pub still_sent : {W : Type 0} (old new : WriterState W) → new ≡ old → old.is_sent ≡ true → new.is_sent ≡ true
still_sent old new e h = rw e h

-- what a reader has left that wasn't called
pub left : {R : Type 0} (remaining : R → Option (List ℕ)) (old new : DeviceState R) → new ≡ old
    → remaining new.inner ≡ remaining old.inner
left remaining old new e = rw e refl
