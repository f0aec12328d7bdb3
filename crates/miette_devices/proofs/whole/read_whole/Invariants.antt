use Rattle.std.proofs.Common.{◌≡◌, ◌≤◌, false, length}
use Rattle.std.specs.Io.KnownBytes.{Consumes}
use Rattle.miette_devices.proofs.whole.read_whole.Given as goal

-- no call failed, and the bytes so far are what the reader had in front
abbrev pub invariant-loop : goal.invariant-loop
invariant-loop g l =
    (l.reader.failed ≡ false) × (l.counter ≤ length l.bytes.items)
    × Consumes (g.R.Read.remaining l.initial.reader.inner) (g.R.Read.remaining l.reader.inner) l.bytes.items
