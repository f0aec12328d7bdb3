use Rattle.miette_devices.proofs.DeviceLemmas.{IfSome-read_end}
use Rattle.std.proofs.Common.{rules}
use Rattle.miette_devices.proofs.whole.read_whole.Goals as goal

pub returns-in-Ok-eq0-clause-bytes : goal.returns-in-Ok-eq0-clause-bytes
returns-in-Ok-eq0-clause-bytes g c =
    let bytes = c.in-Ok-eq0.ensures.bytes in
    IfSome-read_end _ _ _ _ _ _ c.in-Ok-eq0.field-0-test c.loop.invariant.2 bytes.0
    (bytes.1 c.in-Ok-eq0.field-0-test (search rules))
