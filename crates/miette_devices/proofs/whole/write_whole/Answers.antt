use Rattle.std.proofs.Common.{refl, ◌++◌, take}
use Rattle.std.proofs.KnownBytes.{Appends-trans}
use Rattle.miette_devices.proofs.DeviceLemmas.{none-failed, taken-more}
use Rattle.miette_devices.proofs.whole.write_whole.Goals as goal

pub loop-rest-preserved : goal.loop-rest-preserved
loop-rest-preserved g c =
    let inv = c.loop-rest.invariant in
    let ens = c.in-Ok.ensures in (
      none-failed _ _ _ _ _ c.write.ensures.failed inv.0 c.in-Ok.is c.in-Ok.n-test.1,
      (
        inv.1.0 ++ take c.in-Ok.n c.loop-rest.rest.now,
        taken-more _ inv.1.0 c.loop-rest.rest.now c.in-Ok.n _ inv.1.1
            refl,
        Appends-trans _ _ _ _ _ inv.1.2 ens.bytes,
      ),
    )
