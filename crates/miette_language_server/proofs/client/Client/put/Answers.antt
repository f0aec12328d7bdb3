use Rattle.std.proofs.Common.{◌++◌, ◌∙◌, refl, subst, sym, take}
use Rattle.std.proofs.KnownBytes.{Appends-trans}
use Rattle.miette_devices.proofs.DeviceLemmas.{taken-more}
use Rattle.miette_devices.specs.declared.fault.ProgramError.TheVariants.{Write}
use Rattle.miette_devices.specs.views.Device.{TakesBeginning}
use Rattle.miette_language_server.proofs.Beginnings.{on_err, takes_more}
use Rattle.miette_language_server.proofs.Clients.{not_failed}
use Rattle.miette_language_server.proofs.client.Client.put.Goals as goal

pub loop-rest-preserved : goal.loop-rest-preserved
loop-rest-preserved g c =
    let rest = c.loop-rest.rest.now in
    let inv = c.loop-rest.invariant in
    record {
      sound = not_failed _ _ Write c.in_ok-n.ensures.failed;
      reader = c.put_part.ensures.reader ∙ inv.reader;
      taken = (
        inv.taken.0 ++ take c.in_ok-n.n rest,
        taken-more _ inv.taken.0 rest c.in_ok-n.n _ inv.taken.1 refl,
        Appends-trans _ _ _ _ _ inv.taken.2 c.in_ok-n.ensures.taken,
      );
    }

pub returns-in_err-n-clause-err : goal.returns-in_err-n-clause-err
returns-in_err-n-clause-err g c =
    let old = g.W.Write.contents c.args.self.now.writer.inner in
    let new = g.W.Write.contents c.put_part.new.self.writer.inner in
    let inv = c.loop-rest.invariant.taken in
    on_err _ _ (subst (TakesBeginning old new) (sym inv.1)
    (takes_more old _ new inv.0 c.loop-rest.rest.now inv.2 c.in_err-n.ensures.err))
