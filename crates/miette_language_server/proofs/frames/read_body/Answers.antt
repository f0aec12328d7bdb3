use Rattle.std.proofs.Common.{◌≡◌, ◌<◌, ◌∙◌, ◌++◌, ℕ, arith, length, rules, subst, sym, take}
use Rattle.std.proofs.KnownBytes.{Consumes-trans}
use Rattle.std.proofs.lemmas.Grind.{common_steps}
use Rattle.std.specs.Io.KnownBytes.{Consumes}
use Rattle.miette_devices.specs.declared.fault.ProgramError.TheVariants.{Read}
use Rattle.miette_language_server.proofs.Bodies.{too_short}
use Rattle.miette_language_server.proofs.Clients.{not_failed, still_sent}
use Rattle.miette_language_server.proofs.frames.read_body.Goals as goal

pub returns-in-Ok-eq0-clause-body : goal.returns-in-Ok-eq0-clause-body
returns-in-Ok-eq0-clause-body g c =
    let mid = g.R.Read.remaining c.loop.client.reader.inner in
    let new = g.R.Read.remaining c.read.new.self.reader.inner in
    let bytes = c.in-Ok-eq0.ensures.bytes in
    let zero = c.in-Ok-eq0.field-0-test in
    let some : length c.loop.body.items < c.args.size = omega arith in
    too_short (g.R.Read.remaining c.args.client.now.reader.inner) mid new c.loop.body.items c.args.size
    c.loop.invariant.read (subst (λ (k : ℕ). Consumes mid new (take k c.read.new.buf)) zero bytes.0)
    (bytes.1 zero (search rules)) some

pub loop-preserved : goal.loop-preserved
loop-preserved g c =
    let body = c.loop.body.items in
    let all = c.extend_from_slice.new.self.items in
    let old = g.R.Read.remaining c.args.client.now.reader.inner in
    let new = g.R.Read.remaining c.read.new.self.reader.inner in
    let is : all ≡ body ++ take c.in-Ok.n c.read.new.buf = grind (arith, common_steps) in
    record {
      read = subst (Consumes old new) (sym is)
          (Consumes-trans _ _ _ _ _ c.loop.invariant.read c.in-Ok.ensures.bytes.0);
      within = grind (arith, common_steps);
      sound = not_failed _ _ Read c.in-Ok.ensures.failed;
      sent = still_sent _ _ c.read.ensures.writer c.loop.invariant.sent;
      writer = c.read.ensures.writer ∙ c.loop.invariant.writer;
    }
