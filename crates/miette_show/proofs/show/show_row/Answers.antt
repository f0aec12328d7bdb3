use Rattle.std.proofs.Common.{ℕ, List, string_bytes, subst}
use Rattle.miette_devices.specs.views.Device.{TakesBeginning}
use Rattle.miette_show.proofs.show.show_row.Goals as goal

pub returns-in_err-write_whole-clause-beginning : goal.returns-in_err-write_whole-clause-beginning
returns-in_err-write_whole-clause-beginning g c = λ e. (
  c.in_ok-kind.kind,
  string_bytes c.in_ok-kind.text,
  c.in_ok-kind.ensures.shown,
  subst (λ (t : List ℕ). TakesBeginning (g.W.Write.contents c.args.writer.now.inner)
      (g.W.Write.contents c.write_whole.new.writer.inner) t) c.as_bytes.ensures.value c.in_err-write_whole.ensures.err,
)
