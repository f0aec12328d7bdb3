use Rattle.std.proofs.Common.{◌∙◌, length}
use Rattle.std.specs.Prelude.{slice_get}
use Rattle.miette_read_sarif.proofs.StartSteps.{read_within}
use Rattle.miette_read_sarif.proofs.lines.FileLines.nth_line_start.Goals as goal

pub returns-in-Some-clause-value : goal.returns-in-Some-clause-value
returns-in-Some-clause-value c =
    let known = c.args.self.now.tabled c.in-Some.starts c.in-Some.is in
    c.start_at.ensures ∙ known.same c.args.lines

pub returns-in-Some-clause-within : goal.returns-in-Some-clause-within
returns-in-Some-clause-within c =
    let known = c.args.self.now.tabled c.in-Some.starts c.in-Some.is in
    read_within c.start_at.result (slice_get c.in-Some.starts.now c.args.lines) (length c.args.self.now.bytes.now)
    c.start_at.ensures (known.within c.args.lines)
