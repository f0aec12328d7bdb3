use Rattle.std.proofs.Common.{arith}
use Rattle.miette_lines.specs.views.Walking.{line_of_text}
use Rattle.miette_labels.proofs.Swept.{IsOver, swept_first, swept_one, swept_on}
use Rattle.miette_labels.proofs.sweep.Sweep.enter.Goals as goal
use Rattle.miette_labels.proofs.sweep.Sweep.enter.Goals.{then-loop-next-test+else-labels-next, else-loop-next-test}

pub loop-next-init : goal.loop-next-init
loop-next-init c = swept_first c.args.labels.now (line_of_text c.args.line.now) c.args.self.now.next c.args.self.now.running.items
    c.clear.new.self.items c.requires.some c.requires.at c.clear.ensures.items

pub returns : goal.returns
returns c =
    let over : IsOver c.args.labels.now (line_of_text c.args.line.now) c.loop-next.next =
    λ lt. elim c.loop-next-test.branch [
      | then-loop-next-test+else-labels-next w ↦ omega arith
      | else-loop-next-test w ↦ absurd (omega arith)
    ] in
    record {
      alone = swept_one c.args.labels.now (line_of_text c.args.line.now) c.loop-next.next c.loop-next.self.alone.items
          c.loop-next.self.running.items c.requires.sorted c.requires.some over c.loop-next.invariant;
      on = swept_on c.args.labels.now (line_of_text c.args.line.now) c.loop-next.next c.loop-next.self.alone.items
          c.loop-next.self.running.items c.requires.sorted c.requires.some over c.loop-next.invariant;
    }
