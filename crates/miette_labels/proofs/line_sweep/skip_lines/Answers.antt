use Rattle.miette_labels.proofs.Swept.{left_at}
use Rattle.miette_labels.proofs.line_sweep.skip_lines.Goals as goal

pub returns : goal.returns
returns c =
    rw c.leave.ensures.next
    (left_at c.args.labels.now (record { start = c.args.from; text_end = c.args.to; end = c.args.to }) c.enter.new.self.next
    c.enter.new.self.running.items c.leave.new.self.running.items
    c.requires.sorted c.if-to-from.false c.in_ok-enter.ensures.on c.leave.ensures.running)
