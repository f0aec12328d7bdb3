use Rattle.std.proofs.Common.{arith}
use Rattle.miette_read_sarif.proofs.WalkSteps.{destination_within}
use Rattle.miette_read_sarif.proofs.messages.has_destination.Goals as goal

pub overflow_add-count : goal.overflow_add-count
overflow_add-count c = omega (arith, destination_within c.args.text.now)
