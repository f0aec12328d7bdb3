use Rattle.std.proofs.Common.{arith}
use Rattle.miette_read_sarif.proofs.WalkSteps.{after_mark}
use Rattle.miette_read_sarif.proofs.messages.opening.Goals as goal

pub range_from-rest-requires : goal.range_from-rest-requires
range_from-rest-requires c = λ _. after_mark c.args.text.now 0 91 c.utf8.text c.requires (omega arith) (omega arith)
