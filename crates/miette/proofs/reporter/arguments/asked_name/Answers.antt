use Rattle.std.specs.Prelude.{codes}
use Rattle.miette_tree.proofs.Prefixes.{stripped}
use Rattle.miette.specs.rules.Arguments.{asked_name}
use Rattle.miette.proofs.reporter.arguments.asked_name.Goals as goal

pub returns : goal.returns
unfolding asked_name
returns c = stripped c.strip_prefix.result (codes "--") c.args.word.now c.strip_prefix.ensures.cases
