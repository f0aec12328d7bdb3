use Rattle.miette_tree.proofs.Prefixes.{stripped}
use Rattle.miette_read_sarif.specs.rules.Uris.{after_front}
use Rattle.miette_read_sarif.proofs.uris.after_front.Goals as goal

pub returns : goal.returns
unfolding after_front
returns c = stripped c.strip_prefix.result c.args.front.now c.args.text.now c.strip_prefix.ensures.cases
