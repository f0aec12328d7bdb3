use Rattle.miette_snippet_laws.proofs.OneGroup.{one_group}
use Rattle.miette_snippet_laws.proofs.range_laws.labels_have_one_group.Goals as goal

pub returns : goal.returns
returns c = one_group
