use Rattle.std.proofs.Common.{ap, ◌∙◌}
use Rattle.miette_description.specs.steps.IndexNeeds.{items_at}
use Rattle.miette_description.proofs.source.items_at.Goals as goal

pub returns-in-Some : goal.returns-in-Some
returns-in-Some c = c.items_in.ensures ∙ ap items_at c.in-Some.ensures

pub returns-in-None : goal.returns-in-None
returns-in-None c = ap items_at c.in-None.ensures
