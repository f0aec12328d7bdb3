use Rattle.miette_graphical_rules.proofs.Only.{only-text}
use Rattle.miette_graphical_laws.proofs.laws.only_law.Goals as goal

pub returns : goal.returns
returns c = λ s t bytes printed reads. only-text s t bytes printed reads
