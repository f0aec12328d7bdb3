use Rattle.miette_graphical_rules.proofs.Paths.{printed_there}
use Rattle.miette_graphical_laws.proofs.NamedPaths.{named}
use Rattle.miette_graphical_laws.proofs.laws.paths_law.Goals as goal

pub returns-clause-named : goal.returns-clause-named
returns-clause-named c = λ s t p printed. named s t p printed

pub returns-clause-only : goal.returns-clause-only
returns-clause-only c = λ s t path p found. printed_there s t path p found
