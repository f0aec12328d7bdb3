use Rattle.std.proofs.Common.{refl, ◌∷◌, []}
use Rattle.miette_graphical_rules.specs.laws.Paths.{to_cause}
use Rattle.callers.specs.Sums.{narrow, printed_cause, sum_tree}
use Rattle.callers.proofs.pictures.cause_is_printed.Goals as goal

pub returns-clause-printed : goal.returns-clause-printed
returns-clause-printed c = c.paths_law.ensures.only narrow sum_tree (to_cause ∷ []) printed_cause refl

pub returns-clause-path : goal.returns-clause-path
returns-clause-path c = c.paths_law.ensures.named narrow sum_tree printed_cause (returns-clause-printed c)
