use Rattle.miette_fixes.proofs.Taking.{maximal, neighbours, together}
use Rattle.miette_fixes.proofs.laws.all_applied_laws.Goals as goal

pub returns-clause-maximal : goal.returns-clause-maximal
returns-clause-maximal c = maximal

pub returns-clause-together : goal.returns-clause-together
returns-clause-together c = together

pub returns-clause-order : goal.returns-clause-order
returns-clause-order c = λ source before after edits next free. neighbours source before after edits next free
