use Rattle.miette_lint.proofs.FindingSteps.{begun}
use Rattle.miette_lint.proofs.blanks.beginning_blanks.Goals as goal

pub returns-clause-blanks : goal.returns-clause-blanks
returns-clause-blanks c = begun c.args.text.now c.beginning_count.result c.beginning_count.ensures.count
