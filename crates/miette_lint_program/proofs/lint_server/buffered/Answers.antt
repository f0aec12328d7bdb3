use Rattle.miette_lint_program.proofs.LintServerSteps.{nothing_ahead}
use Rattle.miette_lint_program.proofs.lint_server.buffered.Goals as goal

pub returns-in-Ok-clause-whole : goal.returns-in-Ok-clause-whole
returns-in-Ok-clause-whole g c =
    nothing_ahead g.R.Read.remaining c.in-Ok.made c.args.reader c.in-Ok.ensures.inner c.in-Ok.ensures.empty
    c.in-Ok.ensures.capacity
