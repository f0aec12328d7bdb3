use Rattle.miette_lint_program.proofs.LintSteps.{clean_is}
use Rattle.miette_lint_program.proofs.lint_reports.is_clean.Goals as goal

pub returns : goal.returns
returns c = clean_is c.args.found.now.items c.as_slice.result.now c.is_empty.result c.as_slice.ensures.value
    c.is_empty.ensures
