use Rattle.std.proofs.Common.{rules}
use Rattle.miette_lint_program.specs.views.Requests.{output_of}
use Rattle.miette_lint_program.proofs.RequestSteps.{width_had, width_unread}
use Rattle.miette_lint_program.proofs.lint_request.LintRequest.source.Goals as goal

pub returns-in_err-width : goal.returns-in_err-width
returns-in_err-width c =
    width_unread (output_of c.args.output) c.args.name.now c.args.width.now c.number.result c.from_residual.result
    c.number.ensures (search rules) (search rules)

pub returns : goal.returns
returns c =
    width_had (output_of c.args.output) c.args.name.now c.args.width.now c.number.result c.in_ok-width.width
    c.number.ensures (search rules)
