-- The request of `lint`, as the code keeps it.
use Rattle.miette_lint_program.specs.declared.lint_request.LintCheck.{LintCheck}
use Rattle.miette_lint_program.specs.declared.lint_request.LintOutput.{LintOutput}
use Rattle.miette_lint_program.specs.declared.lint_request.LintOutput.TheVariants as outputs
use Rattle.miette_lint_program.specs.declared.lint_request.LintRequest.{LintRequest}
use Rattle.miette_lint_program.specs.declared.lint_request.LintRequest.TheVariants as asked
use Rattle.miette_lint_program.specs.rules.Words.{Check, Request, Written, brief, check, diff, fixed, github, graphical}
use Rattle.miette_lint_program.specs.rules.Words.{sarif, serve}

abbrev pub output_of : LintOutput → Written
output_of outputs.Graphical = graphical
output_of outputs.Brief = brief
output_of outputs.Github = github
output_of (outputs.Sarif tool) = sarif tool.now
output_of outputs.Diff = diff
output_of outputs.Fixed = fixed

abbrev pub check_of : LintCheck → Check
check_of it = record { output = output_of it.output; name = it.name.now; width = it.width }

abbrev pub request_of : LintRequest → Request
request_of (asked.Check it) = check (check_of it)
request_of (asked.Serve width) = serve width
