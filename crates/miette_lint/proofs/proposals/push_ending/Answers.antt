use Rattle.std.proofs.Common.{string_bytes}
use Rattle.miette_lines.specs.views.Walking.{line_of_text}
use Rattle.miette_lint.proofs.ProposalSteps.{ending_proposed}
use Rattle.miette_lint.proofs.proposals.push_ending.Goals as goal

pub returns : goal.returns
returns c =
    ending_proposed _ c.args.ending.now (string_bytes c.in_ok-text.text) (line_of_text c.args.line) _ _
    c.in_ok-text.ensures.ok c.if-line.false c.push_fix.ensures
