use Rattle.std.proofs.Common.{◌≤◌, arith, length, string_bytes}
use Rattle.miette_lint.proofs.ProposalSteps.{trailing_proposed}
use Rattle.miette_lint.proofs.proposals.push_trailing.Goals as goal

pub returns : goal.returns
returns c =
    let n = c.ending_blanks-blanks.result in
    let few : n ≤ length c.args.text.now = c.ending_blanks-blanks.ensures.within in
    trailing_proposed _ c.args.end n c.args.text.now (string_bytes c.new.result) _ _
    c.ending_blanks-blanks.ensures.count
    c.if-blanks-eq0.false (omega (arith, few, c.requires)) c.new.ensures.bytes c.push_fix.ensures
