use Rattle.std.proofs.Common.{string_bytes}
use Rattle.miette_lint.proofs.ProposalSteps.{blanks_proposed}
use Rattle.miette_lint.proofs.proposals.push_blanks.Goals as goal

pub returns-in_ok-spaces-in-Some : goal.returns-in_ok-spaces-in-Some
returns-in_ok-spaces-in-Some c =
    blanks_proposed _ c.tab_after_space.result c.args.start _ c.args.blanks.now
    (string_bytes c.in_ok-spaces-in-Some.spaces) _ _ c.in-Some.is c.tab_after_space.ensures.at
    c.in_ok-spaces-in-Some.ensures c.push_fix.ensures
