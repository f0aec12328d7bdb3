use Rattle.miette_lint.proofs.FindingSteps.{trailing_put}
use Rattle.miette_lint.proofs.findings.push_trailing.Goals as goal

pub returns : goal.returns
returns c = trailing_put _ c.args.end c.ending_blanks-blanks.result c.args.text.now _ _
    c.ending_blanks-blanks.ensures.count c.if-blanks-eq0.false c.push_words.ensures
