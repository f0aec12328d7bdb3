use Rattle.miette_lint.proofs.FindingSteps.{tab_put, no_tab}
use Rattle.miette_lint.proofs.findings.push_tab.Goals as goal

pub returns-in-Some : goal.returns-in-Some
returns-in-Some c = tab_put _ c.args.start c.in-Some.at c.args.text.now _ _ _ c.in-Some.ensures.at
    c.beginning_blanks.ensures.blanks c.push_words.ensures

pub returns-in-None : goal.returns-in-None
returns-in-None c = no_tab c.args.start c.args.text.now _ _ c.in-None.ensures.at c.beginning_blanks.ensures.blanks
