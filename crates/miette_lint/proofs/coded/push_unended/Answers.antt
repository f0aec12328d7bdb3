use Rattle.miette_lint.proofs.CodedSteps.{coded_from}
use Rattle.miette_lint.proofs.coded.push_unended.Goals as goal

pub returns : goal.returns
returns c =
    coded_from c.push_coded.result _ _ _ _ _ _ _ _ _ c.new-labels.ensures.items c.in_ok-push_unended.ensures
    c.new-fixes.ensures.items c.in_ok-push_ending.ensures c.push_coded.ensures
