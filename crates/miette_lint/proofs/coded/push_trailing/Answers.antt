use Rattle.miette_lint.proofs.CodedSteps.{coded_from}
use Rattle.miette_lint.proofs.coded.push_trailing.Goals as goal

pub returns : goal.returns
returns c =
    coded_from c.push_coded.result _ _ _ _ _ _ _ _ _ c.new-labels.ensures.items c.in_ok-push_trailing.ensures
    c.new-fixes.ensures.items c.in_ok-push_trailing-2.ensures c.push_coded.ensures
