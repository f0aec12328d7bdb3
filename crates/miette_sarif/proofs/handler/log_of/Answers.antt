use Rattle.std.proofs.Common.{map}
use Rattle.std.proofs.lemmas.Result.{IfOk-weaker}
use Rattle.miette_tree.specs.rules.Tree.{trees}
use Rattle.miette_tree.specs.views.Report.{tree_of}
use Rattle.miette_sarif.proofs.handler.log_of.Goals as goal

pub returns : goal.returns
returns g c =
    let ts = trees (map (tree_of g.D.Diagnostic.meaning g.S.SourceCode.source) c.args.reports.now) in
    IfOk-weaker c.spelled_log.result _ _ (λ text log. log ts c.in_ok-findings.ensures) c.spelled_log.ensures
