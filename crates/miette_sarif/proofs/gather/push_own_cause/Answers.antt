use Rattle.std.proofs.lemmas.Result.{on_ok_weaker}
use Rattle.miette_tree.specs.views.Report.{tree_of}
use Rattle.miette_sarif.specs.views.Sources.{over_of}
use Rattle.miette_sarif.proofs.Gathers.{cause_over}
use Rattle.miette_sarif.proofs.gather.push_own_cause.Goals as goal

pub returns-clause-added : goal.returns-clause-added
returns-clause-added g c =
    let cause = tree_of g.D.Diagnostic.meaning g.S.SourceCode.source c.args.cause.now in
    on_ok_weaker c.push_cause.result (cause_over (over_of c.args.seen) _ _ cause _ _ _ _ c.own_or-over.ensures
    c.in_ok-own.ensures.seen c.in_ok-own.ensures.counted) c.push_cause.ensures.added
