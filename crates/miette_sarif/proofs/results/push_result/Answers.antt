use Rattle.std.proofs.lemmas.Result.{on_ok_weaker}
use Rattle.miette_sarif.proofs.Pieces.{result_put}
use Rattle.miette_sarif.specs.views.Artifacts.{artifacts_view}
use Rattle.miette_sarif.specs.views.Findings.{finding_of}
use Rattle.miette_sarif.specs.views.Rules.{rules_view}
use Rattle.miette_sarif.proofs.results.push_result.Goals as goal

pub returns : goal.returns
returns c =
    on_ok_weaker c.end_object.result (result_put (rules_view c.args.rules.now) (artifacts_view c.args.artifacts.now)
    (finding_of c.args.finding.now) _ _ _ _ _ _ _ c.in_ok-begin_object.ensures c.in_ok-push_result_start.ensures
    c.in_ok-key.ensures c.in_ok-push_result_message.ensures c.in_ok-push_tail.ensures) c.end_object.ensures
