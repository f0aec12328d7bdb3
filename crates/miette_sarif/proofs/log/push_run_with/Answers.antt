use Rattle.std.proofs.lemmas.Result.{on_ok_weaker}
use Rattle.miette_sarif.proofs.Pieces.{run_put}
use Rattle.miette_sarif.specs.views.Artifacts.{artifacts_view}
use Rattle.miette_sarif.specs.views.Findings.{sarif_findings_of}
use Rattle.miette_sarif.specs.views.Rules.{rules_view}
use Rattle.miette_sarif.specs.views.Tool.{tool_view}
use Rattle.miette_sarif.proofs.log.push_run_with.Goals as goal

pub returns : goal.returns
returns c =
    on_ok_weaker c.end_object.result (run_put (tool_view c.args.tool.now) (rules_view c.args.rules.now)
    (artifacts_view c.args.artifacts.now) (sarif_findings_of c.args.findings.now) _ _ _ _ _ _ _ _ _
    c.in_ok-begin_object.ensures c.in_ok-key.ensures c.in_ok-push_tool.ensures c.in_ok-push_units.ensures
    c.in_ok-push_all.ensures c.in_ok-key-2.ensures c.in_ok-push_results.ensures) c.end_object.ensures
