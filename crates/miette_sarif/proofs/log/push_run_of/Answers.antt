use Rattle.std.proofs.Common.{ap, ◌∙◌}
use Rattle.std.proofs.lemmas.Result.{on_ok_weaker}
use Rattle.miette_json.specs.rules.Writing.{with_value}
use Rattle.miette_sarif.specs.rules.Log.{run_with}
use Rattle.miette_sarif.specs.views.Findings.{sarif_findings_of}
use Rattle.miette_sarif.specs.views.Rules.{rules_view}
use Rattle.miette_sarif.specs.views.Tool.{tool_view}
use Rattle.miette_sarif.proofs.log.push_run_of.Goals as goal

pub returns : goal.returns
returns c =
    let old = c.args.json.now in
    on_ok_weaker c.push_run_with.result (λ put. put ∙ ap (λ a. with_value (run_with (tool_view c.args.tool.now)
    (rules_view c.args.rules.now) a (sarif_findings_of c.args.findings.now)) old) c.in_ok-artifacts.ensures)
    c.push_run_with.ensures
