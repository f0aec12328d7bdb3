use Rattle.std.proofs.Common.{ap, ◌∙◌}
use Rattle.std.proofs.lemmas.Result.{on_ok_weaker}
use Rattle.miette_json.specs.rules.Writing.{with_value}
use Rattle.miette_sarif.proofs.Pieces.{run_is}
use Rattle.miette_sarif.specs.views.Findings.{sarif_findings_of}
use Rattle.miette_sarif.specs.views.Rules.{rules_view}
use Rattle.miette_sarif.specs.views.Tool.{tool_view}
use Rattle.miette_sarif.proofs.log.push_run.Goals as goal

pub returns : goal.returns
returns c =
    let old = c.args.json.now in
    on_ok_weaker c.push_run_of.result (λ put. put ∙ ap (λ v. with_value v old) (run_is (tool_view c.args.tool.now)
    (rules_view c.in_ok-rules.rules) (sarif_findings_of c.args.findings.now) c.in_ok-rules.ensures))
    c.push_run_of.ensures
