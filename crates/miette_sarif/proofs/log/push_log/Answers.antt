use Rattle.std.proofs.Common.{codes}
use Rattle.std.proofs.lemmas.Result.{on_ok_weaker}
use Rattle.miette_json.proofs.WrittenSteps.{eight_steps}
use Rattle.miette_json.specs.rules.Json.{string}
use Rattle.miette_json.specs.rules.Writing.{closed, opened, with_key, with_value}
use Rattle.miette_sarif.specs.rules.Log.{run, schema}
use Rattle.miette_sarif.specs.views.Findings.{sarif_findings_of}
use Rattle.miette_sarif.specs.views.Tool.{tool_view}
use Rattle.miette_sarif.proofs.log.push_log.Goals as goal

pub returns : goal.returns
returns c =
    on_ok_weaker c.end_object.result (eight_steps (opened 123)
    (λ p. with_value (string schema) (with_key (codes "$schema") p))
    (λ p. with_value (string (codes "2.1.0")) (with_key (codes "version") p)) (with_key (codes "runs")) (opened 91)
    (with_value (run (tool_view c.args.tool.now) (sarif_findings_of c.args.findings.now))) (closed 93) (closed 125)
    _ _ _ _ _ _ _ _ _ c.in_ok-begin_object.ensures c.in_ok-string_member.ensures c.in_ok-string_member-2.ensures
    c.in_ok-key.ensures c.in_ok-begin_list.ensures c.in_ok-push_run.ensures c.in_ok-end_list.ensures)
    c.end_object.ensures
