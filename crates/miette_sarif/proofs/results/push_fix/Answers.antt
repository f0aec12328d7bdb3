use Rattle.std.proofs.Common.{codes}
use Rattle.std.proofs.lemmas.Result.{on_ok_weaker}
use Rattle.miette_json.proofs.WrittenSteps.{eight_steps}
use Rattle.miette_json.specs.rules.Writing.{closed, opened, with_key, with_value}
use Rattle.miette_sarif.specs.rules.Messages.{doubled}
use Rattle.miette_sarif.specs.rules.Objects.{message_of}
use Rattle.miette_sarif.specs.rules.Results.{change}
use Rattle.miette_sarif.specs.views.Artifacts.{artifacts_view}
use Rattle.miette_sarif.specs.views.Findings.{applicable_fix_of}
use Rattle.miette_sarif.proofs.results.push_fix.Goals as goal

pub returns : goal.returns
returns c =
    let a = artifacts_view c.args.artifacts.now in
    let fix = applicable_fix_of c.args.fix.now in
    on_ok_weaker c.end_object.result (eight_steps (opened 123) (with_key (codes "description"))
    (with_value (message_of (doubled fix.message))) (with_key (codes "artifactChanges")) (opened 91)
    (with_value (change a fix)) (closed 93) (closed 125) _ _ _ _ _ _ _ _ _ c.in_ok-begin_object.ensures
    c.in_ok-key.ensures c.in_ok-push_doubled_message.ensures c.in_ok-key-2.ensures c.in_ok-begin_list.ensures
    c.in_ok-push_change.ensures c.in_ok-end_list.ensures) c.end_object.ensures
