use Rattle.std.proofs.Common.{ap, arith, drop, ◌+◌}
use Rattle.std.proofs.lemmas.Result.{on_ok_weaker}
use Rattle.miette_json.proofs.WrittenSteps.{item_put, list_put}
use Rattle.miette_sarif.proofs.Gathers.{next_in, none_in}
use Rattle.miette_sarif.specs.rules.Objects.{items_of}
use Rattle.miette_sarif.specs.rules.Results.{result_of, results}
use Rattle.miette_sarif.specs.views.Artifacts.{artifacts_view}
use Rattle.miette_sarif.specs.views.Findings.{finding_of, sarif_findings_of}
use Rattle.miette_sarif.specs.views.Rules.{rules_view}
use Rattle.miette_sarif.proofs.results.push_results.Goals as goal

pub loop-finding-preserved : goal.loop-finding-preserved
loop-finding-preserved c =
    let l = c.loop-finding in
    let r = rules_view c.args.rules.now in
    let a = artifacts_view c.args.artifacts.now in
    let found = c.args.findings.now in
    item_put (items_of (results r a (sarif_findings_of (drop l.finding-index found))))
    (items_of (results r a (sarif_findings_of (drop (l.finding-index + 1) found))))
    (result_of r a (finding_of c.finding-item.result)) l.json c.push_result.new.json _
    (ap (λ fs. items_of (results r a fs)) (next_in finding_of found l.finding-index c.finding-item.result
    c.loop-finding-test.true c.finding-item.is)) c.in_ok-push_result.ensures l.invariant

pub returns : goal.returns
returns c =
    let l = c.loop-finding in
    let r = rules_view c.args.rules.now in
    let a = artifacts_view c.args.artifacts.now in
    let found = c.args.findings.now in
    on_ok_weaker c.end_list.result (list_put (items_of (results r a (sarif_findings_of (drop l.finding-index found))))
    (items_of (results r a (sarif_findings_of found))) c.args.json.now l.json _ (ap (λ fs. items_of (results r a fs))
    (none_in finding_of found l.finding-index (omega arith))) l.invariant) c.end_list.ensures
