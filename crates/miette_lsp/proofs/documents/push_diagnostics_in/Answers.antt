use Rattle.std.proofs.Common.{ap, arith, drop, map, ◌+◌}
use Rattle.std.proofs.lemmas.Result.{on_ok_weaker}
use Rattle.miette_json.proofs.WrittenSteps.{item_put, list_put}
use Rattle.miette_lsp.specs.rules.Diagnostics.{diagnostic}
use Rattle.miette_sarif.proofs.Gathers.{next_in, none_in}
use Rattle.miette_sarif.specs.rules.Objects.{items_of}
use Rattle.miette_sarif.specs.views.Artifacts.{artifacts_view}
use Rattle.miette_sarif.specs.views.Findings.{finding_of, sarif_findings_of}
use Rattle.miette_lsp.proofs.documents.push_diagnostics_in.Goals as goal

pub loop-finding-preserved : goal.loop-finding-preserved
loop-finding-preserved c =
    let l = c.loop-finding in
    let value = diagnostic c.args.tool.now (artifacts_view c.args.artifacts.now).untitled in
    let found = c.args.findings.now in
    item_put (items_of (map value (sarif_findings_of (drop l.finding-index found))))
    (items_of (map value (sarif_findings_of (drop (l.finding-index + 1) found))))
    (value (finding_of c.finding-item.result)) l.json c.push_diagnostic.new.json _
    (ap (λ fs. items_of (map value fs)) (next_in finding_of found l.finding-index c.finding-item.result
    c.loop-finding-test.true c.finding-item.is)) c.in_ok-push_diagnostic.ensures l.invariant

pub returns : goal.returns
returns c =
    let l = c.loop-finding in
    let value = diagnostic c.args.tool.now (artifacts_view c.args.artifacts.now).untitled in
    let found = c.args.findings.now in
    on_ok_weaker c.end_list.result (list_put (items_of (map value (sarif_findings_of (drop l.finding-index found))))
    (items_of (map value (sarif_findings_of found))) c.args.json.now l.json _ (ap (λ fs. items_of (map value fs))
    (none_in finding_of found l.finding-index (omega arith))) l.invariant) c.end_list.ensures
