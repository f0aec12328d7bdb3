use Rattle.std.proofs.Common.{[], ap, map, refl, subst, sym, take, ◌∙◌}
use Rattle.miette_sarif.specs.views.Artifacts.{artifacts_view}
use Rattle.miette_sarif.specs.views.Findings.{finding_of, sarif_findings_of}
use Rattle.miette_lsp.specs.steps.Putting.{AreLists}
use Rattle.miette_lsp.specs.views.DocumentLists.{document_lists_of}
use Rattle.miette_lsp.proofs.Grouping.{next_taken, some_lists}
use Rattle.miette_lsp.proofs.documents.lists_by_uri.Goals as goal

pub loop-finding-init : goal.loop-finding-init
loop-finding-init c =
    subst (AreLists c.args.tool.now (artifacts_view c.args.artifacts.now).untitled []) (sym c.new-grouped.ensures)
    (record { uris = refl; lists = refl })

pub put_finding-requires : goal.put_finding-requires
put_finding-requires c =
    some_lists c.args.tool.now (artifacts_view c.args.artifacts.now).untitled
    (sarif_findings_of (take c.loop-finding.finding-index c.args.findings.now))
    (document_lists_of c.loop-finding.grouped)
    c.loop-finding.invariant

pub loop-finding-preserved : goal.loop-finding-preserved
loop-finding-preserved c =
    let l = c.loop-finding in
    let untitled = (artifacts_view c.args.artifacts.now).untitled in
    subst (λ fs. AreLists c.args.tool.now untitled fs (document_lists_of c.put_finding.new.self))
    (next_taken finding_of c.args.findings.now l.finding-index c.finding-item.result c.loop-finding-test.true
    c.finding-item.is)
    (c.in_ok-put_finding.ensures (sarif_findings_of (take l.finding-index c.args.findings.now)) l.invariant)
