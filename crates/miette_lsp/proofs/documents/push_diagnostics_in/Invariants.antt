use Rattle.std.proofs.Common.{drop, map, ◌≡◌}
use Rattle.miette_json.specs.rules.Writing.{opened, with_items}
use Rattle.miette_lsp.specs.rules.Diagnostics.{diagnostic}
use Rattle.miette_sarif.specs.rules.Objects.{items_of}
use Rattle.miette_sarif.specs.views.Artifacts.{artifacts_view}
use Rattle.miette_sarif.specs.views.Findings.{sarif_findings_of}
use Rattle.miette_lsp.proofs.documents.push_diagnostics_in.Given as goal

abbrev pub invariant-loop-finding : goal.invariant-loop-finding
invariant-loop-finding l = with_items (items_of (map (diagnostic l.tool (artifacts_view l.artifacts).untitled)
    (sarif_findings_of (drop l.finding-index l.findings)))) l.json
    ≡ with_items (items_of (map (diagnostic l.tool (artifacts_view l.artifacts).untitled)
    (sarif_findings_of l.findings))) (opened 91 l.fn.json)
