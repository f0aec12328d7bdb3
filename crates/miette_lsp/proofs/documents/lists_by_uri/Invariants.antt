use Rattle.std.proofs.Common.{take}
use Rattle.miette_sarif.specs.views.Artifacts.{artifacts_view}
use Rattle.miette_sarif.specs.views.Findings.{sarif_findings_of}
use Rattle.miette_lsp.specs.steps.Putting.{AreLists}
use Rattle.miette_lsp.specs.views.DocumentLists.{document_lists_of}
use Rattle.miette_lsp.proofs.documents.lists_by_uri.Given as goal

abbrev pub invariant-loop-finding : goal.invariant-loop-finding
invariant-loop-finding l = AreLists l.tool (artifacts_view l.artifacts).untitled
    (sarif_findings_of (take l.finding-index l.findings)) (document_lists_of l.grouped)
