use Rattle.std.proofs.Common.{ap, ◌∙◌}
use Rattle.std.proofs.lemmas.Result.{on_ok_weaker}
use Rattle.miette_json.specs.rules.Writing.{with_value}
use Rattle.miette_lsp.specs.rules.Documents.{documents_in}
use Rattle.miette_sarif.specs.rules.Artifacts.{Artifacts}
use Rattle.miette_sarif.specs.rules.Objects.{array_of}
use Rattle.miette_sarif.specs.views.Findings.{sarif_findings_of}
use Rattle.miette_lsp.proofs.documents.push_documents.Goals as goal

pub returns : goal.returns
returns c =
    on_ok_weaker c.push_documents_in.result (λ put. put
    ∙ ap (λ (a : Artifacts). with_value (array_of (documents_in c.args.tool.now a.untitled
    (sarif_findings_of c.args.findings.now))) c.args.json.now) c.in_ok-artifacts.ensures) c.push_documents_in.ensures
