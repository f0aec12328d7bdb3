use Rattle.std.proofs.Common.{ap, map, ◌∙◌}
use Rattle.std.proofs.lemmas.Result.{on_ok_weaker}
use Rattle.miette_json.specs.rules.Writing.{with_value}
use Rattle.miette_lsp.specs.rules.Diagnostics.{diagnostic}
use Rattle.miette_sarif.specs.rules.Artifacts.{Artifacts}
use Rattle.miette_sarif.specs.rules.Objects.{array_of}
use Rattle.miette_sarif.specs.views.Findings.{sarif_findings_of}
use Rattle.miette_lsp.proofs.documents.push_diagnostics.Goals as goal

pub returns : goal.returns
returns c =
    on_ok_weaker c.push_diagnostics_in.result (λ put. put
    ∙ ap (λ (a : Artifacts). with_value (array_of (map (diagnostic c.args.tool.now a.untitled)
    (sarif_findings_of c.args.findings.now))) c.args.json.now) c.in_ok-artifacts.ensures) c.push_diagnostics_in.ensures
