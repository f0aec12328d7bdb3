use Rattle.std.proofs.lemmas.Result.{on_ok_weaker}
use Rattle.miette_lsp.proofs.Putting.{written_to}
use Rattle.miette_lsp.specs.rules.Diagnostics.{diagnostic}
use Rattle.miette_sarif.specs.views.Artifacts.{artifacts_view}
use Rattle.miette_sarif.specs.views.Findings.{finding_of}
use Rattle.miette_lsp.proofs.documents.push_to.Goals as goal

pub returns : goal.returns
returns c =
    on_ok_weaker c.push_diagnostic.result (λ e. written_to c.args.lists.now.items c.args.at c.index_mut.result.now
    c.push_diagnostic.new.json
    (diagnostic c.args.tool.now (artifacts_view c.args.artifacts.now).untitled (finding_of c.args.finding.now))
    c.requires c.index_mut.ensures.value e) c.push_diagnostic.ensures
