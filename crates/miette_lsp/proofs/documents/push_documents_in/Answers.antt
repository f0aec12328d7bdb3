use Rattle.std.proofs.Common.{ap, ◌∙◌}
use Rattle.std.proofs.lemmas.Result.{on_ok_weaker}
use Rattle.miette_json.specs.rules.Writing.{closed, opened}
use Rattle.miette_lsp.proofs.Grouping.{all_told}
use Rattle.miette_lsp.specs.steps.Putting.{with_documents}
use Rattle.miette_lsp.specs.views.DocumentLists.{document_lists_of}
use Rattle.miette_sarif.specs.views.Artifacts.{artifacts_view}
use Rattle.miette_sarif.specs.views.Findings.{sarif_findings_of, texts_of}
use Rattle.miette_lsp.proofs.documents.push_documents_in.Goals as goal

pub returns : goal.returns
returns c =
    let untitled = (artifacts_view c.args.artifacts.now).untitled in
    let found = sarif_findings_of c.args.findings.now in
    let it = document_lists_of c.in_ok-grouped.grouped in
    let start = opened 91 c.args.json.now in
    on_ok_weaker c.end_list.result (λ put. put ∙ ap (closed 93) (c.in_ok-push_each.ensures
    ∙ ap (λ us. with_documents (texts_of us) c.deref.result.now c.begin_list.new.self) c.as_slice.ensures.keys
    ∙ ap (λ ls. with_documents it.uris ls c.begin_list.new.self) c.deref.ensures.value
    ∙ ap (with_documents it.uris it.lists) c.in_ok-begin_list.ensures
    ∙ all_told c.args.tool.now untitled found it c.in_ok-grouped.ensures start)) c.end_list.ensures
