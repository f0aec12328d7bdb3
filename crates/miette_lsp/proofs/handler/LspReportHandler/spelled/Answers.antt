use Rattle.std.proofs.Common.{ap, refl, ◌∙◌}
use Rattle.std.proofs.lemmas.Str.{IsUtf8-string_bytes}
use Rattle.miette_json.proofs.WrittenParts.{whole_written}
use Rattle.miette_json.specs.rules.Writing.{with_value}
use Rattle.miette_lsp.proofs.Spelling.{is_lsp}
use Rattle.miette_lsp.specs.rules.Documents.{documents}
use Rattle.miette_lsp.specs.views.Handled.{tool_in}
use Rattle.miette_sarif.specs.views.Findings.{sarif_findings_of}
use Rattle.miette_lsp.proofs.handler.LspReportHandler.spelled.Goals as goal

pub returns : goal.returns
returns c =
    let tool = tool_in c.args.self.now in
    let found = sarif_findings_of c.args.findings.items in
    let value = documents tool found in
    let written = c.in_ok-push_documents.ensures
    ∙ ap (λ fs. with_value (documents c.as_str.result.now (sarif_findings_of fs)) c.new-json.result)
    c.deref.ensures.value
    ∙ ap (λ name. with_value (documents name found) c.new-json.result) c.as_str.ensures.value
    ∙ ap (with_value value) c.new-json.ensures in
    λ ts at. is_lsp c.json_spelling_denotes_its_value.ensures.tokens c.json_text_denotes_one_value.ensures tool ts found
    at value refl _ (IsUtf8-string_bytes c.into_text.result)
    (c.into_text.ensures ∙ whole_written value c.push_documents.new.json written)
