use Rattle.std.proofs.Common.{ap}
use Rattle.std.proofs.lemmas.Result.{IfOk-weaker}
use Rattle.std.proofs.lemmas.Str.{IsUtf8-string_bytes}
use Rattle.miette_sarif.specs.rules.Log.{log}
use Rattle.miette_sarif.specs.views.Findings.{sarif_findings_of}
use Rattle.miette_sarif.specs.views.Tool.{tool_view}
use Rattle.miette_sarif.proofs.Spelling.{is_log}
use Rattle.miette_sarif.proofs.handler.spelled_log.Goals as goal

pub returns : goal.returns
returns c =
    let tool = tool_view c.args.tool.now in
    IfOk-weaker c.log_text.result _ _ (λ text spelled ts found.
    is_log c.json_spelling_denotes_its_value.ensures.tokens c.json_text_denotes_one_value.ensures tool ts _ found _
    (ap (λ fs. log tool (sarif_findings_of fs)) c.deref.ensures.value) _ (IsUtf8-string_bytes text) spelled)
    c.log_text.ensures
