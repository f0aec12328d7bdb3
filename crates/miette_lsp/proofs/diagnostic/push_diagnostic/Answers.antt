use Rattle.std.proofs.Common.{ap, sym, ◌∙◌}
use Rattle.std.proofs.lemmas.Result.{on_ok_weaker}
use Rattle.miette_json.proofs.WrittenSteps.{five_steps}
use Rattle.miette_json.specs.rules.Writing.{closed, opened}
use Rattle.miette_lsp.specs.rules.Diagnostics.{diagnostic_head_pairs, diagnostic_tail_pairs, message_pairs}
use Rattle.miette_sarif.proofs.Growing.{pairs_three}
use Rattle.miette_sarif.specs.steps.Members.{with_pairs}
use Rattle.miette_sarif.specs.views.Artifacts.{artifacts_view}
use Rattle.miette_sarif.specs.views.Findings.{finding_of}
use Rattle.miette_lsp.proofs.diagnostic.push_diagnostic.Goals as goal

pub returns : goal.returns
returns c =
    let f = finding_of c.args.finding.now in
    let head = diagnostic_head_pairs f in
    let told = message_pairs c.args.tool.now f in
    let tail = diagnostic_tail_pairs (artifacts_view c.args.artifacts.now).untitled f in
    on_ok_weaker c.end_object.result (λ put. five_steps (opened 123) (with_pairs head) (with_pairs told)
    (with_pairs tail) (closed 125) c.args.json.now _ _ _ _ _ c.in_ok-begin_object.ensures c.in_ok-push_head.ensures
    c.in_ok-push_source_and_message.ensures c.in_ok-push_tail.ensures put
    ∙ ap (closed 125) (sym (pairs_three head told tail (opened 123 c.args.json.now)))) c.end_object.ensures
