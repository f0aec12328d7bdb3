use Rattle.std.proofs.Common.{codes}
use Rattle.std.proofs.lemmas.Result.{on_ok_weaker}
use Rattle.miette_json.proofs.WrittenSteps.{seven_steps}
use Rattle.miette_json.specs.rules.Json.{string}
use Rattle.miette_json.specs.rules.Writing.{closed, opened, with_key, with_value, with_written}
use Rattle.miette_lsp.proofs.documents.push_document.Goals as goal

pub returns : goal.returns
returns c =
    on_ok_weaker c.end_object.result (seven_steps (opened 123)
    (λ p. with_value (string c.args.uri.now) (with_key (codes "uri") p)) (with_key (codes "diagnostics")) (opened 91)
    (with_written c.args.diagnostics.now) (closed 93) (closed 125) _ _ _ _ _ _ _ _ c.in_ok-begin_object.ensures
    c.in_ok-string_member.ensures c.in_ok-key.ensures c.in_ok-begin_list.ensures c.in_ok-items.ensures
    c.in_ok-end_list.ensures) c.end_object.ensures
