use Rattle.std.proofs.Common.{subst, None}
use Rattle.std.proofs.lemmas.Str.{IsUtf8-string_bytes}
use Rattle.miette_tree.specs.views.Report.{tree_of}
use Rattle.miette_json.specs.steps.JsonParts.{AppendsJsonReport}
use Rattle.miette_json.proofs.JsonAnswers.{is_json}
use Rattle.miette_json.proofs.handler.json_of.Goals as goal

pub returns : goal.returns
returns g c =
    let value = tree_of g.D.Diagnostic.meaning g.S.SourceCode.source c.args.report.now in
    is_json c.json_spelling_denotes_its_value.ensures.tokens c.json_text_denotes_one_value.ensures value _ _
    (IsUtf8-string_bytes c.into_text.result)
    (subst (λ old. AppendsJsonReport None value old c.push_report.new.json) c.in_ok-json.ensures
    c.in_ok-push_report.ensures) c.into_text.ensures
