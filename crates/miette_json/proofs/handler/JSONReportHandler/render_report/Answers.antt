use Rattle.std.proofs.Common.{ap, ◌∙◌, ◌++◌, string_bytes}
use Rattle.std.proofs.lemmas.Result.{on_ok_weaker}
use Rattle.miette_tree.proofs.Written.{only_memory}
use Rattle.miette_json.specs.rules.Json.{json_text}
use Rattle.miette_json.proofs.handler.JSONReportHandler.render_report.Goals as goal

pub returns-clause-text : goal.returns-clause-text
returns-clause-text g c = c.append_report_text.ensures.text

pub returns-clause-value : goal.returns-clause-value
returns-clause-value g c =
    on_ok_weaker c.append_report_text.result (λ put reads. put.appended ∙ ap (λ x. string_bytes c.args.out.now ++ x)
    (put.is_given.spelled ∙ ap json_text (put.is_given.always reads))) c.append_report_text.ensures.text

pub returns-clause-memory : goal.returns-clause-memory
returns-clause-memory g c = only_memory c.append_report_text.result c.append_report_text.ensures.refused

pub returns-clause-err : goal.returns-clause-err
returns-clause-err g c = c.append_report_text.ensures.err
