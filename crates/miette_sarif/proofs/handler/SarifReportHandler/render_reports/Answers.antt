use Rattle.miette_sarif.specs.views.Handled.{tool_in}
use Rattle.miette_sarif.specs.views.Tool.{tool_view}
use Rattle.miette_sarif.proofs.Spelling.{text_read}
use Rattle.miette_sarif.proofs.handler.SarifReportHandler.render_reports.Goals as goal

pub returns-in-Ok-push_str-clause-value : goal.returns-in-Ok-push_str-clause-value
returns-in-Ok-push_str-clause-value g c =
    text_read (tool_view c.told.result) (tool_in c.args.self.now) _ _ _ _ _ c.told.ensures c.in-Ok.ensures
    c.in-Ok-push_str.ensures.bytes c.as_str.ensures.value
