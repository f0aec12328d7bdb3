use Rattle.miette_lsp.specs.views.Handled.{tool_in}
use Rattle.miette_lsp.proofs.Spelling.{text_read}
use Rattle.miette_lsp.proofs.handler.LspReportHandler.render_reports.Goals as goal

pub returns-in-Ok-push_str-clause-value : goal.returns-in-Ok-push_str-clause-value
returns-in-Ok-push_str-clause-value g c =
    text_read (tool_in c.args.self.now) _ _ _ _ _ c.in-Ok.ensures c.in-Ok-push_str.ensures.bytes c.as_str.ensures.value
