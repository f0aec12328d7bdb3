use Rattle.std.proofs.Common.{string_bytes}
use Rattle.miette_sarif.specs.views.Handled.{tool_in}
use Rattle.miette_lsp.specs.rules.LogWords.{tool_called}
use Rattle.miette_lsp.proofs.LogSteps.{logged}
use Rattle.miette_lsp.proofs.logs.log_of.Goals as goal

pub returns-in-Ok-clause-ok : goal.returns-in-Ok-clause-ok
returns-in-Ok-clause-ok g c =
    logged (tool_in c.in_ok-handler.handler) (tool_called c.args.tool.now) _ (string_bytes c.new-text.result) _
    c.in_ok-handler.ensures c.new-text.ensures.bytes c.in-Ok.ensures.value c.requires.reads
