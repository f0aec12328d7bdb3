use Rattle.std.proofs.Common.{string_bytes}
use Rattle.miette_lsp.specs.views.Handled.{tool_in}
use Rattle.miette_lsp.proofs.LogSteps.{listed}
use Rattle.miette_lsp.proofs.logs.list_of.Goals as goal

pub returns-in-Ok-clause-ok : goal.returns-in-Ok-clause-ok
returns-in-Ok-clause-ok g c =
    listed (tool_in c.in_ok-handler.handler) c.args.tool.now _ (string_bytes c.new-text.result) _
    c.in_ok-handler.ensures c.new-text.ensures.bytes c.in-Ok.ensures.value c.requires.reads
