-- The name of the tool of a handler.
use Rattle.std.specs.Prelude.{ℕ, List, string_bytes}
use Rattle.miette_lsp.specs.declared.handler.LspReportHandler.{LspReportHandler}

abbrev pub tool_in : LspReportHandler → List ℕ
tool_in it = string_bytes it.tool
