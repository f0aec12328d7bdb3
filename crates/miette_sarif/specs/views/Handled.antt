-- The tool of a handler, as the rules represent it.
use Rattle.std.specs.Prelude.{string_bytes}
use Rattle.std.specs.Option.{option_map}
use Rattle.miette_sarif.specs.declared.handler.SarifReportHandler.{SarifReportHandler}
use Rattle.miette_sarif.specs.rules.Log.{ToolName}

abbrev pub tool_in : SarifReportHandler → ToolName
tool_in it = record {
  name = string_bytes it.tool;
  version = option_map string_bytes it.version;
  information = option_map string_bytes it.information_uri;
}
