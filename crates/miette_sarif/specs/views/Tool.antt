-- The tool of the code, as the rules represent it.
use Rattle.std.specs.Option.{option_copied}
use Rattle.miette_sarif.specs.declared.log.Tool.{Tool}
use Rattle.miette_sarif.specs.rules.Log.{ToolName}

abbrev pub tool_view : Tool → ToolName
tool_view it = record {
  name = it.name.now;
  version = option_copied it.version;
  information = option_copied it.information;
}
