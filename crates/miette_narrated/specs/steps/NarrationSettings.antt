-- The settings of the code, as the definitions represent them.
use Rattle.std.specs.Option.{option_copied}
use Rattle.miette_narrated.specs.declared.settings.NarrationSettings.{NarrationSettings as GivenSettings}
use Rattle.miette_narrated.specs.rules.Report.{NarrationSettings}

abbrev pub narration_settings_of : GivenSettings → NarrationSettings
narration_settings_of s = record {
  cause_chain = s.cause_chain;
  context_lines = s.context_lines;
  footer
      = option_copied s.footer;
}
