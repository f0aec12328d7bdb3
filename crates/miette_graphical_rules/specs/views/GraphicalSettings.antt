-- What the settings of the code represent.
use Rattle.std.specs.Prelude.{chars, codes, option_map, string_bytes}
use Rattle.std.specs.Option.{option_map_or}
use Rattle.miette_style.specs.rules.Themes.{theme_of}
use Rattle.miette_graphical_rules.specs.rules.GraphicalSettings as rules
use Rattle.miette_graphical_rules.specs.declared.settings.GraphicalSettings.{GraphicalSettings}

abbrev pub handler_settings : GraphicalSettings → rules.GraphicalSettings
handler_settings s = record {
  theme = theme_of s.theme;
  layout = s.layout;
  wrapping = s.wrapping;
  width = s.width;
  urls = s.urls;
  link_text = chars (option_map_or string_bytes s.link_display_text (codes "(link)"));
  cause_chain = s.cause_chain;
  related_as_nested = s.related_as_nested;
  footer = option_map (λ t. chars (string_bytes t)) s.footer;
}
