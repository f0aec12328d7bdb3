-- What the settings of the code represent.
use Rattle.miette_snippet_rules.specs.declared.options.SnippetSettings as made
use Rattle.miette_snippet_rules.specs.rules.SnippetSettings.{SnippetSettings}
use Rattle.miette_columns.specs.rules.Widths.{width_of}
use Rattle.miette_style.specs.rules.Themes.{theme_of}

abbrev pub settings_of : made.SnippetSettings → SnippetSettings
settings_of s = record { theme = theme_of s.theme.now; width = width_of; layout = s.layout.now }
