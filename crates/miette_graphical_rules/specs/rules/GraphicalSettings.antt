-- The settings of graphical reports.
use Rattle.std.specs.Prelude.{ℕ, Bool, List, Option, Some, None, true, false, chars, codes}
use Rattle.miette_protocol.specs.declared.protocol.Severity.{Severity}
use Rattle.miette_protocol.specs.declared.protocol.Severity.TheVariants.{Advice, Warning, Error}
use Rattle.miette_snippet_rules.specs.declared.options.LayoutOptions.{LayoutOptions}
use Rattle.miette_snippet_rules.specs.rules.Defaults.{default_layout}
use Rattle.miette_style.specs.rules.Themes.{Characters, Styles, Theme}
use Rattle.miette_style.specs.declared.style.Style.{Style}
use Rattle.miette_text.specs.declared.options.WordSeparator.TheVariants.{AsciiSpace}
use Rattle.miette_text.specs.declared.options.WordSplitter.TheVariants.{HyphenSplitter}
use Rattle.miette_graphical_rules.specs.declared.settings.UrlMode.{UrlMode}
use Rattle.miette_graphical_rules.specs.declared.settings.UrlMode.TheVariants.{Links, Text, Hidden}
use Rattle.miette_graphical_rules.specs.declared.settings.Wrapping.{Wrapping}

-- `width` is that of wrapped text in columns. URLs become links, text after the code, or nothing.
pub record GraphicalSettings : Type 0 where
  pub theme : Theme
  pub layout : LayoutOptions
  pub wrapping : Wrapping
  pub width : ℕ
  pub urls : UrlMode
  pub link_text : List ℕ
  pub cause_chain : Bool
  pub related_as_nested : Bool
  pub footer : Option (List ℕ)

-- a diagnostic without severity counts as an error
abbrev pub icon_in : Characters → Option Severity → List ℕ
icon_in c None = c.error
icon_in c (Some Error) = c.error
icon_in c (Some Warning) = c.warning
icon_in c (Some Advice) = c.advice

abbrev pub style_in : Styles → Option Severity → Style
style_in s None = s.error
style_in s (Some Error) = s.error
style_in s (Some Warning) = s.warning
style_in s (Some Advice) = s.advice

abbrev pub icon : GraphicalSettings → Option Severity → List ℕ
icon s = icon_in s.theme.characters

abbrev pub severity_style : GraphicalSettings → Option Severity → Style
severity_style s = style_in s.theme.styles

abbrev pub default_wrapping : Wrapping
default_wrapping = record {
  wrap_lines = true;
  break_words = true;
  word_separator = AsciiSpace;
  word_splitter = HyphenSplitter;
}

-- the default settings of a handler
abbrev pub default_settings : Theme → GraphicalSettings
default_settings theme = record {
  theme = theme;
  layout = default_layout;
  wrapping = default_wrapping;
  width = 200;
  urls = Links;
  link_text = chars (codes "(link)");
  cause_chain = true;
  related_as_nested = false;
  footer = None;
}

abbrev pub links_shown : Bool → UrlMode
links_shown true = Links
links_shown false = Text

-- URLs that were hidden become links
abbrev pub urls_shown : Bool → UrlMode → UrlMode
urls_shown false urls = Hidden
urls_shown true Links = Links
urls_shown true Text = Text
urls_shown true Hidden = Links
