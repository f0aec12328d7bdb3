-- The options of a user, each with its last value. An option without a value is left to the terminal. Layout, wrapping,
-- causes and related reports have the handler's defaults if they weren't set. The type parameter is the highlighter.
use Rattle.std.specs.Prelude.{ℕ, Bool, true, false, List, Option, None}
use Rattle.miette_brief.specs.declared.form.BriefForm.{BriefForm}
use Rattle.miette_brief.specs.declared.form.BriefForm.TheVariants.{Gcc}
use Rattle.miette_snippet_rules.specs.rules.Defaults.{default_layout}
use Rattle.miette_snippet_rules.specs.declared.options.LayoutOptions.{LayoutOptions}
use Rattle.miette_style.specs.rules.Themes.{Theme}
use Rattle.miette_graphical_rules.specs.rules.GraphicalSettings.{default_wrapping}
use Rattle.miette_graphical_rules.specs.declared.settings.Wrapping.{Wrapping}
use Rattle.miette.specs.declared.options.builder.RgbColors.{RgbColors}
use Rattle.miette.specs.declared.options.builder.RgbColors.TheVariants.{Never}

pub record Options (H : Type 0) : Type 0 where
  pub brief : Bool
  pub brief_form : BriefForm
  pub narrated : Option Bool
  pub graphical : Option Bool
  pub theme : Option Theme
  pub unicode : Option Bool
  pub color : Option Bool
  pub rgb : RgbColors
  pub layout : LayoutOptions
  pub fit_lines : Bool
  pub wrapping : Wrapping
  pub width : Option ℕ
  pub links : Option Bool
  pub cause_chain : Bool
  pub related_as_nested : Bool
  pub footer : Option (List ℕ)
  pub highlighter : Option H

abbrev pub no_options : {H : Type 0} → Options H
no_options = record {
  brief = false;
  brief_form = Gcc;
  narrated = None;
  graphical = None;
  theme = None;
  unicode = None;
  color = None;
  rgb = Never;
  layout = default_layout;
  fit_lines = false;
  wrapping = default_wrapping;
  width = None;
  links = None;
  cause_chain = true;
  related_as_nested = false;
  footer = None;
  highlighter = None;
}
