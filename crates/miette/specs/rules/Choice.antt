-- The handler that options and a terminal choose, and its settings. If several options decide the same thing, the first
-- one that is set counts.
use Rattle.std.specs.Prelude.{◌≡◌, ℕ, Bool, true, false, not, ◌&&◌, List, Option, Some, None, is_some, if◌then◌else◌}
use Rattle.std.specs.Prelude.{unwrap_or, option_map, chars, codes, string_bytes}
use Rattle.std.specs.Str.{bytes_eq}
use Rattle.miette_style.specs.rules.Themes.{Styles, Theme, ansi_styles, ascii_characters, no_styles}
use Rattle.miette_style.specs.rules.Themes.{rgb_styles, unicode_characters}
use Rattle.miette_style.specs.declared.theme.Terminal.{Terminal}
use Rattle.miette_brief.specs.rules.Report.{BriefSettings}
use Rattle.miette_narrated.specs.rules.Report as narrated
use Rattle.miette_graphical_rules.specs.views.HandlerState.{HandlerState}
use Rattle.miette_graphical_rules.specs.rules.GraphicalSettings.{GraphicalSettings, default_settings, links_shown}
use Rattle.miette_graphical_rules.specs.declared.settings.UrlMode.{UrlMode}
use Rattle.miette.specs.rules.Options.{Options}
use Rattle.miette.specs.declared.options.builder.RgbColors.{RgbColors}
use Rattle.miette.specs.declared.options.builder.RgbColors.TheVariants.{Always, Preferred, Never}
use Rattle.miette.specs.declared.options.handler.MietteHandler.{MietteHandler}
use Rattle.miette.specs.declared.options.handler.MietteHandler.TheVariants.{Graphical, Narrated, Brief}

-- the user's `NO_GRAPHICS`: `0` asks for graphical reports, anything else for narrated ones
abbrev pub asks_for_graphics : List ℕ → Bool
asks_for_graphics text = bytes_eq text (codes "0")

-- whether reports are graphical; brief ones aren't
abbrev pub is_graphical : {H : Type 0} → Options H → Terminal → Bool
is_graphical o t =
    not o.brief && unwrap_or (option_map not o.narrated) (unwrap_or o.graphical
    (unwrap_or (option_map asks_for_graphics (option_map string_bytes t.no_graphics)) true))

abbrev pub chosen_width : {H : Type 0} → Options H → Terminal → ℕ
chosen_width o t = unwrap_or o.width (unwrap_or t.width 80)

-- the width at which source lines are cut: the one that was set, else the output width if lines are to fit
abbrev pub chosen_line_columns : {H : Type 0} → Options H → Terminal → Option ℕ
chosen_line_columns o t =
    if o.fit_lines then Some (unwrap_or o.layout.line_columns (chosen_width o t)) else o.layout.line_columns

abbrev pub chosen_urls : {H : Type 0} → Options H → Terminal → UrlMode
chosen_urls o t = links_shown (unwrap_or o.links t.hyperlinks)

abbrev pub takes_colours : {H : Type 0} → Options H → Terminal → Bool
takes_colours o t = unwrap_or o.color (is_some t.color)

-- the styles; the flag says whether the terminal has 16 million colors
abbrev pub coloured_styles : RgbColors → Bool → Styles
coloured_styles Always many = rgb_styles
coloured_styles Preferred many = if many then rgb_styles else ansi_styles
coloured_styles Never many = ansi_styles

-- the theme if none is set
abbrev pub fitting_theme : {H : Type 0} → Options H → Terminal → Theme
fitting_theme o t = record {
  characters = if unwrap_or o.unicode t.unicode then unicode_characters else ascii_characters;
  styles = if takes_colours o t then coloured_styles o.rgb (unwrap_or t.color false) else no_styles;
}

abbrev pub chosen_theme : {H : Type 0} → Options H → Terminal → Theme
chosen_theme o t = unwrap_or o.theme (fitting_theme o t)

abbrev pub chosen_highlighter : {H : Type 0} → Options H → Terminal → Option H
chosen_highlighter o t = if takes_colours o t then o.highlighter else None

-- settings of graphical reports
abbrev pub picture_settings : {H : Type 0} → Options H → Terminal → GraphicalSettings
picture_settings o t =
    record (default_settings (chosen_theme o t)) {
      layout = record o.layout { line_columns = chosen_line_columns o t };
      wrapping = o.wrapping;
      width = chosen_width o t;
      urls = chosen_urls o t;
      cause_chain = o.cause_chain;
      related_as_nested = o.related_as_nested;
      footer = option_map chars o.footer;
    }

-- settings of narrated reports
abbrev pub narration_settings : {H : Type 0} → Options H → narrated.NarrationSettings
narration_settings o = record { cause_chain = o.cause_chain; context_lines = o.layout.context_lines; footer = o.footer }

-- settings of brief reports
abbrev pub brief_settings : {H : Type 0} → Options H → BriefSettings
brief_settings o = record { cause_chain = o.cause_chain; form = o.brief_form }

-- the graphical handler that options and a terminal choose
pub record IsDrawing {H : Type 0} (o : Options H) (t : Terminal) (it : HandlerState H) : Type 0 where
  pub settings : it.settings ≡ picture_settings o t
  pub highlighter : it.highlighter ≡ chosen_highlighter o t

-- the handler that options and a terminal choose
abbrev pub IsChosen : {H : Type 0} → Options H → Terminal → MietteHandler H → Type 0
IsChosen o t (Graphical it) = (is_graphical o t ≡ true) × IsDrawing o t it
IsChosen o t (Narrated it) = (is_graphical o t ≡ false) × (o.brief ≡ false) × (it ≡ narration_settings o)
IsChosen o t (Brief it) = (o.brief ≡ true) × (it ≡ brief_settings o)
