use Rattle.std.proofs.Common.{inl, refl}
use Rattle.miette_style.specs.rules.Themes.{ansi_styles, no_styles, unicode_characters}
use Rattle.callers.proofs.ColourSteps.{alike_text, bare_text, may_be_printed, themed-settings}
use Rattle.callers.proofs.colours.highlighted_both.Goals as goal

pub returns-clause-alike : goal.returns-clause-alike
returns-clause-alike g c =
    alike_text _ _ _ _ _ _ _ _
    (themed-settings c.in_ok-theme.theme ansi_styles _ _ _ c.in_ok-theme.ensures c.themed.ensures
    c.with_syntax_highlighting-one.ensures)
    (themed-settings c.in_ok-theme-2.theme no_styles _ _ _ c.in_ok-theme-2.ensures
    c.themed-2.ensures c.with_syntax_highlighting-other.ensures)
    c.requires c.new-coloured.ensures.bytes c.new-plain.ensures.bytes
    (c.themes_law.ensures.settings (record { characters = unicode_characters; styles = ansi_styles }) (inl refl))
    c.in_ok-render_report.ensures.themes c.in_ok-render_report-2.ensures.ok

pub returns-clause-bare : goal.returns-clause-bare
returns-clause-bare g c =
    bare_text _ _ _ _
    (themed-settings c.in_ok-theme.theme ansi_styles _ _ _ c.in_ok-theme.ensures c.themed.ensures
    c.with_syntax_highlighting-one.ensures)
    c.requires c.new-coloured.ensures.bytes
    (c.themes_law.ensures.settings (record { characters = unicode_characters; styles = ansi_styles }) (inl refl))
    c.in_ok-render_report.ensures.colourless

pub returns-clause-printed : goal.returns-clause-printed
returns-clause-printed g c =
    may_be_printed _ _ _ _ _
    (themed-settings c.in_ok-theme.theme ansi_styles _ _ _ c.in_ok-theme.ensures c.themed.ensures
    c.with_syntax_highlighting-one.ensures)
    c.requires c.new-coloured.ensures.bytes
    (c.themes_law.ensures.settings (record { characters = unicode_characters; styles = ansi_styles }) (inl refl))
    c.in_ok-render_report.ensures.colours
