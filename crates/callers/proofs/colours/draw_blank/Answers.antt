use Rattle.std.proofs.Common.{ap}
use Rattle.miette_style.specs.rules.Themes.{no_styles}
use Rattle.callers.proofs.ColourSteps.{asked_plainly, stateless_text, themed-settings}
use Rattle.callers.proofs.colours.draw_blank.Goals as goal

pub returns-clause-asked : goal.returns-clause-asked
returns-clause-asked g c =
    asked_plainly _ _ _ _ _ _ _
    (themed-settings c.in_ok-theme.theme no_styles _ _ _ c.in_ok-theme.ensures
    c.themed.ensures c.with_syntax_highlighting-handler.ensures)
    (ap (λ u. u.highlighter) c.with_syntax_highlighting-handler.ensures)
    c.requires c.new-text.ensures.bytes c.in_ok-render_report.ensures.calls

pub returns-clause-text : goal.returns-clause-text
returns-clause-text g c =
    stateless_text _ _ _ _ _ _
    (themed-settings c.in_ok-theme.theme no_styles _ _ _ c.in_ok-theme.ensures
    c.themed.ensures c.with_syntax_highlighting-handler.ensures)
    (ap (λ u. u.highlighter) c.with_syntax_highlighting-handler.ensures)
    c.requires c.new-text.ensures.bytes c.in_ok-render_report.ensures.stateless
