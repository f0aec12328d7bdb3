use Rattle.miette_style.specs.rules.Themes.{ansi_styles, unicode_characters}
use Rattle.miette_style.proofs.MadeThemes.{theme_of_parts}
use Rattle.miette_style.proofs.theme.GraphicalTheme.unicode.Goals as goal

pub returns : goal.returns
returns c = theme_of_parts c.new.result c.in_ok-unicode.field-0 c.in_ok-ansi.field-0 unicode_characters ansi_styles
    c.new.ensures c.in_ok-unicode.ensures c.in_ok-ansi.ensures
