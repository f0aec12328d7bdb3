use Rattle.miette_style.specs.rules.Themes.{no_styles, unicode_characters}
use Rattle.miette_style.proofs.MadeThemes.{theme_of_parts}
use Rattle.miette_style.proofs.theme.GraphicalTheme.unicode_nocolor.Goals as goal

pub returns : goal.returns
returns c = theme_of_parts c.new.result c.in_ok-unicode.field-0 c.in_ok-none.field-0 unicode_characters no_styles
    c.new.ensures c.in_ok-unicode.ensures c.in_ok-none.ensures
