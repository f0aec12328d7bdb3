-- A theme made of characters and styles.
use Rattle.std.proofs.Common.{◌≡◌, ◌∙◌, ap, ap₂}
use Rattle.miette_style.specs.rules.Themes.{Characters, Styles, characters_of, styles_of, theme_of}
use Rattle.miette_style.specs.declared.theme.GraphicalTheme.{GraphicalTheme}
use Rattle.miette_style.specs.declared.theme.ThemeCharacters.{ThemeCharacters}
use Rattle.miette_style.specs.declared.theme.ThemeStyles.{ThemeStyles}

pub theme_of_parts : (t : GraphicalTheme) (c : ThemeCharacters) (s : ThemeStyles) (x : Characters) (y : Styles) →
    t ≡ record { characters = c; styles = s } → characters_of c ≡ x → styles_of s ≡ y → theme_of t
    ≡ record { characters = x; styles = y }
theme_of_parts t c s x y is a b = ap theme_of is ∙ ap₂ (λ x y. record { characters = x; styles = y }) a b
