-- The characters of the shipped themes, and characters that are one column wide.
use Rattle.std.specs.Prelude.{◌≡◌, ◌⊎◌}
use Rattle.miette_style.specs.rules.Themes.{Characters, ascii_characters, emoji_characters, unicode_characters}
pub use Rattle.miette_snippet_rules.specs.rules.LabelRows.{AreNarrow}

-- the characters of one of the shipped tables
abbrev pub AreShipped : Characters → Type 0
AreShipped c = (c ≡ unicode_characters) ⊎ ((c ≡ emoji_characters) ⊎ (c ≡ ascii_characters))
