-- A space and the digits are one column wide.
use Rattle.std.proofs.Common.{◌≡◌, ℕ, ◌<◌, ◌≤◌}
use Rattle.std.proofs.Common.{refl, arith}
use Rattle.std.proofs.lemmas.Bool.Decides.{nat_tests}
use Rattle.unicode_width.specs.Width.{char_width}
use Rattle.miette_style.specs.rules.Themes.{Characters}
use Rattle.miette_columns.specs.rules.Widths.{width_of}
use Rattle.miette_snippet_rules.specs.rules.LabelRows.{IsNarrow}
use Rattle.miette_graphical_rules.specs.laws.CharacterSets.{AreNarrow}

digit_narrow : (d : ℕ) → 48 ≤ d → d < 58 → width_of d ≡ 1
unfolding char_width
digit_narrow d low high = grind (arith, nat_tests)

space_narrow : width_of 32 ≡ 1
unfolding char_width
space_narrow = refl

-- with a space and the digits, which always are
pub is_narrow : (c : Characters) → AreNarrow width_of c → IsNarrow width_of c
is_narrow c h = record { drawings = h; space = space_narrow; digits = digit_narrow }
