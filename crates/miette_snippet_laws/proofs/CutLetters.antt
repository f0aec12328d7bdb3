-- Rows of the 26 letters: definitions compute.
use Rattle.std.proofs.Common.{refl}
use Rattle.bstr.specs.Utf8.{pieces_from}
use Rattle.miette_snippet_rules.specs.rules.SnippetSettings.{SnippetSettings}
use Rattle.miette_snippet_laws.specs.laws.CutLetters.{AreEndsShown, AreFirstShown}

pub first_shown : (s : SnippetSettings) → AreFirstShown s
unfolding pieces_from
first_shown s = record { unicode = refl; ascii = refl; limit = refl }

pub ends_shown : (s : SnippetSettings) → AreEndsShown s
unfolding pieces_from
ends_shown s = record { one = refl; ascii = refl; ends = refl; wide = refl; bare = refl; begin = refl; end = refl }
