-- A text without the line feeds at an end, if only line feeds and colours are between them and that end.
use Rattle.std.specs.Prelude.{ℕ, Bool, true, ◌&&◌, if◌then◌else◌, List, [], ◌∷◌}
use Rattle.miette_runs.specs.rules.Sequences.{Token, Character, Sequence, tokens, spell, is_line_feed}
use Rattle.miette_runs.specs.rules.Colours.{is_colour}

abbrev pub cut_front : List Token → List Token
cut_front [] = []
cut_front (Character c ∷ ts) = if is_line_feed c then cut_front ts else Character c ∷ ts
cut_front (Sequence s ∷ ts) = if is_colour s then Sequence s ∷ cut_front ts else Sequence s ∷ ts

-- only line feeds and colours
abbrev pub only_feeds : List Token → Bool
only_feeds [] = true
only_feeds (Character c ∷ ts) = is_line_feed c && only_feeds ts
only_feeds (Sequence s ∷ ts) = is_colour s && only_feeds ts

abbrev pub cut_end : List Token → List Token
cut_end [] = []
cut_end (Character c ∷ ts) = if is_line_feed c && only_feeds ts then cut_end ts else Character c ∷ cut_end ts
cut_end (Sequence s ∷ ts) = Sequence s ∷ cut_end ts

abbrev pub trim_leading_feeds : List ℕ → List ℕ
trim_leading_feeds text = spell (cut_front (tokens text))

abbrev pub trim_trailing_feeds : List ℕ → List ℕ
trim_trailing_feeds text = spell (cut_end (tokens text))
