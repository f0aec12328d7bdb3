-- Tokens without the colours.
use Rattle.std.specs.Prelude.{if◌then◌else◌, List, [], ◌∷◌}
use Rattle.miette_runs.specs.rules.Sequences.{Token, Character, Sequence}
use Rattle.miette_runs.specs.rules.Colours.{is_colour}

abbrev pub erased : List Token → List Token
erased [] = []
erased (Character c ∷ ts) = Character c ∷ erased ts
erased (Sequence s ∷ ts) = if is_colour s then erased ts else Sequence s ∷ erased ts
