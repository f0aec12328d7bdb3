-- What wrapping keeps of a text.
use Rattle.std.specs.Prelude.{List, [], ◌∷◌, ◌||◌, if◌then◌else◌}
use Rattle.miette_runs.specs.rules.Sequences.{Token, Character, Sequence, is_line_feed}
use Rattle.miette_text.specs.rules.Wrapping.{is_space}

-- without spaces and line feeds; sequences stay
abbrev pub solid : List Token → List Token
solid [] = []
solid (Character c ∷ ts) = if is_space c || is_line_feed c then solid ts else Character c ∷ solid ts
solid (Sequence s ∷ ts) = Sequence s ∷ solid ts
