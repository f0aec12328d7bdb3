-- Runs as tokens: characters, and the signs at their positions.
use Rattle.std.specs.Prelude.{ℕ, suc, ◌≤◌, nat_le, if◌then◌else◌, List, [], ◌∷◌}
use Rattle.std.specs.Prelude.{◌++◌, map}
use Rattle.std.specs.List.{All}
use Rattle.miette_style.specs.rules.Codes.{colour_start, colour_stop}
use Rattle.miette_runs.specs.rules.Sequences.{Token, Character, Sequence}
use Rattle.miette_runs.specs.rules.Cells.{TaggedChar}
use Rattle.miette_runs.specs.declared.runs.sign.Tag.{Tag}
use Rattle.miette_runs.specs.declared.runs.sign.Sign.{Sign}
use Rattle.miette_runs.specs.declared.runs.sign.Sign.TheVariants as signs

-- what a sign prints
abbrev pub sign_text : Sign → List ℕ
sign_text (signs.Begin style) = colour_start style
sign_text signs.End = colour_stop
sign_text (signs.Sequence codes) = codes.items

abbrev pub tag_text : Tag → List ℕ
tag_text m = sign_text m.sign.value

abbrev pub tag_token : Tag → Token
tag_token m = Sequence (tag_text m)

-- the tags before the character at an index, and those after it
abbrev pub upto : ℕ → List Tag → List Tag
upto at [] = []
upto at (m ∷ ms) = if nat_le m.at at then m ∷ upto at ms else []

abbrev pub beyond : ℕ → List Tag → List Tag
beyond at [] = []
beyond at (m ∷ ms) = if nat_le m.at at then beyond at ms else m ∷ ms

-- the characters from an index on, with the tags that are left
abbrev pub interleaving : ℕ → List ℕ → List Tag → List Token
interleaving at [] tags = map tag_token tags
interleaving at (c ∷ cs) tags = map tag_token (upto at tags) ++ Character c ∷ interleaving (suc at) cs (beyond at tags)

-- no tag is after that many characters
abbrev pub AreWithin : ℕ → List Tag → Type 0
AreWithin n tags = All (λ (m : Tag). m.at ≤ n) tags

-- ---- the cells of a line

-- the characters from an index on, each with the tags before it
abbrev pub cells_at : ℕ → List ℕ → List Tag → List TaggedChar
cells_at at [] tags = []
cells_at at (c ∷ cs) tags = record { tags = map tag_text (upto at tags); code = c }
    ∷ cells_at (suc at) cs (beyond at tags)

-- the tags that are left after them
abbrev pub left_at : ℕ → List ℕ → List Tag → List Tag
left_at at [] tags = tags
left_at at (c ∷ cs) tags = left_at (suc at) cs (beyond at tags)

-- what tags print
abbrev pub tags_spelled : List Tag → List ℕ
tags_spelled [] = []
tags_spelled (m ∷ ms) = tag_text m ++ tags_spelled ms
