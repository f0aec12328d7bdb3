-- What is written of objects and lists: members, and values by their texts.
use Rattle.std.specs.Prelude.{ℕ, List, [], ◌∷◌}
use Rattle.miette_json.specs.rules.Writing.{JsonPrefix, with_members, with_text}
use Rattle.miette_sarif.specs.rules.Objects.{Pairs, members_of}

abbrev pub with_pairs : Pairs → JsonPrefix → JsonPrefix
with_pairs ps p = with_members (members_of ps) p

abbrev pub with_texts : List (List ℕ) → JsonPrefix → JsonPrefix
with_texts [] p = p
with_texts (t ∷ ts) p = with_texts ts (with_text t p)
