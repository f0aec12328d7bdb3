-- The items that a chain has left.
use Rattle.std.specs.Prelude.{ℕ, List, ◌++◌, map, take, string_bytes}
use Rattle.std.specs.Option.{option_map}
use Rattle.miette_protocol.specs.views.Meaning.{Meaning}
use Rattle.miette_protocol.specs.rules.Reading.{Source}
use Rattle.miette_tree.specs.rules.Chain.{spine_from}
use Rattle.miette_tree.specs.views.Report.{tree_of}
use Rattle.miette_tree.specs.declared.chain.Chain.{Chain}

-- the items that a chain still yields, from front to back
abbrev pub remaining_chain : {D S : Type 0} → (D → Meaning) → (S → Source) → Chain D S → List (List ℕ)
remaining_chain means is c = take c.count (spine_from (option_map (λ r. tree_of means is r.now) c.at))
    ++ map string_bytes c.texts.now
