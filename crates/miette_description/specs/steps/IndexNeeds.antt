-- Which sources are read often.
use Rattle.std.specs.Prelude.{ℕ, ◌+◌, Bool, ◌||◌, Option, Some, None, codes, is_some, nat_lt}
use Rattle.serde_json.specs.Data.{Data, Items, no_items, item}
use Rattle.serde_json.specs.Find.{as_array}
use Rattle.miette_description.specs.rules.Members.{at_key}

abbrev pub items_len : Items → ℕ
items_len no_items = 0
items_len (item d ds) = items_len ds + 1

abbrev pub items_in : Option Items → ℕ
items_in None = 0
items_in (Some items) = items_len items

-- the length of a list
abbrev pub items_at : Option Data → ℕ
items_at None = 0
items_at (Some d) = items_in (as_array d)

-- many labels read a source often; so do related reports, a cause and fixes
abbrev pub needs_index : Data → Bool
needs_index d =
    ((nat_lt 4 (items_at (at_key (codes "labels") d)) || nat_lt 0 (items_at (at_key (codes "related") d)))
    || is_some (at_key (codes "cause") d)) || nat_lt 0 (items_at (at_key (codes "fixes") d))
