-- Objects and lists as JSON values.
use Rattle.std.specs.Prelude.{ℕ, List, [], ◌∷◌, codes, Option, Some, None}
use Rattle.miette_json.specs.rules.Json.{Json, string, array, object, Items, no_items, item, Members, no_members}
use Rattle.miette_json.specs.rules.Json.{member}

-- keys with their values, in order
abbrev pub Pairs : Type 0
Pairs = List (List ℕ × Json)

abbrev pub members_of : Pairs → Members
members_of [] = no_members
members_of (m ∷ ms) = member m.0 m.1 (members_of ms)

abbrev pub object_of : Pairs → Json
object_of ms = object (members_of ms)

abbrev pub items_of : List Json → Items
items_of [] = no_items
items_of (v ∷ vs) = item v (items_of vs)

abbrev pub array_of : List Json → Json
array_of vs = array (items_of vs)

abbrev pub pair : List ℕ → Json → Pairs
pair key value = (key, value) ∷ []

-- a list member, unless the list is empty
abbrev pub listed : List ℕ → List Json → Pairs
listed key [] = []
listed key (v ∷ vs) = pair key (array_of (v ∷ vs))

-- a string member, if there is a text
abbrev pub optional_text_pairs : List ℕ → Option (List ℕ) → Pairs
optional_text_pairs key None = []
optional_text_pairs key (Some text) = pair key (string text)

-- `{"text": "some"}`
abbrev pub message_of : List ℕ → Json
message_of text = object_of (pair (codes "text") (string text))
