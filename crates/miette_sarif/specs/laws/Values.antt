-- Access to parts of a JSON value: members, items and strings.
use Rattle.std.specs.Prelude.{◌≡◌, ℕ, List, [], ◌∷◌, ◌++◌, if◌then◌else◌}
use Rattle.std.specs.List.{Contains}
use Rattle.std.specs.Str.{bytes_eq}
use Rattle.miette_json.specs.rules.Json.{Json, number, string, array, object, Items, no_items, item, Members}
use Rattle.miette_json.specs.rules.Json.{no_members}
use Rattle.miette_json.specs.rules.Json.{member}

-- ---- members and items

-- the value of the first member with a key; an empty object if there is none
abbrev pub first_with : List ℕ → Members → Json
first_with key no_members = object no_members
first_with key (member k v more) = if bytes_eq k key then v else first_with key more

-- a member of an object; other values have none
abbrev pub value_at : List ℕ → Json → Json
value_at key (number n) = object no_members
value_at key (string s) = object no_members
value_at key (array is) = object no_members
value_at key (object ms) = first_with key ms

abbrev pub listed_items : Items → List Json
listed_items no_items = []
listed_items (item v more) = v ∷ listed_items more

-- the items of a list; other values have none
abbrev pub items_in : Json → List Json
items_in (number n) = []
items_in (string s) = []
items_in (array is) = listed_items is
items_in (object ms) = []

-- the items of a list member
abbrev pub list_at : List ℕ → Json → List Json
list_at key v = items_in (value_at key v)

-- ---- texts

-- the strings in a value, without keys
abbrev mutual
  pub texts_in : Json → List (List ℕ)
  texts_in (number n) = []
  texts_in (string s) = s ∷ []
  texts_in (array is) = texts_in_items is
  texts_in (object ms) = texts_in_members ms

  pub texts_in_items : Items → List (List ℕ)
  texts_in_items no_items = []
  texts_in_items (item v more) = texts_in v ++ texts_in_items more

  pub texts_in_members : Members → List (List ℕ)
  texts_in_members no_members = []
  texts_in_members (member k v more) = texts_in v ++ texts_in_members more

-- a text that is a part of another one
pub record IsPart (part whole : List ℕ) : Type 0 where
  pub front : List ℕ
  pub rest : List ℕ
  pub is : whole ≡ front ++ (part ++ rest)

-- a string occurs in a value, as a part of one of its strings
pub record StandsIn (v : Json) (part : List ℕ) : Type 0 where
  pub whole : List ℕ
  pub is_there : Contains (texts_in v) whole
  pub is_part : IsPart part whole
