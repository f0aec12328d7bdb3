-- What a parsed text represents. If each of its numbers can be read, this is the JSON value of the text.
use Rattle.std.specs.Prelude.{List, ℕ, Bool, true, ◌&&◌, is_some, unwrap_or}
use Rattle.std.specs.declared.alloc.Global.{Global}
use Rattle.json.specs.Json as json
use Rattle.json.specs.Value.{value_view, items_view}
use Rattle.json.specs.declared.value.Value.{Value}
use Rattle.serde_json.specs.Data.{Num, unsigned, float, Data, null, boolean, number, string, array, object, Items}
use Rattle.serde_json.specs.Data.{no_items, item, Members, no_members, put}
use Rattle.serde_json.specs.Find.{as_u64, to_float}
use Rattle.serde_json.specs.Read.{number_of}

-- a number that is too large is a float
abbrev pub number_data : List ℕ → Num
number_data s = unwrap_or (number_of s) (float (to_float (unsigned 0)))

-- if a key occurs twice, the last value counts
abbrev mutual
  pub data_of : json.Json → Data
  data_of json.null = null
  data_of (json.boolean b) = boolean b
  data_of (json.number s) = number (number_data s)
  data_of (json.string s) = string s
  data_of (json.array js) = array (items_data js)
  data_of (json.object ms) = object (members_data ms no_members)

  pub items_data : json.Items → Items
  items_data json.no_items = no_items
  items_data (json.item j js) = item (data_of j) (items_data js)

  pub members_data : json.Members → Members → Members
  members_data json.no_members found = found
  members_data (json.member k j ms) found = members_data ms (put k (data_of j) found)

-- each number is a `u64`, even if a later member with the same key replaces it
abbrev mutual
  pub is_integral : json.Json → Bool
  is_integral json.null = true
  is_integral (json.boolean b) = true
  is_integral (json.number s) = is_some (as_u64 (number_data s))
  is_integral (json.string s) = true
  is_integral (json.array js) = are_integral js
  is_integral (json.object ms) = have_integral ms

  pub are_integral : json.Items → Bool
  are_integral json.no_items = true
  are_integral (json.item j js) = is_integral j && are_integral js

  pub have_integral : json.Members → Bool
  have_integral json.no_members = true
  have_integral (json.member k j ms) = is_integral j && have_integral ms

abbrev pub value_data : Value Global → Data
value_data v = data_of (value_view v)

abbrev pub list_data : List (Value Global) → Items
list_data vs = items_data (items_view vs)
