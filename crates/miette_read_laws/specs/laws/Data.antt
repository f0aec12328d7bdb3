-- One of our JSON values as a reader gets it. All numbers are integers, and the last value of a repeated key wins.
use Rattle.std.specs.Prelude.{⊤, ◌<◌, ◌^◌}
use Rattle.miette_json.specs.rules.Json as json
use Rattle.serde_json.specs.Data.{unsigned, Data, number, string, array, object, Items, no_items, item, Members}
use Rattle.serde_json.specs.Data.{no_members, put}

abbrev mutual
  pub data_of : json.Json → Data
  data_of (json.object ms) = object (members_data ms no_members)
  data_of (json.array js) = array (items_data js)
  data_of (json.string s) = string s
  data_of (json.number n) = number (unsigned n)

  -- `found` are the members that were read before.
  pub members_data : json.Members → Members → Members
  members_data json.no_members found = found
  members_data (json.member k j ms) found = members_data ms (put k (data_of j) found)

  pub items_data : json.Items → Items
  items_data json.no_items = no_items
  items_data (json.item j js) = item (data_of j) (items_data js)

-- All numbers fit in 64 bits. Larger ones are read as floats.
abbrev mutual
  pub NumbersFit : json.Json → Type 0
  NumbersFit (json.number n) = n < 2 ^ 64
  NumbersFit (json.string s) = ⊤
  NumbersFit (json.array js) = AllNumbersFit js
  NumbersFit (json.object ms) = MembersFit ms

  pub AllNumbersFit : json.Items → Type 0
  AllNumbersFit json.no_items = ⊤
  AllNumbersFit (json.item j js) = NumbersFit j × AllNumbersFit js

  pub MembersFit : json.Members → Type 0
  MembersFit json.no_members = ⊤
  MembersFit (json.member k j ms) = NumbersFit j × MembersFit ms
