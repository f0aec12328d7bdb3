-- The members of a tool's messages. One that is of another type than its format says is as if it weren't there.
use Rattle.std.specs.Prelude.{ℕ, List, [], ◌∷◌, Option, Some, None, Bool, false, option_and_then, option_map, unwrap_or}
use Rattle.std.specs.Prelude.{if◌then◌else◌, filter, is_some}
use Rattle.serde_json.specs.Data.{Data, Items, no_items, item}
use Rattle.serde_json.specs.Find.{get, as_array, as_bool, as_number, as_object, as_str, as_u64}

abbrev pub member_text : List ℕ → Data → Option (List ℕ)
member_text key d = option_and_then as_str (get key d)

abbrev pub member_number : List ℕ → Data → Option ℕ
member_number key d = option_and_then as_u64 (option_and_then as_number (get key d))

-- A missing flag is false.
abbrev pub member_flag : List ℕ → Data → Bool
member_flag key d = unwrap_or (option_and_then as_bool (get key d)) false

abbrev pub listed : Items → List Data
listed no_items = []
listed (item d ds) = d ∷ listed ds

-- the items of a list; none for any other value
abbrev pub list_in : Data → Option (List Data)
list_in d = option_map listed (as_array d)

abbrev pub has_text : List ℕ → Data → Bool
has_text key d = is_some (member_text key d)

abbrev pub has_list : List ℕ → Data → Bool
has_list key d = is_some (option_and_then as_array (get key d))

-- the items of a list; any other value has no items
abbrev pub array_items : Option Items → List Data
array_items None = []
array_items (Some ds) = listed ds

abbrev pub member_items : List ℕ → Data → List Data
member_items key d = array_items (option_and_then as_array (get key d))

abbrev pub is_object : Data → Bool
is_object d = is_some (as_object d)

abbrev pub objects_alone : Data → Option Data
objects_alone d = if is_object d then Some d else None

-- `null` isn't an object.
abbrev pub member_object : List ℕ → Data → Option Data
member_object key d = option_and_then objects_alone (get key d)

-- Items that aren't objects are left out.
abbrev pub member_objects : List ℕ → Data → List Data
member_objects key d = filter is_object (member_items key d)

-- A nonempty text.
abbrev pub nonempty_text : Option (List ℕ) → Option (List ℕ)
nonempty_text None = None
nonempty_text (Some []) = None
nonempty_text (Some (c ∷ cs)) = Some (c ∷ cs)
