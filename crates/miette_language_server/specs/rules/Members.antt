-- Members of a message by their paths. A member with another type than the protocol's counts as missing.
use Rattle.std.specs.Prelude.{ℕ, ℤ, List, [], ◌∷◌, Option, Some, None, codes, if◌then◌else◌, option_and_then}
use Rattle.std.specs.Prelude.{Bool, ◌||◌, is_some}
use Rattle.serde_json.specs.Data.{Data, Items, no_items, item}
use Rattle.serde_json.specs.Find.{as_array, as_i64, as_number, as_str, as_u64, pointer}
use Rattle.miette_positions.specs.declared.position.Position.{Position}
use Rattle.miette_positions.specs.declared.position.Region.{Region}

abbrev pub text_at : List ℕ → Data → Option (List ℕ)
text_at path d = option_and_then as_str (pointer path d)

abbrev pub count_at : List ℕ → Data → Option ℕ
count_at path d = option_and_then as_u64 (option_and_then as_number (pointer path d))

abbrev pub integer_at : List ℕ → Data → Option ℤ
integer_at path d = option_and_then as_i64 (option_and_then as_number (pointer path d))

abbrev pub listed : Items → List Data
listed no_items = []
listed (item d ds) = d ∷ listed ds

-- the items of a list; none for another value
abbrev pub items_of_list : Option Items → List Data
items_of_list None = []
items_of_list (Some ds) = listed ds

abbrev pub items_at : List ℕ → Data → List Data
items_at path d = items_of_list (option_and_then as_array (pointer path d))

-- ---- what a request is answered by

-- a string or an integer may be a request's id
abbrev pub is_id : Data → Bool
is_id d = is_some (as_str d) || (is_some (option_and_then as_i64 (as_number d))
    || is_some (option_and_then as_u64 (as_number d)))

abbrev pub id_alone : Data → Option Data
id_alone d = if is_id d then Some d else None

abbrev pub id_of : Data → Option Data
id_of d = option_and_then id_alone (pointer (codes "/id") d)

-- ---- places

abbrev pub position_from : Option ℕ → Option ℕ → Option Position
position_from None column = None
position_from (Some line) None = None
position_from (Some line) (Some column) = Some (record { line = line; column = column })

abbrev pub region_from : Option Position → Option Position → Option Region
region_from None end = None
region_from (Some start) None = None
region_from (Some start) (Some end) = Some (record { start = start; end = end })

abbrev pub position_of : Data → Option Position
position_of d = position_from (count_at (codes "/line") d) (count_at (codes "/character") d)

abbrev pub region_of : Data → Option Region
region_of d = region_from (option_and_then position_of (pointer (codes "/start") d))
    (option_and_then position_of (pointer (codes "/end") d))

abbrev pub region_at : List ℕ → Data → Option Region
region_at path d = option_and_then region_of (pointer path d)
