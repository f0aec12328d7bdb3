-- The names of the files in a message.
use Rattle.std.specs.Prelude.{ℕ, List, [], ◌∷◌, ◌++◌, Option, Some, None, if◌then◌else◌, bytes_eq, codes, Bool, ◌||◌}
use Rattle.serde_json.specs.Data.{Data, null, boolean, number, string, array, object, Items, no_items, item}
use Rattle.serde_json.specs.Data.{Members, no_members, member}
use Rattle.serde_json.specs.Find.{as_str}

abbrev pub maybe_name : Option (List ℕ) → List (List ℕ)
maybe_name None = []
maybe_name (Some name) = name ∷ []

-- The keys of file names: rustc's and GCC's.
abbrev pub is_name_key : List ℕ → Bool
is_name_key key = bytes_eq key (codes "file_name") || bytes_eq key (codes "file")

abbrev pub named_by : List ℕ → Data → List (List ℕ)
named_by key d = if is_name_key key then maybe_name (as_str d) else []

-- The texts of all members `file_name` or `file`, at any depth.
abbrev mutual
  pub names_of : Data → List (List ℕ)
  names_of null = []
  names_of (boolean b) = []
  names_of (number n) = []
  names_of (string s) = []
  names_of (array ds) = names_in ds
  names_of (object ms) = names_among ms

  pub names_in : Items → List (List ℕ)
  names_in no_items = []
  names_in (item d ds) = names_of d ++ names_in ds

  pub names_among : Members → List (List ℕ)
  names_among no_members = []
  names_among (member key d ms) = named_by key d ++ (names_of d ++ names_among ms)
