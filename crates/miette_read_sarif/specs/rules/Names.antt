-- The names of the files in a log.
use Rattle.std.specs.Prelude.{ℕ, List, [], ◌∷◌, ◌++◌, Option, if◌then◌else◌, codes, is_some}
use Rattle.std.specs.List.{flat_map}
use Rattle.serde_json.specs.Data.{Data, null, boolean, number, string, array, object, Items, no_items, item}
use Rattle.serde_json.specs.Data.{Members, no_members, member}
use Rattle.miette_read.specs.rules.Members.{member_objects, member_text}
use Rattle.miette_read_sarif.specs.rules.Bases.{bases_of, file_name}

-- The file name of a location that has a URI.
abbrev pub own_names : Option Data → Data → List (List ℕ)
own_names bases d = if is_some (member_text (codes "uri") d) then file_name bases d ∷ [] else []

-- The file names of all objects with a text `uri`, at any depth.
abbrev mutual
  pub names_within : Option Data → Data → List (List ℕ)
  names_within bases null = []
  names_within bases (boolean b) = []
  names_within bases (number n) = []
  names_within bases (string s) = []
  names_within bases (array ds) = names_in bases ds
  names_within bases (object ms) = own_names bases (object ms) ++ names_among bases ms

  pub names_in : Option Data → Items → List (List ℕ)
  names_in bases no_items = []
  names_in bases (item d ds) = names_within bases d ++ names_in bases ds

  pub names_among : Option Data → Members → List (List ℕ)
  names_among bases no_members = []
  names_among bases (member key d ms) = names_within bases d ++ names_among bases ms

abbrev pub run_names : Data → List (List ℕ)
run_names run = names_within (bases_of run) run

-- The file names of all runs.
abbrev pub log_file_names : Data → List (List ℕ)
log_file_names d = flat_map run_names (member_objects (codes "runs") d)
