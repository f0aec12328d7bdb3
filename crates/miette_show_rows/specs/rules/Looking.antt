-- Looking files up, one after another.
use Rattle.std.specs.Prelude.{◌≡◌, ℕ, List, [], ◌∷◌, ◌++◌, Bool, false, ◌||◌, Option, Some, None, if◌then◌else◌, codes}
use Rattle.std.specs.Prelude.{nat_eq}
use Rattle.std.specs.List.{All, starts_with}
use Rattle.miette_protocol.specs.rules.Reading.{Source}
use Rattle.serde_json.specs.Data.{Data}
use Rattle.miette_read.specs.rules.Names.{names_of}
use Rattle.miette_read_sarif.specs.rules.Names as log

-- The names of all files in a value: members of compilers and ShellCheck, and URIs of a log.
abbrev pub named_files : Data → List (List ℕ)
named_files d = names_of d ++ log.log_file_names d

-- Known files stay known, with the same contents.
abbrev pub Goes : (List ℕ → Option Source) → (List ℕ → Type 0) → (List ℕ → Option Source) → (List ℕ → Type 0) → Type 0
Goes found knows found_later knows_later =
    (name : List ℕ) → knows name → knows_later name × (found_later name ≡ found name)

-- `files` are those found later, when all these names are known.
abbrev pub IsFoundBy : {F : Type 0} → (F → List ℕ → Option Source) → (F → List ℕ → Type 0) → F
    → (List ℕ → Option Source) → List (List ℕ) → Type 0
IsFoundBy {F} found knows first files names = (later : F) × Goes (found first) (knows first) (found later) (knows later)
    × All (knows later) names × (files ≡ found later)

-- The path of a file: below `root`, unless the name starts with `/`.
abbrev pub path_in : Option (List ℕ) → List ℕ → List ℕ
path_in None name = name
path_in (Some root) name = if starts_with nat_eq name (codes "/") then name else root ++ (codes "/" ++ name)

-- The bytes start with `/../`.
abbrev pub begins_up : List ℕ → Bool
begins_up rest = starts_with nat_eq rest (47 ∷ 46 ∷ 46 ∷ 47 ∷ [])

abbrev pub goes_up : List ℕ → Bool
goes_up [] = false
goes_up (b ∷ bs) = begins_up (b ∷ bs) || goes_up bs

-- Whether a file name leads out of its folder: it starts with `/` or `../`, or has a component `..`.
abbrev pub leads_out : List ℕ → Bool
leads_out name = starts_with nat_eq name (47 ∷ []) || starts_with nat_eq name (46 ∷ 46 ∷ 47 ∷ []) || goes_up name
