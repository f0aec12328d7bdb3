-- The reports of a value that lists messages.
use Rattle.std.specs.Prelude.{ℕ, List, Option, Some, None, Bool, if◌then◌else◌, codes, is_some, map, option_and_then}
use Rattle.std.specs.List.{list_all}
use Rattle.serde_json.specs.Data.{Data}
use Rattle.miette_protocol.specs.rules.Reading.{Source}
use Rattle.miette_read.specs.rules.Members.{member_text}
use Rattle.miette_tree.specs.rules.Tree.{Tree}

abbrev pub has_message : Data → Bool
has_message d = is_some (member_text (codes "message") d)

-- the report of each message; none if a message has no text
abbrev pub all_trees : (Data → Tree) → List Data → Option (List Tree)
all_trees tree ds = if list_all has_message ds then Some (map tree ds) else None

-- none if the value isn't a list of messages
abbrev pub list_trees : (Data → Option (List Data)) → ((List ℕ → Option Source) → Data → Tree)
    → (List ℕ → Option Source) → Data → Option (List Tree)
list_trees listed tree files d = option_and_then (all_trees (tree files)) (listed d)
