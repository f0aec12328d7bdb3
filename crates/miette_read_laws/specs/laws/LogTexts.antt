-- The texts of a result other than its message.
use Rattle.std.specs.Prelude.{ℕ, List, [], ◌++◌, Option, Some, None, codes}
use Rattle.std.specs.List.{flat_map}
use Rattle.serde_json.specs.Data.{Data}
use Rattle.miette_read.specs.rules.Members.{member_object, member_objects, nonempty_text}
use Rattle.miette_read.specs.rules.Rustc.{maybe_row}
use Rattle.miette_read_sarif.specs.rules.Proposals.{description}
use Rattle.miette_read_sarif.specs.rules.Results.{RunContext, message_in}

abbrev pub location_texts : RunContext → Data → List (List ℕ)
location_texts g l = maybe_row (nonempty_text (message_in g.strings l))

-- ---- steps of flows

abbrev pub step_texts_by : RunContext → Option Data → List (List ℕ)
step_texts_by g None = []
step_texts_by g (Some l) = location_texts g l

abbrev pub step_texts : RunContext → Data → List (List ℕ)
step_texts g s = step_texts_by g (member_object (codes "location") s)

abbrev pub thread_texts : RunContext → Data → List (List ℕ)
thread_texts g t = flat_map (step_texts g) (member_objects (codes "locations") t)

abbrev pub flow_texts : RunContext → Data → List (List ℕ)
flow_texts g f = flat_map (thread_texts g) (member_objects (codes "threadFlows") f)

-- ---- proposals

abbrev pub fix_texts : RunContext → Data → List (List ℕ)
fix_texts g f = maybe_row (description g.strings f)

-- ---- all of it

-- The texts of its locations, related locations, flows and suggestions.
abbrev pub texts_of : RunContext → Data → List (List ℕ)
texts_of g r =
    flat_map (location_texts g) (member_objects (codes "locations") r)
    ++ (flat_map (location_texts g) (member_objects (codes "relatedLocations") r)
    ++ (flat_map (flow_texts g) (member_objects (codes "codeFlows") r)
    ++ flat_map (fix_texts g) (member_objects (codes "fixes") r)))
