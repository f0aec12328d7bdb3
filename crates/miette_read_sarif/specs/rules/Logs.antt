-- The reports of a SARIF log.
use Rattle.std.specs.Prelude.{ℕ, List, [], ◌++◌, Option, Some, None, Bool, ◌&&◌, if◌then◌else◌, codes, is_some, map}
use Rattle.std.specs.Prelude.{nat_eq, option_and_then, unwrap_or}
use Rattle.std.specs.List.{flat_map, starts_with}
use Rattle.serde_json.specs.Data.{Data}
use Rattle.serde_json.specs.Find.{as_array, get}
use Rattle.miette_protocol.specs.rules.Reading.{Source}
use Rattle.miette_read.specs.rules.Members.{member_object, member_objects, member_text}
use Rattle.miette_tree.specs.rules.Tree.{Tree}
use Rattle.miette_read_sarif.specs.rules.Bases.{bases_of}
use Rattle.miette_read_sarif.specs.rules.Counting.{results_of}
use Rattle.miette_read_sarif.specs.rules.Newlines.{newlines_of}
use Rattle.miette_read_sarif.specs.rules.Notices.{notification_parts, tool_notifications}
use Rattle.miette_read_sarif.specs.rules.Proposals.{suggestion_drafts, drafts_help}
use Rattle.miette_read_sarif.specs.rules.Regions.{encoding_of}
use Rattle.miette_read_sarif.specs.rules.Results.{RunContext, result_context, result_parts}
use Rattle.miette_read_sarif.specs.rules.Wholes.{notification_file_annotations, result_file_annotations}
use Rattle.miette_read_sarif.specs.rules.Wholes.{file_annotations_tree}

-- The tool of a run.
abbrev pub run_tool : Data → Option Data
run_tool run = member_object (codes "tool") run

abbrev pub driver_of : Data → Option Data
driver_of run = option_and_then (member_object (codes "driver")) (run_tool run)

abbrev pub rules_by : Option Data → List Data
rules_by None = []
rules_by (Some driver) = member_objects (codes "rules") driver

-- The rules of each extension of a tool.
abbrev pub extensions_by : Option Data → List (List Data)
extensions_by None = []
extensions_by (Some tool) = map (member_objects (codes "rules")) (member_objects (codes "extensions") tool)

abbrev pub run_context_of : (List ℕ → Option Source) → Data → RunContext
run_context_of files run = record {
  files = files;
  encoding = encoding_of run;
  newlines = newlines_of run;
  rules = rules_by (driver_of run);
  extensions = extensions_by (run_tool run);
  artifacts = member_objects (codes "artifacts") run;
  bases = bases_of run;
  strings = None;
}

abbrev pub result_in : RunContext → Data → Tree
result_in g r =
    file_annotations_tree g.files (result_parts g (drafts_help g.files (suggestion_drafts g r)) r)
    (result_file_annotations g r)
    (suggestion_drafts g r)

abbrev pub result_tree : RunContext → Data → Tree
result_tree g r = result_in (result_context g r) r

abbrev pub notification_tree : RunContext → Data → Tree
notification_tree g n = file_annotations_tree g.files (notification_parts n) (notification_file_annotations g n) []

-- One report for each error notification of the tool, then one for each counted result.
abbrev pub run_trees : (List ℕ → Option Source) → Data → List Tree
run_trees files run =
    map (notification_tree (run_context_of files run)) (tool_notifications run)
    ++ map (result_tree (run_context_of files run)) (results_of run)

-- Whether the log has this version, or none.
abbrev pub is_of_version : Data → Bool
is_of_version d = starts_with nat_eq (unwrap_or (member_text (codes "version") d) (codes "2.1")) (codes "2.1")

-- Whether the value is a log of this version: an object with a list of runs.
abbrev pub has_sarif_runs : Data → Bool
has_sarif_runs d = is_of_version d && is_some (option_and_then as_array (get (codes "runs") d))

-- `None` for a value that isn't such a log. Otherwise the reports of each run.
abbrev pub sarif_trees : (List ℕ → Option Source) → Data → Option (List Tree)
sarif_trees files d = if has_sarif_runs d then Some (flat_map (run_trees files) (member_objects (codes "runs") d)) else
    None
