-- The reports of GCC's diagnostics.
use Rattle.std.specs.Prelude.{ℕ, List, [], ◌∷◌, Option, Some, None, Bool, if◌then◌else◌, bytes_eq, codes}
use Rattle.std.specs.Prelude.{◌&&◌, false, option_map, is_none, is_some, unwrap_or}
use Rattle.std.specs.List.{filter_map, fold, list_all, list_any}
use Rattle.serde_json.specs.Data.{Data}
use Rattle.miette_fixes.specs.declared.applicability.Applicability.TheVariants.{Unspecified}
use Rattle.miette_protocol.specs.declared.protocol.Severity.{Severity}
use Rattle.miette_protocol.specs.declared.protocol.Severity.TheVariants.{Advice, Warning, Error}
use Rattle.miette_protocol.specs.rules.Reading.{Source}
use Rattle.miette_read.specs.rules.Members.{has_list, has_text, list_in, member_objects, member_text, member_number}
use Rattle.miette_read.specs.rules.MessageLists.{list_trees}
use Rattle.miette_read.specs.rules.Places.{ToolLocation, join_rows}
use Rattle.miette_read.specs.rules.SuggestedFixes.{FileEdit, Suggestion, edit_found}
use Rattle.miette_read.specs.rules.Reports.{MessageParts, report_tree}
use Rattle.miette_read.specs.rules.AnnotationLabels.{file_range, label_lists, with_row}
use Rattle.miette_read.specs.rules.EditMessage.{edit_message}
use Rattle.miette_tree.specs.rules.Tree.{Tree}
use Rattle.miette_read_gcc.specs.rules.Gcc.{GccContext, message_of, location_between, point_at, diagnostic_annotations}

-- ---- proposals

-- The text that a fix-it writes from its `start` up to its `next`.
abbrev pub fixit_text : Data → List ℕ
fixit_text x = unwrap_or (member_text (codes "string") x) []

abbrev pub fixit_location : GccContext → Data → ToolLocation
fixit_location g x =
    location_between g.files 0 (point_at g.origin (codes "start") x) (point_at g.origin (codes "next") x)

abbrev pub fixit_edit_by : (List ℕ → Option Source) → ToolLocation → List ℕ → Option FileEdit
fixit_edit_by files p text = option_map (edit_found p.name text) (file_range files p)

abbrev pub fixit_edit : GccContext → Data → Option FileEdit
fixit_edit g x = fixit_edit_by g.files (fixit_location g x) (fixit_text x)

abbrev pub is_fixit_found : GccContext → Data → Bool
is_fixit_found g x = is_some (fixit_edit g x)

-- The message of a suggestion. GCC gives none.
abbrev pub fixits_message : List Data → List ℕ
fixits_message [] = []
fixits_message (x ∷ []) = edit_message (fixit_text x)
fixits_message (x ∷ (y ∷ xs)) = codes "make these changes"

-- The edits of these fix-its, if every one is found.
abbrev pub all_fixit_edits : GccContext → List Data → Option (List FileEdit)
all_fixit_edits g xs = if list_all (is_fixit_found g) xs then Some (filter_map (fixit_edit g) xs) else None

abbrev pub fixits_suggestion : List Data → List FileEdit → Suggestion
fixits_suggestion xs edits = record { message = fixits_message xs; applicability = Unspecified; edits = edits }

-- The suggestion of a diagnostic or note, from its fix-its.
abbrev pub suggestion_of_fixits : GccContext → List Data → Option Suggestion
suggestion_of_fixits g [] = None
suggestion_of_fixits g (x ∷ xs) = option_map (fixits_suggestion (x ∷ xs)) (all_fixit_edits g (x ∷ xs))

abbrev pub fixits_of : Data → List Data
fixits_of d = member_objects (codes "fixits") d

abbrev pub diagnostic_suggestion : GccContext → Data → Option Suggestion
diagnostic_suggestion g d = suggestion_of_fixits g (fixits_of d)

-- The values that may have fix-its: the diagnostic and its notes.
abbrev pub proposers : Data → List Data
proposers d = d ∷ member_objects (codes "children") d

abbrev pub diagnostic_suggestions : GccContext → Data → List Suggestion
diagnostic_suggestions g d = filter_map (diagnostic_suggestion g) (proposers d)

-- ---- what is said

-- A suggestion that isn't found becomes help.
abbrev pub with_help : GccContext → List (List ℕ) → Data → List (List ℕ)
with_help g rows d = if is_none (all_fixit_edits g (fixits_of d)) then with_row rows (fixits_message (fixits_of d)) else
    rows

abbrev pub diagnostic_help : GccContext → Data → Option (List ℕ)
diagnostic_help g d = join_rows (fold (with_help g) [] (proposers d))

abbrev pub error_kinds : List (List ℕ)
error_kinds =
    codes "error" ∷ codes "fatal error" ∷ codes "internal compiler error" ∷ codes "sorry, unimplemented"
    ∷ codes "permerror" ∷ []

abbrev pub warning_kinds : List (List ℕ)
warning_kinds = codes "warning" ∷ codes "pedwarn" ∷ []

abbrev pub kind_severity : List ℕ → Severity
kind_severity kind =
    if list_any (bytes_eq kind) error_kinds then Error
    else if list_any (bytes_eq kind) warning_kinds then Warning else Advice

abbrev pub diagnostic_severity : Data → Severity
diagnostic_severity d = kind_severity (unwrap_or (member_text (codes "kind") d) [])

abbrev pub diagnostic_parts : GccContext → Data → MessageParts
diagnostic_parts g d = record {
  message = message_of d;
  code = member_text (codes "option") d;
  severity = diagnostic_severity d;
  help = diagnostic_help g d;
  url = member_text (codes "option_url") d;
}

-- ---- the reports

-- Columns are one-based unless the diagnostic gives another origin.
abbrev pub gcc_context_of : (List ℕ → Option Source) → Data → GccContext
gcc_context_of files d = record { files = files; origin = unwrap_or (member_number (codes "column-origin") d) 1 }

abbrev pub context_report : GccContext → Data → Tree
context_report g d = report_tree (diagnostic_parts g d) (label_lists g.files (diagnostic_annotations g d))
    (diagnostic_suggestions g d)

abbrev pub diagnostic_tree : (List ℕ → Option Source) → Data → Tree
diagnostic_tree files d = context_report (gcc_context_of files d) d

-- GCC writes one array
abbrev pub gcc_trees : (List ℕ → Option Source) → Data → Option (List Tree)
gcc_trees files d = list_trees list_in diagnostic_tree files d

-- each diagnostic has its kind and a list of locations
abbrev pub is_gcc_item : Data → Bool
is_gcc_item d = has_text (codes "kind") d && has_list (codes "locations") d

-- an array of only such diagnostics, or an empty one
abbrev pub is_gcc_array : Data → Bool
is_gcc_array d = unwrap_or (option_map (list_all is_gcc_item) (list_in d)) false
