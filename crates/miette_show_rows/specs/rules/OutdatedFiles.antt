-- Files that changed since rustc read them.
use Rattle.std.specs.Prelude.{ℕ, List, [], ◌∷◌, Option, Bool, false, ◌&&◌, if◌then◌else◌}
use Rattle.std.specs.List.{flat_map}
use Rattle.serde_json.specs.Data.{Data}
use Rattle.miette_fixes.specs.rules.Edits.{is_machine_applicable}
use Rattle.miette_protocol.specs.rules.Reading.{Source}
use Rattle.miette_read.specs.rules.Rustc.{edits_in_child, file_name}
use Rattle.miette_read.specs.rules.RustcReport.{is_edit_found, span_applicability}
use Rattle.miette_show_rows.specs.rules.CurrentSpans.{is_span_current}

-- A suggestion has the applicability of its first edit.
abbrev pub are_machine_applicable : List Data → Bool
are_machine_applicable [] = false
are_machine_applicable (d ∷ ds) = is_machine_applicable (span_applicability d)

-- The edit's lines haven't changed, and its location is found.
abbrev pub is_edit_current : (List ℕ → Option Source) → Data → Bool
is_edit_current files d = is_span_current files d && is_edit_found files d

-- The file name of an edit for which that isn't so.
abbrev pub outdated_name : (List ℕ → Option Source) → Data → List (List ℕ)
outdated_name files d = if is_edit_current files d then [] else file_name d ∷ []

abbrev pub outdated_among : (List ℕ → Option Source) → List Data → List (List ℕ)
outdated_among files edits = if are_machine_applicable edits then flat_map (outdated_name files) edits else []

-- The changed files of a machine-applicable suggestion.
abbrev pub outdated_in_child : (List ℕ → Option Source) → Data → List (List ℕ)
outdated_in_child files c = outdated_among files (edits_in_child c)
