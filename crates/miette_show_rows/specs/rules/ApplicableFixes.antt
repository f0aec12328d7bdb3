-- The machine-applicable suggestions of rustc, which `show --fix` applies.
use Rattle.std.specs.Prelude.{ℕ, List, [], Option, Some, None, Bool, true, false, if◌then◌else◌, map, codes}
use Rattle.std.specs.Prelude.{option_and_then, option_map, is_some, length, unwrap_or, ◌==◌}
use Rattle.std.specs.List.{flat_map, list_all}
use Rattle.serde_json.specs.Data.{Data}
use Rattle.miette_fixes.specs.declared.applicability.Applicability.TheVariants.{MachineApplicable}
use Rattle.miette_fixes.specs.rules.Edits.{FixModel, is_machine_applicable}
use Rattle.miette_protocol.specs.declared.protocol.Severity.{Severity}
use Rattle.miette_protocol.specs.declared.protocol.Severity.TheVariants.{Advice, Warning, Error}
use Rattle.miette_protocol.specs.rules.Reading.{Source}
use Rattle.miette_read.specs.rules.Members.{member_objects, member_text}
use Rattle.miette_read.specs.rules.SuggestedFixes.{FileEdit, Suggestion, fixes_in}
use Rattle.miette_read.specs.rules.Reports.{first_edits_of_others}
use Rattle.miette_read.specs.rules.Rustc.{edits_in_child}
use Rattle.miette_read.specs.rules.RustcReport.{rustc_message_in, is_other_cargo_line, is_other_rustc_line}
use Rattle.miette_read.specs.rules.RustcReport.{child_suggestion, severity_of}
use Rattle.miette_show_rows.specs.rules.CurrentSpans.{is_span_current}
use Rattle.miette_show_rows.specs.rules.OutdatedFiles.{outdated_in_child}

-- ---- the diagnostic in a row

abbrev pub diagnostic_of : Data → Option (Option Data)
diagnostic_of m =
    if is_other_rustc_line m then Some None else if is_some (member_text (codes "message") m) then Some (Some m) else
    None

-- `None` for a value without a message. `Some None` for other lines of rustc or cargo.
abbrev pub diagnostic_in : Data → Option (Option Data)
diagnostic_in d =
    if is_other_cargo_line d then Some None else option_and_then diagnostic_of
    (rustc_message_in d (member_text (codes "reason") d))

-- ---- what it proposes

abbrev pub if_applicable : Suggestion → Option Suggestion
if_applicable offer = if is_machine_applicable offer.applicability then Some offer else None

-- The suggestion of a note or help, if it is machine-applicable and its files haven't changed.
abbrev pub applicable_suggestion : (List ℕ → Option Source) → Data → Option Suggestion
applicable_suggestion files c =
    if list_all (is_span_current files) (edits_in_child c) then option_and_then if_applicable (child_suggestion files c)
    else None

-- ---- its fixes, file by file

-- The fixes of one file.
pub record FileFixes : Type 0 where
  pub name : List ℕ
  pub fixes : List FixModel

abbrev pub fixes_over : Suggestion → FileEdit → FileFixes
fixes_over offer e = record { name = e.name; fixes = fixes_in e.name offer.message offer }

-- One entry for each file that the suggestion edits, in order.
abbrev pub suggestion_fixes : Suggestion → List FileFixes
suggestion_fixes offer = map (fixes_over offer) (first_edits_of_others None offer.edits)

abbrev pub fixes_if_any : Option Suggestion → List FileFixes
fixes_if_any None = []
fixes_if_any (Some offer) = suggestion_fixes offer

abbrev pub child_fixes : (List ℕ → Option Source) → Data → List FileFixes
child_fixes files c = fixes_if_any (applicable_suggestion files c)

-- ---- alternatives

abbrev pub edits_if_any : Option Suggestion → List FileEdit
edits_if_any None = []
edits_if_any (Some offer) = offer.edits

-- The edits of that suggestion.
abbrev pub applicable_edits : (List ℕ → Option Source) → Data → List FileEdit
applicable_edits files c = edits_if_any (applicable_suggestion files c)

-- The edits of all notes and helps, as one suggestion.
abbrev pub merged_suggestion : (List ℕ → Option Source) → List Data → Suggestion
merged_suggestion files cs = record {
  message = [];
  applicability = MachineApplicable;
  edits
      = flat_map (applicable_edits files) cs;
}

-- The suggestion's edits of this file don't conflict: they are one fix.
abbrev pub has_one_fix : Suggestion → FileEdit → Bool
has_one_fix offer e = length (fixes_in e.name offer.message offer) == 1

-- They are one fix in each file.
abbrev pub has_one_fix_per_file : Suggestion → Bool
has_one_fix_per_file offer = list_all (has_one_fix offer) (first_edits_of_others None offer.edits)

-- Conflicting edits are alternatives, in one suggestion or in several. Rustc doesn't say which of them it means.
abbrev pub has_no_alternatives : (List ℕ → Option Source) → List Data → Bool
has_no_alternatives files cs = has_one_fix_per_file (merged_suggestion files cs)

abbrev pub children_fixes : (List ℕ → Option Source) → List Data → List FileFixes
children_fixes files cs = if has_no_alternatives files cs then flat_map (child_fixes files) cs else []

-- ---- what a row gives

-- The fixes of a message: its package, whether it is an error, the fixes by file, and the files that changed since they
-- were compiled.
pub record RowFixes : Type 0 where
  pub package_id : List ℕ
  pub grave : Bool
  pub fixes : List FileFixes
  pub stale : List (List ℕ)

-- Cargo gives the package of a line. All lines of rustc count as one package.
abbrev pub package_id_of : Data → List ℕ
package_id_of d = unwrap_or (member_text (codes "package_id") d) []

abbrev pub is_error : Severity → Bool
is_error Error = true
is_error Warning = false
is_error Advice = false

abbrev pub is_error_message : Data → Bool
is_error_message m = is_error (severity_of m)

abbrev pub message_fixes : (List ℕ → Option Source) → Data → Data → RowFixes
message_fixes files d m = record {
  package_id = package_id_of d;
  grave = is_error_message m;
  fixes = children_fixes files (member_objects (codes "children") m);
  stale = flat_map (outdated_in_child files) (member_objects (codes "children") m);
}

-- The fixes of a line with a diagnostic. `None` for a line that can't be read.
abbrev pub machine_applicable_fixes : (List ℕ → Option Source) → Data → Option (Option RowFixes)
machine_applicable_fixes files d = option_map (option_map (message_fixes files d)) (diagnostic_in d)
