-- The formats of messages: which lines can hold a value of the format, which format a value has, its reports, and the
-- failures that it reports.
use Rattle.std.specs.Prelude.{ℕ, List, Option, Some, None, Bool, true, false, ◌&&◌, ◌||◌, if◌then◌else◌, bytes_eq}
use Rattle.std.specs.Prelude.{codes, not, option_and_then, unwrap_or}
use Rattle.std.specs.List.{list_any}
use Rattle.serde_json.specs.Data.{Data}
use Rattle.serde_json.specs.Find.{as_bool, get}
use Rattle.miette_protocol.specs.rules.Reading.{Source}
use Rattle.miette_tree.specs.rules.Tree.{Tree}
use Rattle.miette_read.specs.rules.Members.{member_items, member_text}
use Rattle.miette_read.specs.rules.RustcReport.{is_rustc_row, rustc_trees}
use Rattle.miette_read_gcc.specs.rules.GccReport.{gcc_trees, is_gcc_array}
use Rattle.miette_read_sarif.specs.rules.Logs.{has_sarif_runs, sarif_trees}
use Rattle.miette_read_shellcheck.specs.rules.Comments.{has_shellcheck_comments, shellcheck_trees}
use Rattle.miette_show_rows.specs.rules.Rows.{begins_array, begins_object}
use Rattle.miette_show_rows.specs.declared.verdict.Failure.{Failure}
use Rattle.miette_show_rows.specs.declared.verdict.Failure.TheVariants.{Build, Tool}
use Rattle.miette_show_rows.specs.declared.verdict.RowKind.{RowKind}
use Rattle.miette_show_rows.specs.declared.verdict.RowKind.TheVariants.{Messages, Failed}
use Rattle.miette_show.specs.declared.words.Format.{Format}
use Rattle.miette_show.specs.declared.words.Format.TheVariants.{Auto, Rustc, Gcc, Sarif, ShellCheck}

-- The format of this name.
abbrev pub format_named : List ℕ → Option Format
format_named name =
    if bytes_eq name (codes "auto") then Some Auto
    else if bytes_eq name (codes "rustc") then Some Rustc
    else if bytes_eq name (codes "gcc") then Some Gcc
    else if bytes_eq name (codes "sarif") then Some Sarif
    else if bytes_eq name (codes "shellcheck") then Some ShellCheck else None

-- Whether a line starts like a value of the format.
abbrev pub begins_message : Format → List ℕ → Bool
begins_message Auto row = begins_object row || begins_array row
begins_message Gcc row = begins_array row
begins_message from row = begins_object row

-- ---- the format of a value, where none is asked for

-- GCC's output is an array of diagnostics, which may be empty.

abbrev pub is_gcc : Format → Data → Bool
is_gcc Auto d = is_gcc_array d
is_gcc Gcc d = true
is_gcc from d = false

-- A SARIF log is an object with a list of runs.
abbrev pub is_sarif : Format → Data → Bool
is_sarif Auto d = has_sarif_runs d
is_sarif Sarif d = true
is_sarif from d = false

-- ShellCheck's output is an object with a list of comments.
abbrev pub is_shellcheck : Format → Data → Bool
is_shellcheck Auto d = has_shellcheck_comments d
is_shellcheck ShellCheck d = true
is_shellcheck from d = false

abbrev pub is_rustc : Format → Data → Bool
is_rustc Auto d = is_rustc_row d
is_rustc Rustc d = true
is_rustc from d = false

-- The reports of a value over these files. `None` for a value in none of the formats.
abbrev pub value_trees : Format → (List ℕ → Option Source) → Data → Option (List Tree)
value_trees from files d =
    if is_gcc from d then gcc_trees files d
    else if is_sarif from d then sarif_trees files d
    else if is_shellcheck from d then shellcheck_trees files d
    else if is_rustc from d then rustc_trees files d else None

-- ---- what failed

-- A missing flag doesn't count as false.
abbrev pub is_false_at : List ℕ → Data → Bool
is_false_at key d = not (unwrap_or (option_and_then as_bool (get key d)) true)

abbrev pub is_word : List ℕ → Option (List ℕ) → Bool
is_word word None = false
is_word word (Some found) = bytes_eq found word

abbrev pub ends_build : Data → Bool
ends_build d = is_word (codes "build-finished") (member_text (codes "reason") d)

-- Cargo's last line reports a failed build.
abbrev pub build_failed : Data → Bool
build_failed d = ends_build d && is_false_at (codes "success") d

abbrev pub call_failed : Data → Bool
call_failed invocation = is_false_at (codes "executionSuccessful") invocation

-- An invocation of the tool failed.
abbrev pub run_failed : Data → Bool
run_failed run = list_any call_failed (member_items (codes "invocations") run)

abbrev pub tool_failed : Data → Bool
tool_failed d = list_any run_failed (member_items (codes "runs") d)

-- A SARIF log can report a failed tool, and a line of cargo a failed build.
abbrev pub failure_of : Format → Data → Option Failure
failure_of from d =
    if is_sarif from d then (if tool_failed d then Some Tool else None)
    else if is_rustc from d && build_failed d then Some Build else None

-- The kind of a value, from the failure that it reports and whether a message is an error.
abbrev pub kind_by : Option Failure → Bool → RowKind
kind_by None grave = Messages grave
kind_by (Some what) grave = Failed what

-- ---- what is missing

-- Whether tools of this format always write a value, even without messages.
abbrev pub always_writes : Format → Bool
always_writes Auto = false
always_writes Rustc = false
always_writes Gcc = true
always_writes Sarif = true
always_writes ShellCheck = true

-- Whether such a value is missing.
abbrev pub is_missing : Format → Bool → Bool
is_missing from seen = always_writes from && not seen
