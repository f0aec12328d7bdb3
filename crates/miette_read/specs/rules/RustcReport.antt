-- The report of a message of rustc or cargo.
use Rattle.std.specs.Prelude.{ℕ, List, [], ◌∷◌, Option, Some, None, Bool, false, ◌&&◌, ◌||◌, if◌then◌else◌}
use Rattle.std.specs.Prelude.{option_and_then, option_map, is_none, is_some, unwrap_or, map, filter, bytes_eq, codes}
use Rattle.std.specs.Prelude.{◌++◌, ◌==◌, nat_eq, not}
use Rattle.std.specs.List.{ends_with, filter_map, fold, list_all, list_any, starts_with}
use Rattle.serde_json.specs.Data.{Data}
use Rattle.serde_json.specs.Find.{get}
use Rattle.miette_fixes.specs.declared.applicability.Applicability.{Applicability}
use Rattle.miette_fixes.specs.declared.applicability.Applicability.TheVariants.{MachineApplicable, MaybeIncorrect}
use Rattle.miette_fixes.specs.declared.applicability.Applicability.TheVariants.{HasPlaceholders, Unspecified}
use Rattle.miette_protocol.specs.declared.protocol.Severity.{Severity}
use Rattle.miette_protocol.specs.declared.protocol.Severity.TheVariants.{Advice, Warning, Error}
use Rattle.miette_protocol.specs.rules.Reading.{Source}
use Rattle.miette_tree.specs.rules.Tree.{Tree}
use Rattle.miette_read.specs.rules.Members.{has_list, has_text, member_object, member_objects, member_text}
use Rattle.miette_read.specs.rules.Places.{join_rows}
use Rattle.miette_read.specs.rules.SuggestedFixes.{FileEdit, Suggestion, edit_found}
use Rattle.miette_read.specs.rules.Reports.{MessageParts, report_tree}
use Rattle.miette_read.specs.rules.Rustc.{Build, build_of, edits_in_child, file_name, is_empty, is_help}
use Rattle.miette_read.specs.rules.Rustc.{message_of, rustc_location, message_annotations}
use Rattle.miette_read.specs.rules.AnnotationLabels.{file_range, label_lists, with_rows}

-- ---- which row is a message

-- The member is a text other than this one.
abbrev pub is_other_word : List ℕ → Option (List ℕ) → Bool
is_other_word word None = false
is_other_word word (Some found) = not (bytes_eq found word)

-- The line is from cargo and isn't a rustc message.
abbrev pub is_other_cargo_line : Data → Bool
is_other_cargo_line d = is_other_word (codes "compiler-message") (member_text (codes "reason") d)

-- The line is from rustc and isn't a diagnostic.
abbrev pub is_other_rustc_line : Data → Bool
is_other_rustc_line d = is_other_word (codes "diagnostic") (member_text (codes "$message_type") d)

abbrev pub level_of : Data → List ℕ
level_of d = unwrap_or (member_text (codes "level") d) []

abbrev pub code_of : Data → Option (List ℕ)
code_of d = option_and_then (member_text (codes "code")) (get (codes "code") d)

-- The message has no spans, no code and no children.
abbrev pub is_bare : Data → Bool
is_bare d =
    is_empty (member_objects (codes "spans") d) && (is_empty (member_objects (codes "children") d)
    && is_none (code_of d))

-- The message counts errors or warnings.
abbrev pub is_count_message : List ℕ → Bool
is_count_message text =
    starts_with nat_eq text (codes "aborting due to ")
    || (ends_with nat_eq text (codes " warning emitted") || ends_with nat_eq text (codes " warnings emitted"))

-- Rustc's closing messages, which only count the messages before them.
abbrev pub is_closing_message : Data → Bool
is_closing_message d = bytes_eq (level_of d) (codes "failure-note") || (is_count_message (message_of d) && is_bare d)

-- The rustc message in a line of cargo, or the line itself if it is from rustc.
abbrev pub rustc_message_in : Data → Option (List ℕ) → Option Data
rustc_message_in d None = Some d
rustc_message_in d (Some reason) = member_object (codes "message") d

abbrev pub severity_named : List ℕ → Severity
severity_named level =
    if bytes_eq level (codes "error") || bytes_eq level (codes "error: internal compiler error") then Error
    else if bytes_eq level (codes "warning") then Warning else Advice

abbrev pub severity_of : Data → Severity
severity_of d = severity_named (level_of d)

-- ---- proposals

abbrev pub applicability_by_name : List ℕ → Applicability
applicability_by_name word =
    if bytes_eq word (codes "MachineApplicable") then MachineApplicable
    else if bytes_eq word (codes "MaybeIncorrect") then MaybeIncorrect
    else if bytes_eq word (codes "HasPlaceholders") then HasPlaceholders else Unspecified

abbrev pub span_applicability : Data → Applicability
span_applicability d = applicability_by_name (unwrap_or (member_text (codes "suggestion_applicability") d) [])

abbrev pub span_edit : (List ℕ → Option Source) → Data → Option FileEdit
span_edit files d =
    option_and_then (λ text. option_map (edit_found (file_name d) text) (file_range files (rustc_location d)))
    (member_text (codes "suggested_replacement") d)

abbrev pub is_edit_found : (List ℕ → Option Source) → Data → Bool
is_edit_found files d = is_some (span_edit files d)

-- The edits of these spans, if every one is found.
abbrev pub all_span_edits : (List ℕ → Option Source) → List Data → Option (List FileEdit)
all_span_edits files ds = if list_all (is_edit_found files) ds then Some (filter_map (span_edit files) ds) else None

-- A suggestion with these edits and the applicability of its first span.
abbrev pub suggestion_of_edits : Data → Data → List FileEdit → Suggestion
suggestion_of_edits c first edits = record {
  message = message_of c;
  applicability = span_applicability first;
  edits
      = edits;
}

abbrev pub suggestion_of_spans : (List ℕ → Option Source) → Data → List Data → Option Suggestion
suggestion_of_spans files c [] = None
suggestion_of_spans files c (d ∷ ds) = option_map (suggestion_of_edits c d) (all_span_edits files (d ∷ ds))

-- The suggestion of a note or help.
abbrev pub child_suggestion : (List ℕ → Option Source) → Data → Option Suggestion
child_suggestion files c = suggestion_of_spans files c (edits_in_child c)

abbrev pub message_suggestions : (List ℕ → Option Source) → Data → List Suggestion
message_suggestions files d = filter_map (child_suggestion files) (member_objects (codes "children") d)

-- Whether a child is shown as help: a help without spans, or a suggestion that isn't found.
abbrev pub helps : (List ℕ → Option Source) → Data → Bool
helps files c =
    if is_empty (edits_in_child c) then is_help c && is_empty (member_objects (codes "spans") c) else is_none
    (child_suggestion files c)

-- Whether a text fits on a line: it is nonempty and has no line feed.
abbrev pub is_short : List ℕ → Bool
is_short [] = false
is_short (b ∷ bs) = not (list_any (λ c. c == 10) (b ∷ bs))

abbrev pub short_alone : List ℕ → Option (List ℕ)
short_alone text = if is_short text then Some text else None

abbrev pub short_text : Data → Option (List ℕ)
short_text d = option_and_then short_alone (member_text (codes "suggested_replacement") d)

-- The replacements of a suggestion that fit on a line.
abbrev pub short_texts : Data → List (List ℕ)
short_texts c = filter_map short_text (edits_in_child c)

abbrev pub quoted : List ℕ → List ℕ
quoted text = codes "`" ++ (text ++ codes "`")

abbrev pub with_further : List ℕ → List ℕ → List ℕ
with_further row text = row ++ (codes ", " ++ quoted text)

-- The line followed by these texts.
abbrev pub with_texts : List ℕ → List (List ℕ) → List ℕ
with_texts row [] = row
with_texts row (text ∷ texts) = fold with_further (row ++ (codes ": " ++ quoted text)) texts

-- The message of a help or suggestion, followed by its replacements.
abbrev pub child_help_row : Data → List ℕ
child_help_row c = with_texts (message_of c) (short_texts c)

abbrev pub help_rows : (List ℕ → Option Source) → List Data → List (List ℕ)
help_rows files children = with_rows [] (map child_help_row (filter (helps files) children))

abbrev pub message_help : (List ℕ → Option Source) → Data → Option (List ℕ)
message_help files d = join_rows (help_rows files (member_objects (codes "children") d))

-- ---- the report

abbrev pub message_parts : (List ℕ → Option Source) → Data → MessageParts
message_parts files d = record {
  message = message_of d;
  code = code_of d;
  severity = severity_of d;
  help = message_help files d;
  url = None;
}

abbrev pub message_tree : Build → Data → Tree
message_tree build d =
    report_tree (message_parts build.files d) (label_lists build.files (message_annotations build d))
    (message_suggestions build.files d)

abbrev pub maybe_report : Build → Data → Option Tree
maybe_report build d = if is_closing_message d then None else Some (message_tree build d)

-- The report of a diagnostic with a message. There is no report of closing messages and of other lines of rustc.
abbrev pub row_tree : Build → Data → Option (Option Tree)
row_tree build d =
    if is_other_rustc_line d then Some None
    else option_map (λ text. maybe_report build d) (member_text (codes "message") d)

-- `None` for a value that isn't a message of rustc or cargo. `Some None` for a line without a report.
abbrev pub rustc_tree : (List ℕ → Option Source) → Data → Option (Option Tree)
rustc_tree files d =
    if is_other_cargo_line d then Some None
    else option_and_then (row_tree (build_of files d)) (rustc_message_in d (member_text (codes "reason") d))

-- ---- all that a row says

abbrev pub maybe_tree : Option Tree → List Tree
maybe_tree None = []
maybe_tree (Some t) = t ∷ []

-- of a row of rustc or cargo that is no message there is no report
abbrev pub rustc_trees : (List ℕ → Option Source) → Data → Option (List Tree)
rustc_trees files d = option_map maybe_tree (rustc_tree files d)

-- cargo writes a reason, rustc a type of message, and older versions a list of spans and a list of notes
abbrev pub is_rustc_row : Data → Bool
is_rustc_row d = has_text (codes "reason") d
    || (has_text (codes "$message_type") d || (has_list (codes "spans") d && has_list (codes "children") d))
