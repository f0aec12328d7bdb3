-- The reports of ShellCheck's comments (`-f json1`).
use Rattle.std.specs.Prelude.{ℕ, List, [], ◌∷◌, ◌++◌, Option, Some, None, Bool, true, if◌then◌else◌, bytes_eq, codes}
use Rattle.std.specs.Prelude.{decimal, is_some, option_and_then, option_map, unwrap_or}
use Rattle.std.specs.List.{filter_map, list_all}
use Rattle.serde_json.specs.Data.{Data}
use Rattle.serde_json.specs.Find.{get}
use Rattle.miette_fixes.specs.declared.applicability.Applicability.TheVariants.{Unspecified}
use Rattle.miette_protocol.specs.declared.protocol.Severity.{Severity}
use Rattle.miette_protocol.specs.declared.protocol.Severity.TheVariants.{Warning, Error}
use Rattle.miette_protocol.specs.rules.Reading.{Source}
use Rattle.miette_read.specs.rules.Members.{list_in, member_object, member_objects, member_text, member_number}
use Rattle.miette_read.specs.rules.MessageLists.{list_trees}
use Rattle.miette_read.specs.rules.Places.{ToolLocation, ByteRange, Annotation}
use Rattle.miette_read.specs.rules.SuggestedFixes.{FileEdit, Suggestion, edit_found}
use Rattle.miette_read.specs.rules.Reports.{MessageParts, report_tree}
use Rattle.miette_read.specs.rules.Rustc.{range_from_offsets}
use Rattle.miette_read.specs.rules.AnnotationLabels.{file_range, label_lists}
use Rattle.miette_read.specs.rules.EditMessage.{edit_message}
use Rattle.miette_tree.specs.rules.Tree.{Tree}
use Rattle.miette_read_shellcheck.specs.rules.Columns.{offset_at}

-- ---- places: a comment and a replacement tell theirs by the same members

-- The number at a key, or 0.
abbrev pub number_or_zero : List ℕ → Data → ℕ
number_or_zero key d = unwrap_or (member_number key d) 0

-- The range ends before the byte of its end column.
abbrev pub comment_range : List ℕ → Data → Option ByteRange
comment_range bytes d =
    range_from_offsets (offset_at bytes (number_or_zero (codes "line") d) (number_or_zero (codes "column") d))
    (offset_at bytes (number_or_zero (codes "endLine") d) (number_or_zero (codes "endColumn") d))

abbrev pub comment_location : (List ℕ → Option Source) → List ℕ → Data → ToolLocation
comment_location files name d = record {
  name = name;
  stretch = option_and_then (λ source. comment_range source.bytes d) (files name);
  line = number_or_zero (codes "line") d;
  column = number_or_zero (codes "column") d;
}

-- The name of a comment's file.
abbrev pub comment_file : Data → List ℕ
comment_file c = unwrap_or (member_text (codes "file") c) []

-- A comment annotates its location without text.
abbrev pub comment_annotations : (List ℕ → Option Source) → Data → List Annotation
comment_annotations files c =
    record { rows = []; place = Some (comment_location files (comment_file c) c); primary = true; own = true } ∷ []

-- ---- proposals

-- The text that a replacement writes.
abbrev pub replacement_text : Data → List ℕ
replacement_text x = unwrap_or (member_text (codes "replacement") x) []

abbrev pub replacement_edit_by : (List ℕ → Option Source) → ToolLocation → List ℕ → Option FileEdit
replacement_edit_by files p text = option_map (edit_found p.name text) (file_range files p)

abbrev pub replacement_edit : (List ℕ → Option Source) → List ℕ → Data → Option FileEdit
replacement_edit files name x = replacement_edit_by files (comment_location files name x) (replacement_text x)

abbrev pub is_replacement_found : (List ℕ → Option Source) → List ℕ → Data → Bool
is_replacement_found files name x = is_some (replacement_edit files name x)

-- The edits of these replacements, if every one is found.
abbrev pub all_replacement_edits : (List ℕ → Option Source) → List ℕ → List Data → Option (List FileEdit)
all_replacement_edits files name xs = if list_all (is_replacement_found files name) xs then Some
    (filter_map (replacement_edit files name) xs) else None

abbrev pub replacements_in : Option Data → List Data
replacements_in None = []
replacements_in (Some fix) = member_objects (codes "replacements") fix

abbrev pub replacements_of : Data → List Data
replacements_of c = replacements_in (member_object (codes "fix") c)

-- The message of a suggestion. ShellCheck gives none.
abbrev pub replacements_message : List Data → List ℕ
replacements_message [] = []
replacements_message (x ∷ []) = edit_message (replacement_text x)
replacements_message (x ∷ (y ∷ xs)) = codes "make these changes"

-- The edits of a comment's replacements.
abbrev pub comment_edits : (List ℕ → Option Source) → Data → Option (List FileEdit)
comment_edits files c = all_replacement_edits files (comment_file c) (replacements_of c)

-- A suggestion with these edits, if there are any.
abbrev pub suggestions_of_edits : List ℕ → List FileEdit → List Suggestion
suggestions_of_edits words [] = []
suggestions_of_edits words (e ∷ es) = record { message = words; applicability = Unspecified; edits = e ∷ es } ∷ []

abbrev pub suggestions_if_found : List ℕ → Option (List FileEdit) → List Suggestion
suggestions_if_found words None = []
suggestions_if_found words (Some es) = suggestions_of_edits words es

abbrev pub comment_suggestions : (List ℕ → Option Source) → Data → List Suggestion
comment_suggestions files c = suggestions_if_found (replacements_message (replacements_of c)) (comment_edits files c)

-- A suggestion that isn't found becomes help.
abbrev pub help_if_not_found : List ℕ → Option (List FileEdit) → Option (List ℕ)
help_if_not_found words None = Some words
help_if_not_found words (Some es) = None

abbrev pub comment_help : (List ℕ → Option Source) → Data → Option (List ℕ)
comment_help files c = help_if_not_found (replacements_message (replacements_of c)) (comment_edits files c)

-- ---- what is said

abbrev pub message_of : Data → List ℕ
message_of c = unwrap_or (member_text (codes "message") c) []

-- Every level other than `error` is a warning, also `info` and `style`.
abbrev pub level_severity : List ℕ → Severity
level_severity level = if bytes_eq level (codes "error") then Error else Warning

-- The text followed by the comment's code number.
abbrev pub with_code_number : List ℕ → Data → Option (List ℕ)
with_code_number text c = option_map (λ number. text ++ decimal number) (member_number (codes "code") c)

abbrev pub comment_parts : Option (List ℕ) → Data → MessageParts
comment_parts help c = record {
  message = message_of c;
  code = with_code_number (codes "SC") c;
  severity = level_severity (unwrap_or (member_text (codes "level") c) []);
  help = help;
  url = with_code_number (codes "https://www.shellcheck.net/wiki/SC") c;
}

-- ---- the reports

abbrev pub comment_tree : (List ℕ → Option Source) → Data → Tree
comment_tree files c =
    report_tree (comment_parts (comment_help files c) c) (label_lists files (comment_annotations files c))
    (comment_suggestions files c)

abbrev pub comments_of : Data → Option (List Data)
comments_of d = option_and_then list_in (get (codes "comments") d)

abbrev pub has_shellcheck_comments : Data → Bool
has_shellcheck_comments d = is_some (comments_of d)

-- ShellCheck writes one object with a list of comments.
abbrev pub shellcheck_trees : (List ℕ → Option Source) → Data → Option (List Tree)
shellcheck_trees files d = list_trees comments_of comment_tree files d
