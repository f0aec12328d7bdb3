-- The suggestions of a result.
use Rattle.std.specs.Prelude.{ℕ, List, [], ◌∷◌, Option, Some, None, Bool, if◌then◌else◌, codes, is_none}
use Rattle.std.specs.Prelude.{is_some, map, option_and_then, option_map, unwrap_or}
use Rattle.std.specs.List.{filter_map, flat_map, fold, list_all}
use Rattle.serde_json.specs.Data.{Data}
use Rattle.miette_fixes.specs.declared.applicability.Applicability.TheVariants.{Unspecified}
use Rattle.miette_protocol.specs.rules.Reading.{Source}
use Rattle.miette_read.specs.rules.Members.{member_object, member_objects, nonempty_text, member_text}
use Rattle.miette_read.specs.rules.Places.{ToolLocation, join_rows}
use Rattle.miette_read.specs.rules.SuggestedFixes.{FileEdit, Suggestion, edit_found}
use Rattle.miette_read.specs.rules.AnnotationLabels.{file_range, with_row}
use Rattle.miette_read.specs.rules.EditMessage.{edit_message}
use Rattle.miette_read_sarif.specs.rules.Results.{RunContext, file_at, message_text, region_location}
use Rattle.miette_read_sarif.specs.rules.Bases.{file_name}

-- A suggestion whose locations aren't looked up yet: its message, and the texts with their locations.
pub record SuggestionDraft : Type 0 where
  pub words : List ℕ
  pub edits : List (ToolLocation × List ℕ)

-- ---- its edits

-- The text that replaces a region.
abbrev pub inserted_content : Data → List ℕ
inserted_content x = unwrap_or (option_and_then (member_text (codes "text"))
    (member_object (codes "insertedContent") x)) []

-- Without a region, a location that is never found.
abbrev pub region_location_or_none : RunContext → List ℕ → Option Data → ToolLocation
region_location_or_none g name None = record { name = name; stretch = None; line = 0; column = 0 }
region_location_or_none g name (Some region) = region_location g name region

abbrev pub replacement_in : RunContext → List ℕ → Data → ToolLocation × List ℕ
replacement_in g name x = (region_location_or_none g name (member_object (codes "deletedRegion") x), inserted_content x)

abbrev pub named : Option Data → Option Data → List ℕ
named bases None = []
named bases (Some file) = file_name bases file

-- The file name of an artifact change.
abbrev pub change_name : RunContext → Data → List ℕ
change_name g c = named g.bases (file_at g c)

abbrev pub change_edits : RunContext → Data → List (ToolLocation × List ℕ)
change_edits g c = map (replacement_in g (change_name g c)) (member_objects (codes "replacements") c)

abbrev pub draft_edits : RunContext → Data → List (ToolLocation × List ℕ)
draft_edits g f = flat_map (change_edits g) (member_objects (codes "artifactChanges") f)

-- ---- its words

-- The message of a fix without a description.
abbrev pub default_message : List (ToolLocation × List ℕ) → List ℕ
default_message [] = []
default_message (e ∷ []) = edit_message e.1
default_message (e ∷ (f ∷ es)) = codes "make these changes"

abbrev pub description : Option Data → Data → Option (List ℕ)
description strings f = nonempty_text (option_and_then (message_text strings) (member_object (codes "description") f))

abbrev pub draft_with_message : Option (List ℕ) → List (ToolLocation × List ℕ) → SuggestionDraft
draft_with_message described edits = record { words = unwrap_or described (default_message edits); edits = edits }

abbrev pub suggestion_draft : RunContext → Data → SuggestionDraft
suggestion_draft g f = draft_with_message (description g.strings f) (draft_edits g f)

abbrev pub suggestion_drafts : RunContext → Data → List SuggestionDraft
suggestion_drafts g r = map (suggestion_draft g) (member_objects (codes "fixes") r)

-- ---- what is found

abbrev pub drafted_edit : (List ℕ → Option Source) → ToolLocation × List ℕ → Option FileEdit
drafted_edit files e = option_map (edit_found e.0.name e.1) (file_range files e.0)

abbrev pub is_found : (List ℕ → Option Source) → ToolLocation × List ℕ → Bool
is_found files e = is_some (drafted_edit files e)

-- The edits, if every location is found.
abbrev pub all_drafted_edits : (List ℕ → Option Source) → List (ToolLocation × List ℕ) → Option (List FileEdit)
all_drafted_edits files es = if list_all (is_found files) es then Some (filter_map (drafted_edit files) es) else None

abbrev pub suggestion_of_found : List ℕ → List FileEdit → Suggestion
suggestion_of_found words edits = record { message = words; applicability = Unspecified; edits = edits }

abbrev pub suggestion_with_message : (List ℕ → Option Source) → List ℕ → List (ToolLocation × List ℕ)
    → Option Suggestion
suggestion_with_message files words [] = None
suggestion_with_message files words (e ∷ es) = option_map (suggestion_of_found words) (all_drafted_edits files (e ∷ es))

abbrev pub found_suggestion : (List ℕ → Option Source) → SuggestionDraft → Option Suggestion
found_suggestion files d = suggestion_with_message files d.words d.edits

abbrev pub found_suggestions : (List ℕ → Option Source) → List SuggestionDraft → List Suggestion
found_suggestions files ds = filter_map (found_suggestion files) ds

-- The help line, if it isn't empty.
abbrev pub with_help_row : List (List ℕ) → List ℕ → List (List ℕ)
with_help_row rows [] = rows
with_help_row rows (c ∷ cs) = with_row rows (c ∷ cs)

-- A suggestion that isn't found or has no edits becomes help.
abbrev pub with_help : (List ℕ → Option Source) → List (List ℕ) → SuggestionDraft → List (List ℕ)
with_help files rows d = if is_none (found_suggestion files d) then with_help_row rows d.words else rows

abbrev pub drafts_help : (List ℕ → Option Source) → List SuggestionDraft → Option (List ℕ)
drafts_help files ds = join_rows (fold (with_help files) [] ds)
