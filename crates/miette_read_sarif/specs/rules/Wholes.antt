-- Locations without a region, which are whole files, and the source of a report.
use Rattle.std.specs.Prelude.{ℕ, List, [], ◌∷◌, ◌++◌, Option, Some, None, Bool, true, not, bytes_eq, codes, find}
use Rattle.std.specs.Prelude.{if◌then◌else◌, is_none, is_some, option_and_then, option_map}
use Rattle.std.specs.List.{filter_map, flat_map, list_all}
use Rattle.serde_json.specs.Data.{Data}
use Rattle.miette_fixes.specs.rules.Edits.{FixModel}
use Rattle.miette_protocol.specs.rules.Reading.{Source}
use Rattle.miette_read.specs.rules.Members.{member_objects, nonempty_text}
use Rattle.miette_read.specs.rules.Places.{Annotation}
use Rattle.miette_read.specs.rules.SuggestedFixes.{Suggestion}
use Rattle.miette_read.specs.rules.Reports.{MessageParts, main_fixes, report_tree}
use Rattle.miette_read.specs.rules.AnnotationLabels.{file_range, label_lists}
use Rattle.miette_tree.specs.rules.Tree.{Tree, with_fixes, with_source}
use Rattle.miette_read_sarif.specs.rules.Bases.{file_name}
use Rattle.miette_read_sarif.specs.rules.Proposals.{SuggestionDraft, found_suggestion, found_suggestions}
use Rattle.miette_read_sarif.specs.rules.Results.{RunContext, file_of, message_in, own_annotations, region_of}
use Rattle.miette_read_sarif.specs.rules.Results.{unlocated_text}
use Rattle.miette_read_sarif.specs.rules.Results.{result_annotations}

-- The file name of a location without a region.
abbrev pub whole_file : RunContext → Data → Option (List ℕ)
whole_file g l = if is_none (region_of l) then option_map (file_name g.bases) (file_of g l) else None

-- That file name, if the location has no text.
abbrev pub bare_file : RunContext → Data → Option (List ℕ)
bare_file g l = if is_none (nonempty_text (message_in g.strings l)) then whole_file g l else None

-- The annotations of a result, the names of its whole files, and the names of whole files without text.
pub record FileAnnotations : Type 0 where
  pub told : List Annotation
  pub wholes : List (List ℕ)
  pub bares : List (List ℕ)

abbrev pub locations_of : Data → List Data
locations_of r = member_objects (codes "locations") r

-- Only the result's own locations count as whole files.
abbrev pub result_file_annotations : RunContext → Data → FileAnnotations
result_file_annotations g r = record {
  told = result_annotations g r;
  wholes = filter_map (whole_file g) (locations_of r);
  bares = filter_map (bare_file g) (locations_of r ++ member_objects (codes "relatedLocations") r);
}

-- The same for a notification.
abbrev pub notification_file_annotations : RunContext → Data → FileAnnotations
notification_file_annotations g n = record {
  told = own_annotations g (locations_of n);
  wholes = filter_map (whole_file g) (locations_of n);
  bares = filter_map (bare_file g) (locations_of n);
}

-- ---- the file of a report

abbrev pub is_found : (List ℕ → Option Source) → Annotation → Bool
is_found files t = is_some (option_and_then (file_range files) t.place)

abbrev pub annotated_file : Annotation → Option (List ℕ)
annotated_file t = option_map (λ p. p.name) t.place

abbrev pub is_there : (List ℕ → Option Source) → List ℕ → Bool
is_there files name = is_some (files name)

-- The file of the first annotation whose location is found. It gets a label.
abbrev pub found_file : (List ℕ → Option Source) → FileAnnotations → Option (List ℕ)
found_file files k = option_and_then annotated_file (find (is_found files) k.told)

-- If there is none, the first whole file that is found.
abbrev pub own_whole_file : (List ℕ → Option Source) → FileAnnotations → Option (List ℕ)
own_whole_file files k = if is_some (found_file files k) then None else find (is_there files) k.wholes

abbrev pub is_other : Option (List ℕ) → List ℕ → Bool
is_other None name = true
is_other (Some main) name = not (bytes_eq main name)

-- A file name is a text, unless the first label is over that file: the snippet shows the name then.
abbrev pub file_name_annotation : Option (List ℕ) → List ℕ → List Annotation
file_name_annotation main name = if is_other main name then unlocated_text (Some name) true ∷ [] else []

abbrev pub all_annotations : (List ℕ → Option Source) → FileAnnotations → List Annotation
all_annotations files k = k.told ++ flat_map (file_name_annotation (found_file files k)) k.bares

-- ---- the report

-- All edits of a suggestion are in this file.
abbrev pub is_of : List ℕ → SuggestionDraft → Bool
is_of name d = list_all (λ e. bytes_eq e.0.name name) d.edits

abbrev pub own_suggestion : (List ℕ → Option Source) → List ℕ → SuggestionDraft → Option Suggestion
own_suggestion files name d = if is_of name d then found_suggestion files d else None

abbrev pub other_suggestion : (List ℕ → Option Source) → List ℕ → SuggestionDraft → Option Suggestion
other_suggestion files name d = if is_of name d then None else found_suggestion files d

abbrev pub fixes_over : List ℕ → List Suggestion → List FixModel
fixes_over name offers = flat_map (main_fixes (Some name)) offers

-- A report over a whole file has its suggestions as fixes. Other suggestions are advice.
abbrev pub tree_over : (List ℕ → Option Source) → MessageParts → List Annotation → List SuggestionDraft
    → Option (List ℕ × Source) → Tree
tree_over files says told ds None = report_tree says (label_lists files told) (found_suggestions files ds)
tree_over files says told ds (Some file) =
    with_fixes (fixes_over file.0 (filter_map (own_suggestion files file.0) ds))
    (with_source file.1 (report_tree says (label_lists files told) (filter_map (other_suggestion files file.0) ds)))

-- The name with its file, if it is found.
abbrev pub file_named : (List ℕ → Option Source) → List ℕ → Option (List ℕ × Source)
file_named files name = option_map (λ (source : Source). (name, source)) (files name)

-- The report of own parts, annotations and suggestions.
abbrev pub file_annotations_tree : (List ℕ → Option Source) → MessageParts → FileAnnotations → List SuggestionDraft
    → Tree
file_annotations_tree files says k ds =
    tree_over files says (all_annotations files k) ds (option_and_then (file_named files) (own_whole_file files k))
