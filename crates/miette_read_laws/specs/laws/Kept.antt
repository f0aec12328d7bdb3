-- The report of a finding after its log was written and read back.
use Rattle.std.specs.Prelude.{ℕ, ◌+◌, List, [], ◌∷◌, ◌++◌, Option, Some, None, Bool, true, false, codes, map}
use Rattle.std.specs.Prelude.{if◌then◌else◌, is_none, option_map}
use Rattle.std.specs.List.{filter_map, list_any}
use Rattle.std.specs.Str.{bytes_eq}
use Rattle.indexmap.specs.IndexSet.{insert_key}
use Rattle.miette_lines.specs.rules.Lists.{is_nil}
use Rattle.miette_json.specs.rules.Json.{json_text}
use Rattle.miette_positions.specs.declared.position.Stretch.{Stretch}
use Rattle.miette_protocol.specs.rules.Reading.{Source}
use Rattle.miette_read.specs.rules.Members.{nonempty_text}
use Rattle.miette_read.specs.rules.Places as places
use Rattle.miette_read.specs.rules.Reports.{MessageParts}
use Rattle.miette_read.specs.rules.Rustc.{maybe_row}
use Rattle.miette_sarif.specs.rules.Artifacts.{Artifacts, all_named, artifacts_in, uri_of}
use Rattle.miette_sarif.specs.rules.Codes.{Rules, help_uri, is_uri_of_rule, rules_in}
use Rattle.miette_sarif.specs.rules.Findings.{SarifRegion, Finding, SarifLocation, PhysicalLocation, ApplicableFix}
use Rattle.miette_sarif.specs.rules.Findings.{ReplacementValue, SourceName}
use Rattle.miette_sarif.specs.rules.Results.{sarif_fix_value}
use Rattle.miette_read_sarif.specs.rules.Proposals.{SuggestionDraft, draft_with_message, drafts_help}
use Rattle.miette_read_sarif.specs.rules.Results.{unlocated_text, sarif_severity, whole_row}
use Rattle.miette_read_sarif.specs.rules.Uris.{uri_file_name}
use Rattle.miette_read_sarif.specs.rules.Wholes.{FileAnnotations, file_annotations_tree}
use Rattle.miette_tree.specs.rules.Tree.{Tree}
use Rattle.miette_read_laws.specs.laws.Links.{without_links}
use Rattle.miette_read_laws.specs.laws.RegionsBack.{offsets_of}

-- ---- texts

-- The text without links, if it isn't empty.
abbrev pub words : List ℕ → Option (List ℕ)
words text = nonempty_text (Some (without_links text))

-- A further line of a message: a title and a text.
abbrev pub row : List ℕ → List ℕ → List ℕ
row title text = 10 ∷ (title ++ text)

abbrev pub rows : List ℕ → List (List ℕ) → List ℕ
rows title [] = []
rows title (text ∷ texts) = row title text ++ rows title texts

abbrev pub help_row : Option (List ℕ) → List ℕ
help_row None = []
help_row (Some text) = row (codes "help: ") text

-- The line of a URL that isn't the rule's.
abbrev pub see_row : Option (List ℕ) → Option (List ℕ) → List ℕ
see_row uri None = []
see_row uri (Some url) = if is_uri_of_rule uri url then [] else row (codes "see: ") url

-- The message, followed by causes, help, fixes that can't be applied, and the URL.
abbrev pub message_rows : Rules → Finding → List ℕ
message_rows r f =
    f.message ++ (rows (codes "caused by: ") f.causes
    ++ (help_row f.help ++ (rows (codes "fix: ") f.unapplied ++ see_row (r.uri f.code) f.url)))

-- ---- what it says

-- The help URL of the rule, if the finding has a code.
abbrev pub url_kept : List Finding → List ℕ → Option (List ℕ)
url_kept fs code = if is_nil code then None else help_uri code fs

abbrev pub parts_kept : List Finding → Option (List ℕ) → Finding → MessageParts
parts_kept fs help f = record {
  message = without_links (message_rows (rules_in fs) f);
  code = nonempty_text (Some f.code);
  severity = sarif_severity f.level;
  help = help;
  url = url_kept fs f.code;
}

-- ---- places

-- The file name by which a source is looked up.
abbrev pub file_name : Artifacts → SourceName → List ℕ
file_name a s = uri_file_name (uri_of a.untitled s)

-- The location of a range, if the file is found.
abbrev pub location_kept : (List ℕ → Option Source) → List ℕ → Stretch → places.ToolLocation
location_kept files name s = record {
  name = name;
  stretch = option_map (λ source. offsets_of s) (files name);
  line = s.start.position.line + 1;
  column = s.start.position.column + 1;
}

-- A text at a range of its file. Without a range, the file name comes before the text.
abbrev pub annotation_over : (List ℕ → Option Source) → Artifacts → Bool → Option (List ℕ) → SourceName
    → Option SarifRegion
    → places.Annotation
annotation_over files a own text s None = unlocated_text (whole_row (file_name a s) text) own
annotation_over files a own text s (Some area) = record {
  rows = maybe_row text;
  place = Some (location_kept files (file_name a s) area.stretch);
  primary = true;
  own = own;
}

abbrev pub annotation_by : (List ℕ → Option Source) → Artifacts → Bool → Option (List ℕ) → Option PhysicalLocation
    → places.Annotation
annotation_by files a own text None = unlocated_text text own
annotation_by files a own text (Some p) = annotation_over files a own text p.source p.area

-- A mark, which is the finding's own (`own`) or a related one.
abbrev pub mark_kept : (List ℕ → Option Source) → Artifacts → Bool → SarifLocation → places.Annotation
mark_kept files a own m = annotation_by files a own (words m.text) m.place

abbrev pub primary_kept : (List ℕ → Option Source) → Artifacts → Option SarifLocation → List places.Annotation
primary_kept files a None = []
primary_kept files a (Some m) = mark_kept files a true m ∷ []

-- The primary mark, then the others.
abbrev pub mark_annotations_kept : (List ℕ → Option Source) → Artifacts → Finding → List places.Annotation
mark_annotations_kept files a f = primary_kept files a f.primary ++ map (mark_kept files a false) f.locations

-- ---- files as a whole

-- The file name of a place without a range.
abbrev pub whole_kept : Artifacts → Option PhysicalLocation → Option (List ℕ)
whole_kept a None = None
whole_kept a (Some p) = if is_none p.area then Some (file_name a p.source) else None

-- The file name of such a place, if the mark has no text.
abbrev pub bare_kept : Artifacts → SarifLocation → Option (List ℕ)
bare_kept a m = if is_none (words m.text) then whole_kept a m.place else None

abbrev pub mark_alone : Option SarifLocation → List SarifLocation
mark_alone None = []
mark_alone (Some m) = m ∷ []

abbrev pub annotations_kept : (List ℕ → Option Source) → Artifacts → Finding → FileAnnotations
annotations_kept files a f = record {
  told = mark_annotations_kept files a f;
  wholes = filter_map (λ (m : SarifLocation). whole_kept a m.place) (mark_alone f.primary);
  bares = filter_map (bare_kept a) (mark_alone f.primary ++ f.locations);
}

-- ---- fixes

abbrev pub edit_kept : (List ℕ → Option Source) → List ℕ → ReplacementValue → places.ToolLocation × List ℕ
edit_kept files name it = (location_kept files name it.deleted, it.text)

abbrev pub fix_kept : (List ℕ → Option Source) → Artifacts → ApplicableFix → SuggestionDraft
fix_kept files a fix = draft_with_message (words fix.message) (map (edit_kept files (file_name a fix.source))
    fix.replacements)

-- The fix, unless the same fix was written before.
abbrev pub one_first : Artifacts → List (List ℕ) → ApplicableFix → List ApplicableFix
one_first a before fix = if list_any (bytes_eq (json_text (sarif_fix_value a fix))) before then [] else fix ∷ []

-- Of fixes that are written alike, only the first one. `before` are the texts of earlier fixes.
abbrev pub first_fixes : Artifacts → List (List ℕ) → List ApplicableFix → List ApplicableFix
first_fixes a before [] = []
first_fixes a before (fix ∷ fixes) =
    one_first a before fix ++ first_fixes a (insert_key bytes_eq before (json_text (sarif_fix_value a fix))) fixes

abbrev pub fixes_kept : (List ℕ → Option Source) → Artifacts → Finding → List SuggestionDraft
fixes_kept files a f = map (fix_kept files a) (first_fixes a [] f.fixes)

-- ---- the report

abbrev pub report_with : (List ℕ → Option Source) → List Finding → Artifacts → List SuggestionDraft → Finding → Tree
report_with files fs a drafts f =
    file_annotations_tree files (parts_kept fs (drafts_help files drafts) f) (annotations_kept files a f) drafts

-- The report of one finding of a log.
abbrev pub report_kept : (List ℕ → Option Source) → List Finding → Finding → Tree
report_kept files fs f =
    let a = artifacts_in (all_named fs) in report_with files fs a (fixes_kept files a f) f
