-- Relations between the text before and after each part of a report is written.
use Rattle.std.specs.Prelude.{◌≡◌, ℕ, Bool, List, Option, Some, option_map, codes}
use Rattle.miette_protocol.specs.views.Meaning.{Label}
use Rattle.miette_tree.specs.rules.Diagnosis.{Diagnosis, Section}
use Rattle.miette_protocol.specs.rules.Reading.{Source}
use Rattle.miette_tree.specs.rules.Tree.{Tree, Trees}
use Rattle.miette_tree.specs.rules.Answers.{AnswerTrees}
use Rattle.miette_json.specs.rules.Json.{string, array, Items, no_items, item}
use Rattle.miette_json.specs.rules.JsonReport.{NameAnswers, NameFaults, AreAnswers, AllAnswers, AreFurther}
use Rattle.miette_json.specs.rules.JsonReport.{strings, labels_json, file_name, report_json, reports_json}
use Rattle.miette_json.specs.rules.JsonReport.{section_json, sections_json, fixes_json}
use Rattle.miette_json.specs.rules.Writing.{JsonPrefix, with_key, with_optional_text, with_value}
use Rattle.miette_tree.specs.rules.DiagnosticParts.{severity_text}
use Rattle.miette_tree.specs.rules.Reads.{MayMeet}

-- a report was written, for some answers
pub record AppendsJsonReport (inherited : Option Source) (t : Tree) (old new : JsonPrefix) : Type 0 where
  pub answers : NameAnswers
  pub possible : AreAnswers inherited answers t
  pub written : new ≡ with_value (report_json inherited answers t) old

-- the list of related reports was written, for some answers
pub record AppendsJsonRelated (inherited : Option Source) (ts : Trees) (old new : JsonPrefix) : Type 0 where
  pub answers : AnswerTrees NameFaults
  pub possible : AllAnswers inherited answers ts
  pub written : new ≡ with_value (array (reports_json inherited answers ts)) old

-- the file name of a source, if there is one, for some answer of the source
pub record NamesFile (source : Option Source) (labels : List Label) (name : Option (List ℕ)) : Type 0 where
  pub fault : Bool
  pub possible : MayMeet source fault
  pub is : name ≡ option_map (file_name fault labels) source

-- a list member, if the list has an item
abbrev pub with_optional_list : List ℕ → Items → JsonPrefix → JsonPrefix
with_optional_list key no_items p = p
with_optional_list key (item v more) p = with_value (array (item v more)) (with_key key p)

-- message, code and severity
abbrev pub with_head : Diagnosis → JsonPrefix → JsonPrefix
with_head m p =
    with_value (string (severity_text m.severity)) (with_key (codes "severity")
    (with_optional_text (codes "code") m.code (with_value (string m.message) (with_key (codes "message") p))))

-- causes, url and help
abbrev pub with_reasons : List (List ℕ) → Diagnosis → JsonPrefix → JsonPrefix
with_reasons causes m p =
    with_optional_text (codes "help") m.help (with_optional_text (codes "url") m.url
    (with_value (array (strings causes)) (with_key (codes "causes") p)))

-- the file name and the labels
abbrev pub with_file_and_labels : Bool → Option Source → List Label → JsonPrefix → JsonPrefix
with_file_and_labels fault source labels p =
    with_value (array (labels_json labels)) (with_key (codes "labels")
    (with_optional_text (codes "filename") (option_map (file_name fault labels) source) p))

-- the file name and the labels were written, for some answer of the source
pub record AppendsFileAndLabels (source : Option Source) (labels : List Label) (old new : JsonPrefix) : Type 0 where
  pub fault : Bool
  pub possible : MayMeet source fault
  pub written : new ≡ with_file_and_labels fault source labels old

-- a further source was written, for some answer of it
pub record AppendsSection (source : Source) (labels : List Label) (old new : JsonPrefix) : Type 0 where
  pub fault : Bool
  pub possible : MayMeet (Some source) fault
  pub written : new ≡ with_value (section_json fault source labels) old

-- the list of further sources was written, for some answers
pub record AppendsSections (sections : List Section) (old new : JsonPrefix) : Type 0 where
  pub faults : List Bool
  pub possible : AreFurther faults sections
  pub written : new ≡ with_value (array (sections_json faults sections)) old

-- the member of further sources was written, if there are any, for some answers
pub record AppendsJsonSnippets (sections : List Section) (old new : JsonPrefix) : Type 0 where
  pub faults : List Bool
  pub possible : AreFurther faults sections
  pub written : new ≡ with_optional_list (codes "snippets") (sections_json faults sections) old

-- further sources and fixes, each if there are any
abbrev pub with_snippets_and_fixes : List Bool → Diagnosis → JsonPrefix → JsonPrefix
with_snippets_and_fixes faults m p =
    with_optional_list (codes "fixes") (fixes_json m.fixes)
    (with_optional_list (codes "snippets") (sections_json faults m.snippets) p)

-- further sources and fixes were written, for some answers
pub record AppendsSnippetsAndFixes (m : Diagnosis) (old new : JsonPrefix) : Type 0 where
  pub faults : List Bool
  pub possible : AreFurther faults m.snippets
  pub written : new ≡ with_snippets_and_fixes faults m old
