-- A report's object and those of labels, written part by part.
use Rattle.std.proofs.Common.{◌≡◌, ℕ, List, Option, ap, ◌∙◌, codes}
use Rattle.std.specs.Prelude.{option_map}
use Rattle.miette_protocol.specs.views.Meaning.{Label}
use Rattle.miette_protocol.specs.rules.Reading.{Source}
use Rattle.miette_tree.specs.rules.DiagnosticParts.{severity_text, given_labels}
use Rattle.miette_tree.specs.rules.Tree.{Tree, tree, effective, head, source_of, cause_of, causes_of, related_of}
use Rattle.miette_json.specs.rules.Json.{string, array, object, Items, no_members, member}
use Rattle.miette_json.specs.rules.JsonReport.{NameAnswers, own_faults, related_answers, optional_member}
use Rattle.miette_json.specs.rules.JsonReport.{optional_list, strings, span_json, label_json, labels_json, file_name}
use Rattle.miette_json.specs.rules.JsonReport.{report_json, reports_json, sections_json, fixes_json}
use Rattle.miette_json.specs.rules.Writing.{JsonPrefix, opened, closed, with_key, with_value, with_optional_text}
use Rattle.miette_json.specs.steps.JsonParts.{with_optional_list, with_head, with_reasons, with_file_and_labels}
use Rattle.miette_json.specs.steps.JsonParts.{with_snippets_and_fixes}
use Rattle.miette_json.proofs.WrittenParts.{optional_written, list_written}

module _ (message_key code_key severity_key causes_key url_key help_key name_key labels_key : List ℕ)
    (snippets_key fixes_key related_key message severity : List ℕ) (code url help name : Option (List ℕ))
    (causes labels snippets fixes related : Items) (p : JsonPrefix) where
  pub parts :
      with_value (object (member message_key (string message)
      (optional_member code_key code (member severity_key (string severity) (member causes_key (array causes)
      (optional_member url_key url (optional_member help_key help (optional_member name_key name
      (member labels_key (array labels) (optional_list snippets_key snippets (optional_list fixes_key fixes
      (member related_key (array related) no_members)))))))))))) p
      ≡ closed 125 (with_value (array related) (with_key related_key
      (with_optional_list fixes_key fixes (with_optional_list snippets_key snippets
      (with_value (array labels) (with_key labels_key (with_optional_text name_key name
      (with_optional_text help_key help (with_optional_text url_key url
      (with_value (array causes) (with_key causes_key (with_value (string severity) (with_key severity_key
      (with_optional_text code_key code (with_value (string message) (with_key message_key
      (opened 123 p)))))))))))))))))
  parts = simp (optional_written, list_written)

pub label_parts : (l : Label) (p : JsonPrefix)
    → closed 125 (with_value (span_json l.span) (with_key (codes "span") (with_optional_text (codes "label") l.text
    (opened 123 p)))) ≡ with_value (label_json l) p
label_parts l p = simp optional_written

-- the object of a report, part by part
pub report_parts : (inherited : Option Source) (a : NameAnswers) (t : Tree) (p : JsonPrefix) →
    with_value (report_json inherited a t) p
    ≡ closed 125 (with_value (array (reports_json (effective (source_of t) inherited) (related_answers a)
    (related_of t))) (with_key (codes "related") (with_snippets_and_fixes (own_faults a).further (head t)
    (with_file_and_labels (own_faults a).own (effective (source_of t) inherited) (given_labels (head t).labels)
    (with_reasons (causes_of (cause_of t)) (head t) (with_head (head t) (opened 123 p)))))))
report_parts inherited a (tree m s c r) p =
    parts (codes "message") (codes "code") (codes "severity") (codes "causes") (codes "url") (codes "help")
    (codes "filename") (codes "labels") (codes "snippets") (codes "fixes") (codes "related")
    m.message (severity_text m.severity) m.code m.url m.help
    (option_map (file_name (own_faults a).own (given_labels m.labels)) (effective s inherited))
    (strings (causes_of c)) (labels_json (given_labels m.labels)) (sections_json (own_faults a).further m.snippets)
    (fixes_json m.fixes)
    (reports_json (effective s inherited) (related_answers a) r) p
