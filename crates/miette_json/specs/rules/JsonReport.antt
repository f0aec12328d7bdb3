-- The JSON value of a report, by its tree and by how the reads for its file names went.
use Rattle.std.specs.Prelude.{◌≡◌, ℕ, Bool, false, if◌then◌else◌, List, [], ◌∷◌}
use Rattle.std.specs.Prelude.{Option, Some, None, option_map, unwrap_or, codes, ⊤}
use Rattle.miette_fixes.specs.rules.Edits.{Replacement, FixModel}
use Rattle.miette_fixes.specs.rules.Texts.{applicability_name}
use Rattle.miette_protocol.specs.views.Meaning.{Label}
use Rattle.miette_tree.specs.rules.Diagnosis.{Diagnosis, Section}
use Rattle.miette_protocol.specs.rules.Reading.{Source, Span, is_in_bounds}
use Rattle.miette_tree.specs.rules.Tree.{Tree, tree, causes_of, Trees, no_trees, more_trees, effective}
use Rattle.miette_tree.specs.rules.Answers.{AnswerTree, AnswerTrees, answer_or}
pub use Rattle.miette_tree.specs.rules.Answers.{unlisted, listed, no_more, and_more, related_answers}
pub use Rattle.miette_tree.specs.rules.Answers.{first_answers, later_answers}
use Rattle.miette_json.specs.rules.Json.{Json, number, string, array, object, Items, no_items, item, Members}
use Rattle.miette_json.specs.rules.Json.{no_members, member}
use Rattle.miette_tree.specs.rules.DiagnosticParts.{given_labels, severity_text}
use Rattle.miette_tree.specs.rules.Reads.{MayMeet}

-- ---- answers

-- whether the read for the file name failed: for the first source of a report, and for each further one
pub record NameFaults : Type 0 where
  pub own : Bool
  pub further : List Bool

abbrev pub none_met : NameFaults
none_met = record { own = false; further = [] }

-- The answers for a report and its related reports. A read that isn't listed succeeded. Causes have no file name, so
-- their answers have no effect.
abbrev pub NameAnswers : Type 0
NameAnswers = AnswerTree NameFaults

abbrev pub own_faults : NameAnswers → NameFaults
own_faults a = answer_or none_met a

-- the answer for the first of several sources, and the answers for the others
abbrev pub first_fault : List Bool → Bool
first_fault [] = false
first_fault (fault ∷ more) = fault

abbrev pub later_faults : List Bool → List Bool
later_faults [] = []
later_faults (fault ∷ more) = more

-- answers that further sources can give
abbrev pub AreFurther : List Bool → List Section → Type 0
AreFurther faults [] = ⊤
AreFurther faults (section ∷ sections) =
    MayMeet (Some section.source) (first_fault faults) × AreFurther (later_faults faults) sections

-- answers that all sources of a diagnostic can give
abbrev pub ArePossible : Option Source → NameFaults → Diagnosis → Type 0
ArePossible source faults m = MayMeet source faults.own × AreFurther faults.further m.snippets

-- answers that the sources can give
abbrev mutual
  pub AreAnswers : Option Source → NameAnswers → Tree → Type 0
  AreAnswers inherited a (tree m s c r) = ArePossible (effective s inherited) (own_faults a) m
      × AllAnswers (effective s inherited) (related_answers a) r

  pub AllAnswers : Option Source → AnswerTrees NameFaults → Trees → Type 0
  AllAnswers inherited a no_trees = ⊤
  AllAnswers inherited a (more_trees t ts) =
      AreAnswers inherited (first_answers a) t × AllAnswers inherited (later_answers a) ts

-- ---- parts of the value

-- a string member, if there is a text
abbrev pub optional_member : List ℕ → Option (List ℕ) → Members → Members
optional_member key None more = more
optional_member key (Some s) more = member key (string s) more

-- a list member, if it has an item
abbrev pub optional_list : List ℕ → Items → Members → Members
optional_list key no_items more = more
optional_list key (item v others) more = member key (array (item v others)) more

abbrev pub strings : List (List ℕ) → Items
strings [] = no_items
strings (s ∷ ss) = item (string s) (strings ss)

abbrev pub span_json : Span → Json
span_json span = object (member (codes "offset") (number span.offset)
    (member (codes "length") (number span.len) no_members))

abbrev pub label_json : Label → Json
label_json l = object (optional_member (codes "label") l.text (member (codes "span") (span_json l.span) no_members))

abbrev pub labels_json : List Label → Items
labels_json [] = no_items
labels_json (l ∷ ls) = item (label_json l) (labels_json ls)

-- The name that the source gives when the first label is read without context. It is empty if that read fails, if the
-- source has no name, or if there is no label.
abbrev pub file_name : Bool → List Label → Source → List ℕ
file_name fault [] s = []
file_name fault (l ∷ ls) s = if is_in_bounds s.bytes l.span then (if fault then [] else unwrap_or s.name []) else []

-- labels over a further source
abbrev pub section_json : Bool → Source → List Label → Json
section_json fault s labels = object (member (codes "filename") (string (file_name fault labels s))
    (member (codes "labels") (array (labels_json labels)) no_members))

abbrev pub sections_json : List Bool → List Section → Items
sections_json faults [] = no_items
sections_json faults (section ∷ sections) =
    item (section_json (first_fault faults) section.source section.labels)
    (sections_json (later_faults faults) sections)

-- edits in the given order, whether or not they can be applied
abbrev pub edit_json : Replacement → Json
edit_json edit = object (member (codes "span") (span_json edit.span)
    (member (codes "text") (string edit.text) no_members))

abbrev pub edits_json : List Replacement → Items
edits_json [] = no_items
edits_json (edit ∷ edits) = item (edit_json edit) (edits_json edits)

abbrev pub fix_json : FixModel → Json
fix_json fix = object (member (codes "message") (string fix.message)
    (member (codes "applicability") (string (applicability_name fix.applicability))
    (member (codes "edits") (array (edits_json fix.edits)) no_members)))

abbrev pub fixes_json : List FixModel → Items
fixes_json [] = no_items
fixes_json (fix ∷ fixes) = item (fix_json fix) (fixes_json fixes)

-- ---- the value

-- The object of a report with these cause texts, this file name, these objects of further sources and these of related
-- reports.
abbrev pub report_object : Diagnosis → List (List ℕ) → Option (List ℕ) → Items → Items → Json
report_object m causes name snippets related =
    object
    (member (codes "message") (string m.message)
    (optional_member (codes "code") m.code
    (member (codes "severity") (string (severity_text m.severity))
    (member (codes "causes") (array (strings causes))
    (optional_member (codes "url") m.url
    (optional_member (codes "help") m.help
    (optional_member (codes "filename") name
    (member (codes "labels") (array (labels_json (given_labels m.labels)))
    (optional_list (codes "snippets") snippets
    (optional_list (codes "fixes") (fixes_json m.fixes)
    (member (codes "related") (array related) no_members)))))))))))

abbrev mutual
  pub report_json : Option Source → NameAnswers → Tree → Json
  report_json inherited a (tree m s c r) =
      report_object m (causes_of c)
      (option_map (file_name (own_faults a).own (given_labels m.labels)) (effective s inherited))
      (sections_json (own_faults a).further m.snippets)
      (reports_json (effective s inherited) (related_answers a) r)

  pub reports_json : Option Source → AnswerTrees NameFaults → Trees → Items
  reports_json inherited a no_trees = no_items
  reports_json inherited a (more_trees t ts) =
      item (report_json inherited (first_answers a) t) (reports_json inherited (later_answers a) ts)

-- a value that a report may have, for some answers of its sources
pub record IsValueOf (t : Tree) (value : Json) : Type 0 where
  pub answers : NameAnswers
  pub possible : AreAnswers None answers t
  pub is : value ≡ report_json None answers t

-- the value of a report if the sources of its file names always read
abbrev pub value_of : Tree → Json
value_of t = report_json None unlisted t
