-- The report of a message's own parts, annotations and suggestions.
use Rattle.std.specs.Prelude.{ℕ, ◌+◌, ◌-◌, List, [], ◌∷◌, ◌++◌, Option, Some, None, Bool, false, ◌||◌, ◌==◌, map}
use Rattle.std.specs.Prelude.{filter}
use Rattle.std.specs.Prelude.{if◌then◌else◌, bytes_eq, codes}
use Rattle.std.specs.List.{flat_map, fold, list_any}
use Rattle.miette_fixes.specs.rules.Edits.{FixModel}
use Rattle.miette_protocol.specs.declared.protocol.Severity.{Severity}
use Rattle.miette_protocol.specs.declared.protocol.Severity.TheVariants.{Advice}
use Rattle.miette_protocol.specs.rules.Reading.{Source}
use Rattle.miette_protocol.specs.views.Meaning.{Label, Meaning}
use Rattle.miette_tree.specs.rules.Diagnosis.{Section, plain_diagnosis}
use Rattle.miette_tree.specs.rules.Tree.{Tree, single_report, texts, trees, with_source, with_cause, with_related}
use Rattle.miette_tree.specs.rules.Tree.{with_all_snippets, with_fixes}
use Rattle.miette_read.specs.rules.Places.{join_rows}
use Rattle.miette_read.specs.rules.SuggestedFixes.{FileEdit, Suggestion, fixes_in, is_in}
use Rattle.miette_read.specs.rules.AnnotationLabels.{FileLabel, LabelLists, main_file_name}

-- ---- labels

abbrev pub label_of : FileLabel → Label
label_of m = record {
  text = join_rows m.rows;
  span = record { offset = m.stretch.start; len = m.stretch.end - m.stretch.start };
  primary = m.primary;
  context = None;
}

abbrev pub is_listed : ℕ → FileLabel → Bool
is_listed n m = m.list == n

abbrev pub labels_in : List FileLabel → ℕ → List Label
labels_in marks n = map label_of (filter (is_listed n) marks)

-- `None` for an empty list.
abbrev pub some_labels : List Label → Option (List Label)
some_labels [] = None
some_labels (l ∷ ls) = Some (l ∷ ls)

-- The labels of further lists, starting with the given list number.
abbrev pub sections_from : List FileLabel → ℕ → List Source → List Section
sections_from marks n [] = []
sections_from marks n (s ∷ ss) = record { source = s; labels = labels_in marks n } ∷ sections_from marks (n + 1) ss

-- The files of all lists but the first.
abbrev pub further_files : List Source → List Source
further_files [] = []
further_files (s ∷ ss) = ss

abbrev pub maybe_source : List Source → Tree → Tree
maybe_source [] t = t
maybe_source (s ∷ ss) t = with_source s t

-- ---- proposals

-- The suggestion's fixes over the main file.
abbrev pub main_fixes : Option (List ℕ) → Suggestion → List FixModel
main_fixes None offer = []
main_fixes (Some main) offer = fixes_in main offer.message offer

-- The related report that advises editing another file.
abbrev pub advice : Suggestion → FileEdit → Tree
advice offer e =
    with_fixes (fixes_in e.name (codes "in " ++ e.name) offer)
    (with_source e.source (single_report (plain_diagnosis (record {
      message = offer.message;
      code = None;
      severity = Some Advice;
      help = None;
      url = None;
      labels = None;
    }))))

abbrev pub is_main : Option (List ℕ) → FileEdit → Bool
is_main None e = false
is_main (Some main) e = bytes_eq main e.name

-- The first edit of each file other than the main one.
abbrev pub with_other : Option (List ℕ) → List FileEdit → FileEdit → List FileEdit
with_other main found e = if is_main main e || list_any (is_in e.name) found then found else found ++ e ∷ []

abbrev pub first_edits_of_others : Option (List ℕ) → List FileEdit → List FileEdit
first_edits_of_others main es = fold (with_other main) [] es

abbrev pub advice_of : Option (List ℕ) → Suggestion → List Tree
advice_of main offer = map (advice offer) (first_edits_of_others main offer.edits)

-- ---- the report

-- The message's own parts.
pub record MessageParts : Type 0 where
  pub message : List ℕ
  pub code : Option (List ℕ)
  pub severity : Severity
  pub help : Option (List ℕ)
  pub url : Option (List ℕ)

abbrev pub meaning_with : MessageParts → List FileLabel → Meaning
meaning_with said marks = record {
  message = said.message;
  code = said.code;
  severity = Some said.severity;
  help = said.help;
  url = said.url;
  labels = some_labels (labels_in marks 0);
}

-- The report without its suggestions.
abbrev pub annotated_tree : MessageParts → LabelLists → Tree
annotated_tree said done =
    with_all_snippets (sections_from done.marks 1 (further_files done.files))
    (with_cause (texts done.texts) (maybe_source done.files (single_report (plain_diagnosis
    (meaning_with said done.marks)))))

abbrev pub with_suggestions : Option (List ℕ) → List Suggestion → Tree → Tree
with_suggestions main offers t =
    with_related (trees (flat_map (advice_of main) offers)) (with_fixes (flat_map (main_fixes main) offers) t)

-- The report of a message's own parts, annotations and suggestions.
abbrev pub report_tree : MessageParts → LabelLists → List Suggestion → Tree
report_tree said done offers = with_suggestions (main_file_name done.marks) offers (annotated_tree said done)
