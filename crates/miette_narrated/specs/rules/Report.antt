-- The narrated text of a report, by settings, tree and answers.
use Rattle.std.specs.Prelude.{ℕ, Bool, true, false, List, [], ◌∷◌, ◌++◌, Option, Some, None, codes}
use Rattle.miette_protocol.specs.views.Meaning.{Label}
use Rattle.miette_tree.specs.rules.Diagnosis.{Diagnosis, Section}
use Rattle.miette_protocol.specs.rules.Reading.{Source}
use Rattle.miette_protocol.specs.declared.protocol.Severity.{Severity}
use Rattle.miette_tree.specs.rules.Tree.{Tree, tree, causes_of, Trees, no_trees, more_trees, effective}
use Rattle.miette_tree.specs.rules.Answers.{AnswerTree, AnswerTrees, answer_or}
pub use Rattle.miette_tree.specs.rules.Answers.{unlisted, listed, no_more, and_more, related_answers}
pub use Rattle.miette_tree.specs.rules.Answers.{first_answers, later_answers}
use Rattle.miette_narrated.specs.rules.Labels.{row}
use Rattle.miette_narrated.specs.rules.Fixes.{narrated_fix_origin, narrated_fixes_rows}
use Rattle.miette_narrated.specs.rules.Snippets.{snippets}
use Rattle.miette_tree.specs.rules.DiagnosticParts.{given_labels, severity_text, severity_title}

-- settings of a handler: whether the report's causes are printed, the context lines, and the last line
pub record NarrationSettings : Type 0 where
  pub cause_chain : Bool
  pub context_lines : ℕ
  pub footer : Option (List ℕ)

abbrev pub default_narration_settings : NarrationSettings
default_narration_settings = record { cause_chain = true; context_lines = 1; footer = None }

-- ---- answers

-- whether each group read failed, for the first source and for each further one, and whether the read for fixes failed
pub record NarratedReadAnswers : Type 0 where
  pub own : List Bool
  pub further : List (List Bool)
  pub fixes : Bool

abbrev pub no_failed_reads : NarratedReadAnswers
no_failed_reads = record { own = []; further = []; fixes = false }

-- The answers to the reads of a report and of its related reports. Causes read nothing. A read that isn't listed
-- succeeds.
abbrev pub Answers : Type 0
Answers = AnswerTree NarratedReadAnswers

abbrev pub own_narrated_answer : Answers → NarratedReadAnswers
own_narrated_answer a = answer_or no_failed_reads a

-- the answer for the first of several sources, and the answers for the others
abbrev pub first_fails : List (List Bool) → List Bool
first_fails [] = []
first_fails (fails ∷ more) = fails

abbrev pub later_fails : List (List Bool) → List (List Bool)
later_fails [] = []
later_fails (fails ∷ more) = more

-- ---- parts

abbrev pub severity_row : Option Severity → List ℕ
severity_row severity = row (codes "    Diagnostic severity: " ++ severity_text severity)

-- the outermost report's head: its message and its severity
abbrev pub head_rows : Diagnosis → List ℕ
head_rows m = row m.message ++ severity_row m.severity

-- a related report's head: title and message, severity, and a blank line
abbrev pub related_head_rows : Diagnosis → List ℕ
related_head_rows m = row (severity_title m.severity ++ m.message) ++ (severity_row m.severity ++ row [])

abbrev pub cause_rows : List (List ℕ) → List ℕ
cause_rows [] = []
cause_rows (text ∷ texts) = row (codes "    Caused by: " ++ text) ++ cause_rows texts

abbrev pub causes_if : Bool → List (List ℕ) → List ℕ
causes_if true texts = cause_rows texts
causes_if false texts = []

-- a line with these words and a text, if there is a text
abbrev pub row_if : List ℕ → Option (List ℕ) → List ℕ
row_if words None = []
row_if words (Some text) = row (words ++ text)

abbrev pub url_rows : Option (List ℕ) → List ℕ
url_rows None = []
url_rows (Some url) = row (codes "For more details, see:") ++ row url

-- help, fixes, code and url
abbrev pub advice_rows : Option Source → Bool → Diagnosis → List ℕ
advice_rows source fails m = row_if (codes "diagnostic help: ") m.help
    ++ (narrated_fixes_rows (narrated_fix_origin source fails) m.fixes
    ++ (row_if (codes "diagnostic code: ") m.code ++ url_rows m.url))

-- the snippets of a source; none without one
abbrev pub snippet_rows : ℕ → Option Source → List Bool → List Label → List ℕ
snippet_rows context None fails labels = []
snippet_rows context (Some source) fails labels = snippets context source fails labels

-- the snippets of further sources, in order, each rendered separately
abbrev pub further_rows : ℕ → List (List Bool) → List Section → List ℕ
further_rows context fails [] = []
further_rows context fails (section ∷ sections) =
    snippets context section.source (first_fails fails) section.labels
    ++ further_rows context (later_fails fails) sections

-- the snippets of the first source, then those of each further one
abbrev pub all_narrated_snippets : ℕ → Option Source → NarratedReadAnswers → Diagnosis → List ℕ
all_narrated_snippets context source a m =
    snippet_rows context source a.own (given_labels m.labels) ++ further_rows context a.further m.snippets

-- snippets, help, fixes, code and url
abbrev pub rows_below_causes : ℕ → Option Source → NarratedReadAnswers → Diagnosis → List ℕ
rows_below_causes context source a m = all_narrated_snippets context source a m ++ advice_rows source a.fixes m

-- a blank line if there are related reports
abbrev pub blank_before : Trees → List ℕ
blank_before no_trees = []
blank_before (more_trees t ts) = row []

-- ---- the whole

-- related reports: title, message, severity, causes, snippets, help, fixes, code, url, and their own related reports;
-- each with its effective source
abbrev mutual
  pub related_report : ℕ → Option Source → Answers → Tree → List ℕ
  related_report context inherited a (tree m own c r) =
      related_head_rows m ++ (cause_rows (causes_of c)
      ++ (rows_below_causes context (effective own inherited) (own_narrated_answer a) m
      ++ (blank_before r ++ related_reports context (effective own inherited) (related_answers a) r)))

  pub related_reports : ℕ → Option Source → AnswerTrees NarratedReadAnswers → Trees → List ℕ
  related_reports context inherited more no_trees = []
  related_reports context inherited more (more_trees t ts) =
      related_report context inherited (first_answers more) t
      ++ related_reports context inherited (later_answers more) ts

-- the outermost report: message, severity, causes if they are printed, snippets, help, fixes, code, url, related
-- reports, and the last line
abbrev pub narration : NarrationSettings → Tree → Answers → List ℕ
narration s (tree m own c r) a =
    head_rows m ++ (causes_if s.cause_chain (causes_of c)
    ++ (rows_below_causes s.context_lines own (own_narrated_answer a) m
    ++ ((blank_before r ++ related_reports s.context_lines own (related_answers a) r) ++ row_if [] s.footer)))
