-- The brief text of a report, by settings, tree and answers.
use Rattle.std.specs.Prelude.{ℕ, Bool, true, false, List, [], ◌∷◌, ◌++◌, map, Option, Some, None}
use Rattle.miette_protocol.specs.views.Meaning.{Label}
use Rattle.miette_tree.specs.rules.Diagnosis.{Diagnosis, Section}
use Rattle.miette_protocol.specs.rules.Reading.{Source}
use Rattle.miette_tree.specs.rules.Tree.{Tree, tree, Cause, diagnostic, texts, Trees, no_trees, more_trees, effective}
use Rattle.miette_tree.specs.rules.Answers.{AnswerTree, AnswerTrees, answer_or}
pub use Rattle.miette_tree.specs.rules.Answers.{unlisted, listed, no_more, and_more, cause_answers, related_answers}
pub use Rattle.miette_tree.specs.rules.Answers.{first_answers, later_answers}
use Rattle.miette_tree.specs.rules.DiagnosticParts.{given_labels}
use Rattle.miette_labels.specs.rules.Groups.{in_order}
use Rattle.miette_brief.specs.declared.form.BriefForm.{BriefForm}
use Rattle.miette_brief.specs.declared.form.BriefForm.TheVariants.{Gcc, Github}
use Rattle.miette_brief.specs.rules.Commands.{Command, commands_text}
use Rattle.miette_brief.specs.rules.Fixes.{brief_fix_origin, brief_fixes_rows}
use Rattle.miette_brief.specs.rules.Github.{command}
use Rattle.miette_brief.specs.rules.Rows.{BriefLocation, ReportRow, told, RowKind, finding, note, cause, help}
use Rattle.miette_brief.specs.rules.Rows.{brief_rows_text}
use Rattle.miette_brief.specs.rules.Locations.{label_location, diagnostic_location, cause_location, primary_span}

-- settings of a handler: whether causes are printed, and the output format
pub record BriefSettings : Type 0 where
  pub cause_chain : Bool
  pub form : BriefForm

abbrev pub default_brief_settings : BriefSettings
default_brief_settings = record { cause_chain = true; form = Gcc }

-- ---- answers

-- Whether the reads of one diagnostic failed that don't refuse it: the read for its location (of the source's name if
-- it has no labels, of the primary label if it is a cause), and the read for its fixes.
pub record BriefReadAnswers : Type 0 where
  pub place : Bool
  pub fixes : Bool

abbrev pub no_faulty_reads : BriefReadAnswers
no_faulty_reads = record { place = false; fixes = false }

-- the answers for a report, its causes and its related reports; a read that isn't listed succeeded
abbrev pub Answers : Type 0
Answers = AnswerTree BriefReadAnswers

abbrev pub own_brief_answer : Answers → BriefReadAnswers
own_brief_answer a = answer_or no_faulty_reads a

-- ---- the rows of one diagnostic

abbrev pub diagnostic_row : BriefLocation → Diagnosis → ReportRow
diagnostic_row at m = told (record { place = at; kind = finding m.severity m.code; text = m.message })

-- a line of this kind, if there is a text
abbrev pub rows_of_kind : RowKind → BriefLocation → Option (List ℕ) → List ReportRow
rows_of_kind kind at None = []
rows_of_kind kind at (Some text) = told (record { place = at; kind = kind; text = text }) ∷ []

abbrev pub note_rows_of : BriefLocation → Option (List ℕ) → List ReportRow
note_rows_of at text = rows_of_kind note at text

abbrev pub help_rows : BriefLocation → Option (List ℕ) → List ReportRow
help_rows at text = rows_of_kind help at text

-- a line for each label that has a text
abbrev pub note_rows : Option Source → List Label → List ReportRow
note_rows source [] = []
note_rows source (label ∷ labels) = note_rows_of (label_location source label.span) label.text
    ++ note_rows source labels

-- the same for further sources, in order; labels of each by offset
abbrev pub further_notes : List Section → List ReportRow
further_notes [] = []
further_notes (section ∷ sections) =
    note_rows (Some section.source) (in_order section.labels) ++ further_notes sections

-- the labels of a diagnostic: those of its first source, then those of further ones
abbrev pub labelled_rows : Option Source → Diagnosis → List ReportRow
labelled_rows source m = note_rows source (in_order (given_labels m.labels)) ++ further_notes m.snippets

abbrev pub cause_row : BriefLocation → List ℕ → ReportRow
cause_row at text = told (record { place = at; kind = cause; text = text })

-- a line for each cause, the nearest first; each cause uses its own source, else that of the diagnostic
abbrev mutual
  pub cause_rows : BriefLocation → Option Source → Answers → Cause → List ReportRow
  cause_rows at inherited a (diagnostic t) = caused_rows at inherited a t
  cause_rows at inherited a (texts ts) = map (cause_row at) ts

  pub caused_rows : BriefLocation → Option Source → Answers → Tree → List ReportRow
  caused_rows at inherited a (tree m own c r) =
      cause_row (cause_location at (own_brief_answer a).place
      (primary_span (effective own inherited) (in_order (given_labels m.labels)) m.snippets)) m.message
      ∷ cause_rows at inherited (cause_answers a) c

-- the causes, if they are printed
abbrev pub cause_rows_if : Bool → BriefLocation → Option Source → Answers → Cause → List ReportRow
cause_rows_if true at source a c = cause_rows at source a c
cause_rows_if false at source a c = []

-- help and fixes of a diagnostic at a location; the flag says whether the read for fixes failed
abbrev pub brief_advice_rows : BriefLocation → Option Source → Bool → Diagnosis → List ReportRow
brief_advice_rows at source fails m = help_rows at m.help ++ brief_fixes_rows at (brief_fix_origin source fails) m.fixes

-- a diagnostic at a location: itself, its labels, its causes, its help, its fixes
abbrev pub brief_rows_at : Bool → BriefLocation → Option Source → Answers → Diagnosis → Cause → List ReportRow
brief_rows_at chain at source a m c =
    diagnostic_row at m
    ∷ (labelled_rows source m
    ++ (cause_rows_if chain at source (cause_answers a) c ++ brief_advice_rows at source (own_brief_answer a).fixes m))

abbrev pub own_brief_rows : Bool → Option Source → Answers → Diagnosis → Cause → List ReportRow
own_brief_rows chain source a m c =
    brief_rows_at chain (diagnostic_location source (own_brief_answer a).place (in_order (given_labels m.labels))
    m.snippets) source
    a m c

-- ---- the whole

-- a report, then each related report with its effective source
abbrev mutual
  pub report_rows : Bool → Option Source → Answers → Tree → List ReportRow
  report_rows chain inherited a (tree m own c r) =
      own_brief_rows chain (effective own inherited) a m c
      ++ related_rows chain (effective own inherited) (related_answers a) r

  pub related_rows : Bool → Option Source → AnswerTrees BriefReadAnswers → Trees → List ReportRow
  related_rows chain inherited more no_trees = []
  related_rows chain inherited more (more_trees t ts) =
      report_rows chain inherited (first_answers more) t ++ related_rows chain inherited (later_answers more) ts

-- ---- commands

abbrev pub own_command : Bool → Option Source → Answers → Diagnosis → Cause → Command
own_command chain source a m c = command chain source (own_brief_answer a).place m c

-- one command for each of these diagnostics, in the same order
abbrev mutual
  pub report_commands : Bool → Option Source → Answers → Tree → List Command
  report_commands chain inherited a (tree m own c r) =
      own_command chain (effective own inherited) a m c
      ∷ related_commands chain (effective own inherited) (related_answers a) r

  pub related_commands : Bool → Option Source → AnswerTrees BriefReadAnswers → Trees → List Command
  related_commands chain inherited more no_trees = []
  related_commands chain inherited more (more_trees t ts) =
      report_commands chain inherited (first_answers more) t ++ related_commands chain inherited (later_answers more) ts

-- ---- the text

abbrev pub brief_text_in : BriefForm → Bool → Option Source → Answers → Tree → List ℕ
brief_text_in Gcc chain inherited a t = brief_rows_text (report_rows chain inherited a t)
brief_text_in Github chain inherited a t = commands_text (report_commands chain inherited a t)

abbrev pub brief : BriefSettings → Tree → Answers → List ℕ
brief s t a = brief_text_in s.form s.cause_chain None a t
