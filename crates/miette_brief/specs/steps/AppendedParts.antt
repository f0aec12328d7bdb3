-- Relations between the output before and after each part is appended, for some answers.
use Rattle.std.specs.Prelude.{◌≡◌, ℕ, Bool, List, [], ◌∷◌, ◌++◌, Option}
use Rattle.miette_fixes.specs.rules.Edits.{FixModel}
use Rattle.miette_tree.specs.rules.Answers.{AnswerTrees}
use Rattle.miette_tree.specs.rules.Diagnosis.{Diagnosis}
use Rattle.miette_protocol.specs.rules.Reading.{Source}
use Rattle.miette_tree.specs.rules.Tree.{Tree, Cause, Trees}
use Rattle.miette_tree.specs.rules.DiagnosticParts.{given_labels}
use Rattle.miette_tree.specs.rules.Reads.{MayMeet}
use Rattle.miette_labels.specs.rules.Groups.{in_order}
use Rattle.miette_brief.specs.rules.Rows.{BriefLocation, brief_rows_text}
use Rattle.miette_brief.specs.declared.form.BriefForm.{BriefForm}
use Rattle.miette_brief.specs.declared.form.BriefForm.TheVariants.{Gcc, Github}
use Rattle.miette_brief.specs.rules.Commands.{commands_text}
use Rattle.miette_brief.specs.rules.Report.{Answers, BriefSettings, cause_answers, cause_rows_if, BriefReadAnswers}
use Rattle.miette_brief.specs.rules.Report.{diagnostic_row, own_brief_answer, own_brief_rows, related_rows}
use Rattle.miette_brief.specs.rules.Report.{labelled_rows, brief_advice_rows}
use Rattle.miette_brief.specs.rules.Report.{own_command, related_commands, brief_text_in}
use Rattle.miette_brief.specs.rules.Fixes.{brief_fix_origin, brief_fixes_rows}
use Rattle.miette_brief.specs.rules.PossibleAnswers.{HasAccepted, FurtherAccepted, AreCauseAnswers, AreAnswers}
use Rattle.miette_brief.specs.rules.PossibleAnswers.{AllAnswers}
use Rattle.miette_brief.specs.steps.Reads.{IsDiagnosticLocation}

-- `new` is `old` followed by the lines of causes, if they are printed, for some answers
pub record AppendsCauses (chain : Bool) (at : BriefLocation) (inherited : Option Source) (c : Cause) (old new : List ℕ)
    : Type 0
  where
    pub answers : Answers
    pub possible : AreCauseAnswers inherited answers c
    pub appended : new ≡ old ++ brief_rows_text (cause_rows_if chain at inherited answers c)

-- `new` is `old` followed by the line of a diagnostic at this location and the lines of its labels, which are in bounds
pub record AppendsLabelled (source : Option Source) (m : Diagnosis) (at : BriefLocation) (old new : List ℕ)
    : Type 0 where
  pub placed : IsDiagnosticLocation source (in_order (given_labels m.labels)) m.snippets at
  pub accepted : HasAccepted source (in_order (given_labels m.labels)) × FurtherAccepted m.snippets
  pub appended : new ≡ old ++ brief_rows_text (diagnostic_row at m ∷ labelled_rows source m)

-- `new` is `old` followed by the fixes of a diagnostic at a location, whether or not their read failed
pub record AppendsBriefFixes (at : BriefLocation) (source : Option Source) (fixes : List FixModel) (old new : List ℕ)
    : Type 0
  where
    pub fails : Bool
    pub possible : MayMeet source fails
    pub appended : new ≡ old ++ brief_rows_text (brief_fixes_rows at (brief_fix_origin source fails) fixes)

-- `new` is `old` followed by help and fixes of a diagnostic at a location
pub record AppendsBriefAdvice (at : BriefLocation) (source : Option Source) (m : Diagnosis) (old new : List ℕ)
    : Type 0 where
  pub fails : Bool
  pub possible : MayMeet source fails
  pub appended : new ≡ old ++ brief_rows_text (brief_advice_rows at source fails m)

-- a diagnostic with its causes, in an output format
abbrev pub own_text : BriefForm → Bool → Option Source → Answers → Diagnosis → Cause → List ℕ
own_text Gcc chain source a m c = brief_rows_text (own_brief_rows chain source a m c)
own_text Github chain source a m c = commands_text (own_command chain source a m c ∷ [])

-- related reports, in an output format
abbrev pub related_text : BriefForm → Bool → Option Source → AnswerTrees BriefReadAnswers → Trees → List ℕ
related_text Gcc chain inherited a ts = brief_rows_text (related_rows chain inherited a ts)
related_text Github chain inherited a ts = commands_text (related_commands chain inherited a ts)

-- `new` is `old` followed by a diagnostic with its causes, for some answers
pub record AppendsBriefDiagnostic (s : BriefSettings) (source : Option Source) (m : Diagnosis) (c : Cause)
    (old new : List ℕ)
    : Type 0 where
  pub answers : Answers
  pub accepted : HasAccepted source (in_order (given_labels m.labels)) × FurtherAccepted m.snippets
  pub possible : MayMeet source (own_brief_answer answers).place
  pub causes : AreCauseAnswers source (cause_answers answers) c
  pub fixes : MayMeet source (own_brief_answer answers).fixes
  pub appended : new ≡ old ++ own_text s.form s.cause_chain source answers m c

-- `new` is `old` followed by a report, for some answers
pub record AppendsBriefReport (s : BriefSettings) (inherited : Option Source) (t : Tree) (old new : List ℕ)
    : Type 0 where
  pub answers : Answers
  pub possible : AreAnswers inherited answers t
  pub appended : new ≡ old ++ brief_text_in s.form s.cause_chain inherited answers t

-- `new` is `old` followed by related reports, for some answers
pub record AppendsBriefRelated (s : BriefSettings) (inherited : Option Source) (ts : Trees) (old new : List ℕ) : Type 0
  where
    pub answers : AnswerTrees BriefReadAnswers
    pub possible : AllAnswers inherited answers ts
    pub appended : new ≡ old ++ related_text s.form s.cause_chain inherited answers ts
