-- Relations between the output before and after each part is appended, for some answers.
use Rattle.std.specs.Prelude.{◌≡◌, ℕ, Bool, ◌&&◌, List, ◌++◌, Option}
use Rattle.miette_protocol.specs.views.Meaning.{Label}
use Rattle.miette_protocol.specs.rules.Reading.{Source}
use Rattle.miette_fixes.specs.rules.Edits.{FixModel}
use Rattle.miette_tree.specs.rules.Diagnosis.{Diagnosis, Section}
use Rattle.miette_tree.specs.rules.DiagnosticParts.{given_labels}
use Rattle.miette_tree.specs.rules.Reads.{MayMeet, accepts, further_pass}
use Rattle.miette_tree.specs.rules.Tree.{Tree, Trees}
use Rattle.miette_tree.specs.rules.Answers.{AnswerTrees}
use Rattle.miette_narrated.specs.rules.Report.{Answers, snippet_rows, related_report, related_reports}
use Rattle.miette_narrated.specs.rules.Report.{blank_before, NarratedReadAnswers, further_rows, all_narrated_snippets}
use Rattle.miette_narrated.specs.rules.Report.{advice_rows}
use Rattle.miette_narrated.specs.rules.Report.{rows_below_causes}
use Rattle.miette_narrated.specs.rules.Fixes.{narrated_fix_origin, narrated_fixes_rows}
use Rattle.miette_narrated.specs.rules.PossibleAnswers.{IsAnswered, AreFurtherReads, ArePossibleReads, AreAnswers}
use Rattle.miette_narrated.specs.rules.PossibleAnswers.{AllAnswers}

-- whether all labels of a diagnostic are in bounds, over its own source and over further ones
abbrev pub labels_accepted : Option Source → Diagnosis → Bool
labels_accepted source m = accepts source (given_labels m.labels) && further_pass accepts m.snippets

-- `new` is `old` followed by the snippets of these labels, for some answers
pub record AppendsNarratedSnippets (context : ℕ) (source : Option Source) (labels : List Label) (old new : List ℕ)
    : Type 0
  where
    pub fails : List Bool
    pub possible : IsAnswered source labels fails
    pub appended : new ≡ old ++ snippet_rows context source fails labels

-- `new` is `old` followed by the snippets of further sources, for some answers
pub record AppendsFurther (context : ℕ) (sections : List Section) (old new : List ℕ) : Type 0 where
  pub fails : List (List Bool)
  pub possible : AreFurtherReads fails sections
  pub appended : new ≡ old ++ further_rows context fails sections

-- `new` is `old` followed by all snippets of a diagnostic, for some answers
pub record AppendsAll (context : ℕ) (source : Option Source) (m : Diagnosis) (old new : List ℕ) : Type 0 where
  pub answers : NarratedReadAnswers
  pub own : IsAnswered source (given_labels m.labels) answers.own
  pub further : AreFurtherReads answers.further m.snippets
  pub appended : new ≡ old ++ all_narrated_snippets context source answers m

-- `new` is `old` followed by fixes, whether or not their read failed
pub record AppendsNarratedFixes (source : Option Source) (fixes : List FixModel) (old new : List ℕ) : Type 0 where
  pub fails : Bool
  pub possible : MayMeet source fails
  pub appended : new ≡ old ++ narrated_fixes_rows (narrated_fix_origin source fails) fixes

-- `new` is `old` followed by help, fixes, code and url
pub record AppendsNarratedAdvice (source : Option Source) (m : Diagnosis) (old new : List ℕ) : Type 0 where
  pub fails : Bool
  pub possible : MayMeet source fails
  pub appended : new ≡ old ++ advice_rows source fails m

-- `new` is `old` followed by all lines of a diagnostic below its causes, for some answers
pub record AppendsBelow (context : ℕ) (source : Option Source) (m : Diagnosis) (old new : List ℕ) : Type 0 where
  pub answers : NarratedReadAnswers
  pub possible : ArePossibleReads source answers m
  pub appended : new ≡ old ++ rows_below_causes context source answers m

-- `new` is `old` followed by a related report, for some answers
pub record AppendsNarratedReport (context : ℕ) (inherited : Option Source) (t : Tree) (old new : List ℕ) : Type 0 where
  pub answers : Answers
  pub possible : AreAnswers inherited answers t
  pub appended : new ≡ old ++ related_report context inherited answers t

-- `new` is `old` followed by a blank line and related reports, for some answers
pub record AppendsNarratedRelated (context : ℕ) (inherited : Option Source) (ts : Trees) (old new : List ℕ)
    : Type 0 where
  pub answers : AnswerTrees NarratedReadAnswers
  pub possible : AllAnswers inherited answers ts
  pub appended : new ≡ old ++ (blank_before ts ++ related_reports context inherited answers ts)
