-- The answers of sources. Each source of a report is read once, as a whole.
use Rattle.std.specs.Prelude.{Bool, false, List, [], ◌∷◌, Option, ⊤}
use Rattle.miette_json.specs.rules.JsonReport.{AreFurther}
use Rattle.miette_protocol.specs.rules.Reading.{Source}
use Rattle.miette_tree.specs.rules.Answers.{AnswerTree, AnswerTrees, answer_or, related_answers, first_answers}
use Rattle.miette_tree.specs.rules.Answers.{later_answers}
use Rattle.miette_tree.specs.rules.Diagnosis.{Section}
use Rattle.miette_tree.specs.rules.Reads.{MayMeet}
use Rattle.miette_tree.specs.rules.Tree.{Tree, tree, Cause, diagnostic, texts, Trees, no_trees, more_trees}

-- whether the read failed: of the report's own source, and of each further one
pub record Faults : Type 0 where
  pub own : Bool
  pub further : List Bool

abbrev pub no_faults : Faults
no_faults = record { own = false; further = [] }

-- the failures for a report, and for each of its causes, the nearest first
pub record SourceFaults : Type 0 where
  pub report : Faults
  pub causes : List Faults

abbrev pub no_source_faults : SourceFaults
no_source_faults = record { report = no_faults; causes = [] }

-- the failures for a report and its related reports; a read that isn't listed succeeded
abbrev pub SourceAnswers : Type 0
SourceAnswers = AnswerTree SourceFaults

abbrev pub RelatedSourceAnswers : Type 0
RelatedSourceAnswers = AnswerTrees SourceFaults

abbrev pub first_faults : List Faults → Faults
first_faults [] = no_faults
first_faults (faults ∷ more) = faults

abbrev pub later_causes : List Faults → List Faults
later_causes [] = []
later_causes (faults ∷ more) = more

-- the failures that the sources of a report can have
abbrev pub ArePossibleFaults : Faults → Option Source → List Section → Type 0
ArePossibleFaults faults own sections = MayMeet own faults.own × AreFurther faults.further sections

abbrev pub AreOfCauses : List Faults → Cause → Type 0
AreOfCauses faults (texts ts) = ⊤
AreOfCauses faults (diagnostic (tree m s c r)) =
    ArePossibleFaults (first_faults faults) s m.snippets × AreOfCauses (later_causes faults) c

abbrev mutual
  pub AreAnswers : SourceAnswers → Tree → Type 0
  AreAnswers a (tree m s c r) = ArePossibleFaults (answer_or no_source_faults a).report s m.snippets
      × AreOfCauses (answer_or no_source_faults a).causes c × AllAnswers (related_answers a) r

  pub AllAnswers : RelatedSourceAnswers → Trees → Type 0
  AllAnswers a no_trees = ⊤
  AllAnswers a (more_trees t ts) = AreAnswers (first_answers a) t × AllAnswers (later_answers a) ts
