-- The answers that the sources of a report can give, and its text.
use Rattle.std.specs.Prelude.{◌≡◌, ℕ, List, [], ◌∷◌, Option, Some, None}
use Rattle.std.specs.Prelude.{⊤}
use Rattle.miette_protocol.specs.views.Meaning.{Label}
use Rattle.miette_protocol.specs.rules.Reading.{Source}
use Rattle.miette_tree.specs.rules.Answers.{AnswerTrees}
use Rattle.miette_tree.specs.rules.Diagnosis.{Section}
use Rattle.miette_tree.specs.rules.Tree.{Tree, tree, Cause, diagnostic, texts, Trees, no_trees, more_trees, effective}
use Rattle.miette_tree.specs.rules.DiagnosticParts.{given_labels}
use Rattle.miette_tree.specs.rules.Reads.{MayMeet}
use Rattle.miette_labels.specs.rules.Groups.{in_order, AreInBounds}
use Rattle.miette_brief.specs.rules.Report.{BriefSettings, Answers, own_brief_answer, cause_answers, BriefReadAnswers}
use Rattle.miette_brief.specs.rules.Report.{related_answers, first_answers, later_answers}
use Rattle.miette_brief.specs.rules.Report.{brief}
use Rattle.miette_brief.specs.rules.Locations.{primary_span, source_of_span}

-- ---- answers of sources

-- all labels are in bounds of the source
abbrev pub HasAccepted : Option Source → List Label → Type 0
HasAccepted None labels = ⊤
HasAccepted (Some source) labels = AreInBounds source.bytes labels

-- all labels are in bounds of their further sources
abbrev pub FurtherAccepted : List Section → Type 0
FurtherAccepted [] = ⊤
FurtherAccepted (section ∷ sections) =
    HasAccepted (Some section.source) (in_order section.labels) × FurtherAccepted sections

-- for a cause, the read of its primary label may have failed
abbrev mutual
  pub AreCauseAnswers : Option Source → Answers → Cause → Type 0
  AreCauseAnswers inherited a (diagnostic t) = AreCausedAnswers inherited a t
  AreCauseAnswers inherited a (texts ts) = ⊤

  pub AreCausedAnswers : Option Source → Answers → Tree → Type 0
  AreCausedAnswers inherited a (tree m own c r) =
      MayMeet (source_of_span (primary_span (effective own inherited) (in_order (given_labels m.labels)) m.snippets))
      (own_brief_answer a).place × AreCauseAnswers inherited (cause_answers a) c

abbrev mutual
  pub AreAnswers : Option Source → Answers → Tree → Type 0
  AreAnswers inherited a (tree m own c r) =
      (HasAccepted (effective own inherited) (in_order (given_labels m.labels)) × FurtherAccepted m.snippets)
      × MayMeet (effective own inherited) (own_brief_answer a).place
      × AreCauseAnswers (effective own inherited) (cause_answers a) c
      × AllAnswers (effective own inherited) (related_answers a) r
      × MayMeet (effective own inherited) (own_brief_answer a).fixes

  pub AllAnswers : Option Source → AnswerTrees BriefReadAnswers → Trees → Type 0
  AllAnswers inherited more no_trees = ⊤
  AllAnswers inherited more (more_trees t ts) =
      AreAnswers inherited (first_answers more) t × AllAnswers inherited (later_answers more) ts

-- ---- the text of a report

-- a brief text of a report, for answers that its sources can give
pub record IsBrief (s : BriefSettings) (t : Tree) (text : List ℕ) : Type 0 where
  pub answers : Answers
  pub possible : AreAnswers None answers t
  pub is : text ≡ brief s t answers
