-- The answers that the sources of a report can give, and its text.
use Rattle.std.specs.Prelude.{◌≡◌, ℕ, Bool, true, ◌&&◌, ◌||◌, List, [], ◌∷◌, Option, Some, None}
use Rattle.miette_lines.specs.rules.Lists.{is_nil}
use Rattle.miette_fixes.specs.rules.Edits.{FixModel}
use Rattle.miette_protocol.specs.views.Meaning.{Label}
use Rattle.miette_protocol.specs.rules.Reading.{Source}
use Rattle.miette_tree.specs.rules.Diagnosis.{Diagnosis, Section}
use Rattle.miette_tree.specs.rules.Tree.{Tree, tree, Trees, no_trees, more_trees, effective}
use Rattle.miette_labels.specs.rules.Answers.{NoneFails}
use Rattle.miette_labels.specs.rules.Groups.{in_order, AreInBounds}
use Rattle.miette_tree.specs.rules.Answers.{AnswerTrees}
use Rattle.miette_narrated.specs.rules.Report.{NarrationSettings, Answers, own_narrated_answer, related_answers}
use Rattle.miette_narrated.specs.rules.Report.{first_answers, later_answers, NarratedReadAnswers, first_fails}
use Rattle.miette_narrated.specs.rules.Report.{later_fails}
use Rattle.miette_narrated.specs.rules.Report.{narration}
use Rattle.miette_tree.specs.rules.DiagnosticParts.{given_labels}
use Rattle.miette_tree.specs.rules.Reads.{MayMeet}

-- ---- answers of sources

-- A source with these labels in bounds, and the group reads that failed. No read fails if the source always reads.
pub record PossibleReads (source : Source) (labels : List Label) (fails : List Bool) : Type 0 where
  pub accepted : AreInBounds source.bytes (in_order labels)
  pub always : source.always_reads ≡ true → NoneFails fails

abbrev pub IsAnswered : Option Source → List Label → List Bool → Type 0
IsAnswered None labels fails = Unit {0}
IsAnswered (Some source) labels fails = PossibleReads source labels fails

-- the same for each further source with its labels
abbrev pub AreFurtherReads : List (List Bool) → List Section → Type 0
AreFurtherReads fails [] = Unit {0}
AreFurtherReads fails (section ∷ sections) =
    PossibleReads section.source section.labels (first_fails fails) × AreFurtherReads (later_fails fails) sections

-- the same for all sources of a diagnostic
abbrev pub ArePossibleReads : Option Source → NarratedReadAnswers → Diagnosis → Type 0
ArePossibleReads source a m = IsAnswered source (given_labels m.labels) a.own × AreFurtherReads a.further m.snippets
    × MayMeet source a.fixes

abbrev mutual
  pub AreAnswers : Option Source → Answers → Tree → Type 0
  AreAnswers inherited a (tree m own c r) = ArePossibleReads (effective own inherited) (own_narrated_answer a) m
      × AllAnswers (effective own inherited) (related_answers a) r

  pub AllAnswers : Option Source → AnswerTrees NarratedReadAnswers → Trees → Type 0
  AllAnswers inherited more no_trees = Unit {0}
  AllAnswers inherited more (more_trees t ts) =
      AreAnswers inherited (first_answers more) t × AllAnswers inherited (later_answers more) ts

-- ---- where fixes are read

-- a diagnostic without fixes reads nothing for them
abbrev pub reads_for_fixes : Option Source → List FixModel → Bool
reads_for_fixes None fixes = true
reads_for_fixes (Some source) fixes = is_nil fixes || source.always_reads

-- every source that fixes of the report use always reads
abbrev mutual
  pub fixes_below : Option Source → Tree → Bool
  fixes_below inherited (tree m own c r) = reads_for_fixes (effective own inherited) m.fixes
      && all_fixes_below (effective own inherited) r

  pub all_fixes_below : Option Source → Trees → Bool
  all_fixes_below inherited no_trees = true
  all_fixes_below inherited (more_trees t ts) = fixes_below inherited t && all_fixes_below inherited ts

abbrev pub fixes_read : Tree → Bool
fixes_read t = fixes_below None t

-- ---- the text of a report

-- a narrated text of a report, for answers that its sources can give
pub record IsNarrated (s : NarrationSettings) (t : Tree) (text : List ℕ) : Type 0 where
  pub answers : Answers
  pub possible : AreAnswers None answers t
  pub is : text ≡ narration s t answers
