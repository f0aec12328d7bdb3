-- Which answers the sources and the highlighter may give, and the texts of a report under such answers.
use Rattle.std.specs.Prelude.{◌≡◌, ℕ, Bool, true, false, List, [], ◌∷◌, drop, length, Option, Some, None, is_some}
use Rattle.std.specs.Prelude.{encode_utf8_all}
use Rattle.miette_protocol.specs.views.Meaning.{Label}
use Rattle.miette_tree.specs.rules.Diagnosis.{Diagnosis}
use Rattle.miette_protocol.specs.rules.Reading.{Source}
use Rattle.miette_tree.specs.rules.Tree.{Tree, tree, Cause, diagnostic, texts, Trees, no_trees, more_trees}
use Rattle.miette_graphical_rules.specs.rules.GraphicalSettings.{GraphicalSettings}
use Rattle.miette_graphical_rules.specs.rules.Answers.{DiagnosticAnswer, Answers, RelatedAnswers, SourceAnswer}
use Rattle.miette_graphical_rules.specs.rules.Answers.{SourceAnswers}
use Rattle.miette_graphical_rules.specs.rules.Answers.{first_source, pieces_listed, own_answer}
use Rattle.miette_graphical_rules.specs.rules.Answers.{cause_answers, related_answers, first_answers, later_answers}
use Rattle.miette_graphical_rules.specs.rules.DiagnosticText.{Drawing}
use Rattle.miette_graphical_rules.specs.rules.Sources.{LabelledSource, reads_for, snippets_after, snippets_with}
use Rattle.miette_graphical_rules.specs.rules.Sources.{sources_of}
use Rattle.miette_snippet_rules.specs.rules.SnippetSettings as snippets
use Rattle.miette_labels.specs.rules.Around.{group_context}
use Rattle.miette_labels.specs.rules.Groups.{in_order, groups_of}
use Rattle.miette_highlight.specs.rules.HighlighterCalls.{Call}
use Rattle.miette_snippet_rules.specs.rules.Highlighting.{SnippetsHavePieces}
use Rattle.miette_snippet_rules.specs.rules.SnippetLayout.{end_lines, rows_of_labels}
use Rattle.miette_tree.specs.views.Handler.{AppendsOne}
use Rattle.miette_tree.specs.rules.Reads.{always_reads}
use Rattle.miette_graphical_rules.specs.rules.Snippets.{snippet_settings}
use Rattle.miette_graphical_rules.specs.rules.Calls.{report_calls}
use Rattle.miette_graphical_rules.specs.rules.Text.{report_text}
use Rattle.miette_tree.specs.rules.Tree.{effective}

-- ---- Answers that the sources and the highlighter may give. A source that always reads never fails. The pieces of
-- each line make up its text, and there are none if lines stay plain. The positions of all snippets could be read,
-- since otherwise nothing is printed.

-- there are rows with these snippet settings
abbrev pub HasRows : snippets.SnippetSettings → Option Source → List Label → SourceAnswer → Type 0
HasRows l None labels a = Unit {0}
HasRows l (Some source) labels a = is_some (rows_of_labels l source labels a) ≡ true

-- the pieces belong to the lines of the snippets
abbrev pub HasPieces : snippets.SnippetSettings → Bool → Option Source → List Label → SourceAnswer → Type 0
HasPieces l blank None labels a = Unit {0}
HasPieces l blank (Some source) labels a =
    SnippetsHavePieces (group_context (end_lines l.layout a.end_fails source labels) (in_order labels)) blank source
    (groups_of (end_lines l.layout a.end_fails source labels) source a.join_fails (in_order labels)) a.pieces

-- for labels over a source; the flags say whether lines stay plain and whether every read succeeds
pub record IsAnswerOf (l : snippets.SnippetSettings) (blank : Bool) (source : Option Source) (labels : List Label)
    (reads : Bool) (a : SourceAnswer) : Type 0 where
  pub read : reads ≡ true → a ≡ pieces_listed a.pieces
  pub plain : blank ≡ true → a.pieces ≡ []
  pub pieces : HasPieces l blank source labels a
  pub rows : HasRows l source labels a

-- for labels over several sources, in order
abbrev pub AreAnswersOver : snippets.SnippetSettings → Bool → List LabelledSource → SourceAnswers → Type 0
AreAnswersOver l blank [] a = Unit {0}
AreAnswersOver l blank (it ∷ more) a =
    IsAnswerOf l blank it.source it.labels (always_reads it.source it.labels) (first_source a)
    × AreAnswersOver (snippets_after (length it.labels) l) blank more (drop 1 a)

-- for a diagnostic
pub record IsAnswer (l : snippets.SnippetSettings) (blank : Bool) (source : Option Source) (m : Diagnosis)
    (a : DiagnosticAnswer)
    : Type 0 where
  pub sources : AreAnswersOver (snippets_with m.snippets l) blank (sources_of source m) a.sources
  pub fixes : reads_for source m.fixes ≡ true → a.fixes_fail ≡ false

abbrev mutual
  pub AreCauseAnswers : snippets.SnippetSettings → Bool → Option Source → Cause → Answers → Type 0
  AreCauseAnswers l blank inherited (texts ts) a = Unit {0}
  AreCauseAnswers l blank inherited (diagnostic (tree m own c r)) a =
      IsAnswer l blank (effective own inherited) m (own_answer a)
      × AreRelatedAnswers l blank (effective own inherited) r (related_answers a)
      × AreCauseAnswers l blank inherited c (cause_answers a)

  pub AreRelatedAnswers : snippets.SnippetSettings → Bool → Option Source → Trees → RelatedAnswers → Type 0
  AreRelatedAnswers l blank inherited no_trees more = Unit {0}
  AreRelatedAnswers l blank inherited (more_trees (tree m own c r) ts) more =
      IsAnswer l blank (effective own inherited) m (own_answer (first_answers more))
      × AreCauseAnswers l blank (effective own inherited) c (cause_answers (first_answers more))
      × AreRelatedAnswers l blank (effective own inherited) r (related_answers (first_answers more))
      × AreRelatedAnswers l blank inherited ts (later_answers more)

abbrev pub AreAnswers : GraphicalSettings → Bool → Tree → Answers → Type 0
AreAnswers s blank (tree m own c r) a =
    IsAnswer (snippet_settings s) blank own m (own_answer a)
    × (s.cause_chain ≡ true → AreCauseAnswers (snippet_settings s) blank own c (cause_answers a))
    × AreRelatedAnswers (snippet_settings s) blank own r (related_answers a)

-- ---- a whole report

-- under answers that a highlighter gave by calls that happen
abbrev pub IsReportByCalls : Drawing → GraphicalSettings → Bool → (List Call → Type 0) → Tree → List ℕ → Type 0
IsReportByCalls drawing s blank happen t text =
    (a : Answers) × AreAnswers s blank t a × happen (report_calls s t a) × (text ≡ report_text drawing s t a)

abbrev pub IsReport : Drawing → GraphicalSettings → Bool → Tree → List ℕ → Type 0
IsReport drawing s blank t text = (a : Answers) × AreAnswers s blank t a × (text ≡ report_text drawing s t a)

-- the bytes of a report
abbrev pub IsTextByCalls : Drawing → GraphicalSettings → Bool → (List Call → Type 0) → Tree → List ℕ → Type 0
IsTextByCalls drawing s blank happen t bytes =
    (text : List ℕ) × IsReportByCalls drawing s blank happen t text × (bytes ≡ encode_utf8_all text)

abbrev pub IsTextOf : Drawing → GraphicalSettings → Bool → Tree → List ℕ → Type 0
IsTextOf drawing s blank t bytes = (text : List ℕ) × IsReport drawing s blank t text × (bytes ≡ encode_utf8_all text)

-- a report is appended
abbrev pub Appends : Drawing → GraphicalSettings → Bool → Tree → List ℕ → List ℕ → Type 0
Appends drawing s blank t old new = AppendsOne (IsTextOf drawing s blank t) old new
