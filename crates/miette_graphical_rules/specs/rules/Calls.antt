-- The calls on a highlighter for a report, in drawing order. Each diagnostic with labels over a source makes the calls
-- of its snippets (`calls_of_labels`). Fixes make no calls. A report's causes come before its own snippets, its related
-- reports after them.
use Rattle.std.specs.Prelude.{Bool, if◌then◌else◌, List, [], ◌∷◌, ◌++◌, drop, Option, Some, None}
use Rattle.miette_tree.specs.rules.Diagnosis.{Diagnosis}
use Rattle.miette_protocol.specs.rules.Reading.{Source}
use Rattle.miette_highlight.specs.rules.HighlighterCalls.{Call}
use Rattle.miette_snippet_rules.specs.declared.options.LayoutOptions.{LayoutOptions}
use Rattle.miette_snippet_rules.specs.rules.Highlighting.{calls_of_labels}
use Rattle.miette_protocol.specs.views.Meaning.{Label}
use Rattle.miette_graphical_rules.specs.rules.Sources.{LabelledSource, layout_with, sources_of}
use Rattle.miette_tree.specs.rules.Tree.{effective, Tree, tree, Cause, diagnostic, texts, Trees, no_trees, more_trees}
use Rattle.miette_graphical_rules.specs.rules.GraphicalSettings.{GraphicalSettings}
use Rattle.miette_graphical_rules.specs.rules.Answers.{DiagnosticAnswer, Answers, RelatedAnswers, SourceAnswer}
use Rattle.miette_graphical_rules.specs.rules.Answers.{SourceAnswers}
use Rattle.miette_graphical_rules.specs.rules.Answers.{first_source, own_answer, cause_answers}
use Rattle.miette_graphical_rules.specs.rules.Answers.{related_answers, first_answers, later_answers}

-- for the snippets of labels, if there is a source
abbrev pub source_calls : LayoutOptions → Option Source → List Label → SourceAnswer → List Call
source_calls layout None labels a = []
source_calls layout (Some source) labels a = calls_of_labels layout source labels a

-- for the snippets of a diagnostic, by its sources
abbrev pub calls_over : LayoutOptions → List LabelledSource → SourceAnswers → List Call
calls_over layout [] a = []
calls_over layout (it ∷ more) a =
    source_calls layout it.source it.labels (first_source a) ++ calls_over layout more (drop 1 a)

abbrev pub own_calls : LayoutOptions → Option Source → Diagnosis → DiagnosticAnswer → List Call
own_calls layout source m a = calls_over (layout_with m.snippets layout) (sources_of source m) a.sources

abbrev mutual
  -- for the causes of a report, each with its related reports
  pub cause_calls : LayoutOptions → Bool → Option Source → Cause → Answers → List Call
  cause_calls layout nested inherited (texts ts) a = []
  cause_calls layout nested inherited (diagnostic (tree m own c r)) a =
      own_calls layout (effective own inherited) m (own_answer a)
      ++ related_calls layout nested (effective own inherited) r (related_answers a)
      ++ cause_calls layout nested inherited c (cause_answers a)

  -- for its related reports, each with its causes if it isn't nested
  pub related_calls : LayoutOptions → Bool → Option Source → Trees → RelatedAnswers → List Call
  related_calls layout nested inherited no_trees more = []
  related_calls layout nested inherited (more_trees (tree m own c r) ts) more =
      (if nested then [] else cause_calls layout nested (effective own inherited) c
      (cause_answers (first_answers more)))
      ++ (own_calls layout (effective own inherited) m (own_answer (first_answers more))
      ++ related_calls layout nested (effective own inherited) r (related_answers (first_answers more)))
      ++ related_calls layout nested inherited ts (later_answers more)

-- for a whole report
abbrev pub report_calls : GraphicalSettings → Tree → Answers → List Call
report_calls s (tree m own c r) a =
    (if s.cause_chain then cause_calls s.layout s.related_as_nested own c (cause_answers a) else [])
    ++ (own_calls s.layout own m (own_answer a)
    ++ related_calls s.layout s.related_as_nested own r (related_answers a))
