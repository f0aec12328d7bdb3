-- The answers of a highlighter without state, which depends only on the line's text, if no read fails.
use Rattle.std.specs.Prelude.{ℕ, false, List, [], ◌∷◌, Option, Some, None}
use Rattle.miette_protocol.specs.views.Meaning.{Label}
use Rattle.miette_tree.specs.rules.Diagnosis.{Diagnosis}
use Rattle.miette_protocol.specs.rules.Reading.{Source}
use Rattle.miette_highlight.specs.rules.Pieces.{StyledPiece}
use Rattle.miette_labels.specs.rules.Around.{group_context}
use Rattle.miette_labels.specs.rules.Groups.{groups_of, in_order}
use Rattle.miette_snippet_rules.specs.declared.options.LayoutOptions.{LayoutOptions}
use Rattle.miette_snippet_rules.specs.rules.Highlighting.{pieces_by}
use Rattle.miette_snippet_rules.specs.rules.SnippetLayout.{end_lines}
use Rattle.miette_graphical_rules.specs.rules.Sources.{LabelledSource, layout_with, sources_of}
use Rattle.miette_tree.specs.rules.Tree.{effective, Tree, tree, Cause, diagnostic, texts, Trees, no_trees, more_trees}
use Rattle.miette_graphical_rules.specs.rules.Answers.{DiagnosticAnswer, Answers, RelatedAnswers, SourceAnswer}
use Rattle.miette_graphical_rules.specs.rules.Answers.{SourceAnswers}
use Rattle.miette_graphical_rules.specs.rules.Answers.{pieces_listed, source_unlisted, sources_listed}
use Rattle.miette_graphical_rules.specs.rules.Answers.{unlisted, listed, no_more, and_more}

-- for the snippets of labels, sorted by offset, over a source with `context` lines of context
abbrev pub labels_by : (List ℕ → List StyledPiece) → ℕ → Source → List Label → SourceAnswer
labels_by answer context source labels =
    pieces_listed (pieces_by answer (group_context context labels) source (groups_of context source [] labels))

-- for the snippets of a diagnostic's labels over a source, in a layout
abbrev pub source_by : (List ℕ → List StyledPiece) → LayoutOptions → Option Source → List Label → SourceAnswer
source_by answer layout None labels = source_unlisted
source_by answer layout (Some source) labels =
    labels_by answer (end_lines layout false source labels) source (in_order labels)

-- for the snippets of a diagnostic, by its sources
abbrev pub sources_by : (List ℕ → List StyledPiece) → LayoutOptions → List LabelledSource → SourceAnswers
sources_by answer layout [] = []
sources_by answer layout (it ∷ more) = source_by answer layout it.source it.labels ∷ sources_by answer layout more

abbrev pub own_by : (List ℕ → List StyledPiece) → LayoutOptions → Option Source → Diagnosis → DiagnosticAnswer
own_by answer layout source m =
    sources_listed (sources_by answer (layout_with m.snippets layout) (sources_of source m))

abbrev mutual
  -- for the causes of a report
  pub causes_by : (List ℕ → List StyledPiece) → LayoutOptions → Option Source → Cause → Answers
  causes_by answer layout inherited (texts ts) = unlisted
  causes_by answer layout inherited (diagnostic (tree m own c r)) =
      listed (own_by answer layout (effective own inherited) m) (causes_by answer layout inherited c)
      (related_by answer layout (effective own inherited) r)

  -- for its related reports
  pub related_by : (List ℕ → List StyledPiece) → LayoutOptions → Option Source → Trees → RelatedAnswers
  related_by answer layout inherited no_trees = no_more
  related_by answer layout inherited (more_trees (tree m own c r) ts) =
      and_more (listed (own_by answer layout (effective own inherited) m)
      (causes_by answer layout (effective own inherited) c) (related_by answer layout (effective own inherited) r))
      (related_by answer layout inherited ts)

-- for a whole report
abbrev pub answers_by : (List ℕ → List StyledPiece) → LayoutOptions → Tree → Answers
answers_by answer layout (tree m own c r) =
    listed (own_by answer layout own m) (causes_by answer layout own c) (related_by answer layout own r)
