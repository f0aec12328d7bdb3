-- The texts of a report's parts.
use Rattle.std.specs.Prelude.{◌≡◌, ℕ, Bool, true, false, List, [], ◌++◌, map, Option, Some, MatchBool}
use Rattle.miette_runs.specs.rules.Cutting.{trim_trailing_feeds}
use Rattle.miette_protocol.specs.views.Meaning.{Label}
use Rattle.miette_fixes.specs.rules.Edits.{FixModel}
use Rattle.miette_tree.specs.rules.Diagnosis.{Diagnosis}
use Rattle.miette_protocol.specs.rules.Reading.{Source}
use Rattle.miette_tree.specs.rules.Tree.{Tree, tree, Cause, Trees, head, source_of, cause_of, related_of, effective}
use Rattle.miette_protocol.specs.declared.protocol.Severity.{Severity}
use Rattle.miette_graphical_rules.specs.rules.Answers.{DiagnosticAnswer, Answers, RelatedAnswers, SourceAnswer}
use Rattle.miette_graphical_rules.specs.rules.Answers.{SourceAnswers}
use Rattle.miette_graphical_rules.specs.rules.Indents.{narrow_settings}
use Rattle.miette_graphical_rules.specs.rules.DiagnosticText.{fixes_text, rows_text, title_text, under_arrow}
use Rattle.miette_tree.specs.rules.Reads.{always_reads}
use Rattle.miette_graphical_rules.specs.rules.GraphicalSettings.{GraphicalSettings}
use Rattle.miette_graphical_rules.specs.rules.Sources.{LabelledSource, drawn_with, reads_for, sources_of}
use Rattle.miette_snippet_rules.specs.rules.Highlighting.{calls_of_labels}
use Rattle.miette_graphical_rules.specs.rules.Snippets.{drawn_fix, rows_over, snippet_settings, source_rows}
use Rattle.miette_graphical_rules.specs.rules.Snippets.{whole_drawing}
use Rattle.miette_graphical_rules.specs.rules.Calls.{own_calls, calls_over, source_calls, cause_calls, related_calls}
use Rattle.miette_graphical_rules.specs.rules.Text.{ends_there, inner_text, causes_text, related_text, body_over}
use Rattle.miette_graphical_rules.specs.rules.Text.{drawn_text}
use Rattle.miette_graphical_rules.specs.rules.PossibleAnswers.{IsAnswerOf, IsAnswer, AreAnswersOver, AreCauseAnswers}
use Rattle.miette_graphical_rules.specs.rules.PossibleAnswers.{AreRelatedAnswers, IsReportByCalls}
use Rattle.miette_graphical.specs.views.Painting.{Printing}

-- the body of a diagnostic: its snippets, its help and its fixes
abbrev pub IsDiagnosticBody : Option Source → Diagnosis → Printing → List ℕ → Type 0
IsDiagnosticBody source m by text =
    (a : DiagnosticAnswer) × IsAnswer (snippet_settings by.settings) by.blank source m a
    × by.happen (own_calls by.settings.layout source m a)
    × (text ≡ drawn_text whole_drawing by.settings m source a)

-- fixes appended to a text, over their source; the flag says whether the read for fixes failed
pub record AppendsFixes (s : GraphicalSettings) (source : Option Source) (fixes : List FixModel) (old new : List ℕ)
    : Type 0
  where
    pub fails : Bool
    pub possible : reads_for source fixes ≡ true → fails ≡ false
    pub appended : new ≡ old ++ fixes_text s (map (drawn_fix s source fails) fixes)

-- the text of labels' snippets over a source, in these settings
abbrev pub AreDrawn : GraphicalSettings → Source → List Label → Printing → List ℕ → Type 0
AreDrawn s source labels by text =
    (a : SourceAnswer) × IsAnswerOf (snippet_settings s) by.blank (Some source) labels source.always_reads a
    × by.happen (calls_of_labels s.layout source labels a)
    × (text ≡ rows_text (source_rows s (Some source) labels a))

-- the text over one of a diagnostic's sources, and over several, in these settings
abbrev pub IsSourceDrawn : GraphicalSettings → LabelledSource → Printing → List ℕ → Type 0
IsSourceDrawn s it by text =
    (a : SourceAnswer) × IsAnswerOf (snippet_settings s) by.blank it.source it.labels
    (always_reads it.source it.labels) a
    × by.happen (source_calls s.layout it.source it.labels a)
    × (text ≡ rows_text (source_rows s it.source it.labels a))

abbrev pub AreSourcesDrawn : GraphicalSettings → List LabelledSource → Printing → List ℕ → Type 0
AreSourcesDrawn s sources by text =
    (a : SourceAnswers) × AreAnswersOver (snippet_settings s) by.blank sources a
    × by.happen (calls_over s.layout sources a)
    × (text ≡ rows_text (rows_over s sources a))

-- the text of a diagnostic's snippets
abbrev pub AreRowsDrawn : Option Source → Diagnosis → Printing → List ℕ → Type 0
AreRowsDrawn source m by text = AreSourcesDrawn (drawn_with m.snippets by.settings) (sources_of source m) by text

-- the causes of a report
abbrev pub AreCauses : Option Severity → Option Source → Cause → Printing → List ℕ → Type 0
AreCauses outer inherited c by text =
    (a : Answers) × AreCauseAnswers (snippet_settings by.settings) by.blank inherited c a
    × by.happen (cause_calls by.settings.layout by.settings.related_as_nested inherited c a)
    × (text ≡ causes_text whole_drawing by.settings outer inherited c a)

-- its related reports
abbrev pub AreRelated : Option Severity → Option Source → Trees → Printing → List ℕ → Type 0
AreRelated outer inherited ts by text =
    (more : RelatedAnswers) × AreRelatedAnswers (snippet_settings by.settings) by.blank inherited ts more
    × by.happen (related_calls by.settings.layout by.settings.related_as_nested inherited ts more)
    × (text ≡ related_text whole_drawing by.settings outer inherited ts more)

-- what follows a tree's causes: its body over its effective source, and its related reports
abbrev pub IsBodyAndRelated : Option Source → Tree → Printing → List ℕ → Type 0
IsBodyAndRelated source t by text =
    (a : DiagnosticAnswer) × (more : RelatedAnswers) × IsAnswer (snippet_settings by.settings) by.blank source (head t)
    a
    × AreRelatedAnswers (snippet_settings by.settings) by.blank source (related_of t) more
    × by.happen (own_calls by.settings.layout source (head t) a
    ++ related_calls by.settings.layout by.settings.related_as_nested source (related_of t) more)
    × (text ≡ drawn_text whole_drawing by.settings (head t) source a
    ++ related_text whole_drawing by.settings (head t).severity source (related_of t) more)

-- a tree as an inner report, over its effective source
abbrev pub IsInner : Option Source → Tree → Printing → List ℕ → Type 0
IsInner source (tree m own c r) by text =
    (a : DiagnosticAnswer) × (more : RelatedAnswers) × IsAnswer (snippet_settings by.settings) by.blank source m a
    × AreRelatedAnswers (snippet_settings by.settings) by.blank source r more
    × by.happen (own_calls by.settings.layout source m a
    ++ related_calls by.settings.layout by.settings.related_as_nested source r more)
    × (text ≡ inner_text whole_drawing by.settings m source a
    (related_text whole_drawing by.settings m.severity source r more))

-- a related tree as a sibling
abbrev pub IsSibling : Option Source → Tree → Printing → List ℕ → Type 0
IsSibling source (tree m own c r) by text =
    (a : DiagnosticAnswer) × (below : Answers) × (more : RelatedAnswers)
    × IsAnswer (snippet_settings by.settings) by.blank source m a
    × AreCauseAnswers (snippet_settings by.settings) by.blank source c below
    × AreRelatedAnswers (snippet_settings by.settings) by.blank source r more
    × by.happen (cause_calls by.settings.layout by.settings.related_as_nested source c below
    ++ (own_calls by.settings.layout source m a
    ++ related_calls by.settings.layout by.settings.related_as_nested source r more))
    × (text ≡ title_text by.settings m ++ body_over by.settings m (drawn_text whole_drawing by.settings m source a)
    (causes_text whole_drawing by.settings m.severity source c below)
    (related_text whole_drawing by.settings m.severity source r more))

-- the same below an arrow, with a smaller width
abbrev pub narrowed : Option Severity → Bool → Printing → Printing
narrowed outer is_last by = record by { settings = narrow_settings by.settings outer is_last }

-- a cause that is a diagnostic, under its arrow
abbrev pub IsOneCause : Option Severity → Option Source → Tree → Printing → List ℕ → Type 0
IsOneCause outer inherited t by text =
    (inner : List ℕ) × IsInner (effective (source_of t) inherited) t (narrowed outer (ends_there (cause_of t)) by) inner
    × (text ≡ under_arrow by.settings outer (ends_there (cause_of t)) inner)

-- one of several related trees, over its effective source
abbrev pub IsNested : Option Severity → Bool → Option Source → Tree → Printing → List ℕ → Type 0
IsNested outer is_last source t by text =
    (inner : List ℕ) × IsInner source t (narrowed outer is_last by) inner
    × (text ≡ under_arrow by.settings outer is_last (trim_trailing_feeds inner))

abbrev pub IsOneRelated : Option Severity → Bool → Option Source → Tree → Printing → List ℕ → Type 0
IsOneRelated outer is_last source t by text =
    MatchBool by.settings.related_as_nested (IsNested outer is_last source t by text) (IsSibling source t by text)

-- the causes of the outermost report
abbrev pub AreRootCauses : Tree → Printing → List ℕ → Type 0
AreRootCauses (tree m own c r) by text =
    MatchBool by.settings.cause_chain (AreCauses m.severity own c by text) (by.happen [] × (text ≡ []))

-- the outermost report
abbrev pub IsOutermost : Tree → Printing → List ℕ → Type 0
IsOutermost t by text = IsReportByCalls whole_drawing by.settings by.blank by.happen t text
