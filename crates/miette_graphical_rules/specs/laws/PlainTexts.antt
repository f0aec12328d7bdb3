-- The same settings in plain styles, as in the shipped themes without colours, and the same answers without
-- highlighting.
use Rattle.std.specs.Prelude.{◌≡◌, ℕ, Bool, true, List, [], ◌∷◌, map, Option, IfSome, encode_utf8_all}
use Rattle.std.specs.List.{AllByRecursion}
use Rattle.miette_runs.specs.rules.Runs.{made_plain}
use Rattle.miette_runs.specs.rules.Sequences.{erase}
use Rattle.miette_tree.specs.rules.Diagnosis.{Diagnosis}
use Rattle.miette_protocol.specs.rules.Reading.{Source}
use Rattle.miette_graphical_rules.specs.rules.GraphicalSettings.{GraphicalSettings}
use Rattle.miette_style.specs.rules.Themes.{Styles, no_styles}
use Rattle.miette_graphical_rules.specs.rules.Answers.{DiagnosticAnswer, Answers, unlisted, listed, RelatedAnswers}
use Rattle.miette_graphical_rules.specs.rules.Answers.{no_more}
use Rattle.miette_graphical_rules.specs.rules.Answers.{and_more}
use Rattle.miette_graphical_rules.specs.rules.PossibleAnswers.{AreAnswers, IsTextOf}
use Rattle.miette_graphical_rules.specs.rules.DiagnosticText.{Drawing, ShownFix, SnippetRows, rows_text}
use Rattle.miette_graphical_rules.specs.rules.Text.{report_text}
use Rattle.miette_tree.specs.rules.Tree.{Tree}
use Rattle.miette_snippet_laws.specs.laws.PlainStyles.{unhighlighted_answer}
pub use Rattle.miette_snippet_laws.specs.laws.PlainStyles.{ArePlain}
use Rattle.miette_snippet_laws.specs.laws.Clean.{IsCleanSource, IsCleanText}
use Rattle.miette_graphical_rules.specs.laws.Clean.{AreCleanSettings, HaveNoEscapes, IsCleanMeaning}

-- the same settings in other styles
abbrev pub restyled : GraphicalSettings → Styles → GraphicalSettings
restyled s styles = record s { theme = record s.theme { styles = styles } }

abbrev pub plain_settings : GraphicalSettings → GraphicalSettings
plain_settings s = restyled s no_styles

abbrev pub unhighlighted : DiagnosticAnswer → DiagnosticAnswer
unhighlighted a = record a { sources = map unhighlighted_answer a.sources }

abbrev mutual
  pub unhighlighted_answers : Answers → Answers
  unhighlighted_answers unlisted = unlisted
  unhighlighted_answers (listed own cause related) = listed (unhighlighted own) (unhighlighted_answers cause)
      (unhighlighted_related_answers related)

  pub unhighlighted_related_answers : RelatedAnswers → RelatedAnswers
  unhighlighted_related_answers no_more = no_more
  unhighlighted_related_answers (and_more first more) =
      and_more (unhighlighted_answers first) (unhighlighted_related_answers more)

-- a text that may be printed with a theme of the same characters, any styles and any highlighter
abbrev pub IsRestyledText : Drawing → GraphicalSettings → Tree → List ℕ → Type 0
IsRestyledText drawing s t bytes =
    (styles : Styles) × (blank : Bool) × IsTextOf drawing (restyled s styles) blank t bytes

-- What is required of snippet rows. In plain styles and without pieces they print the same rows, with each style plain.
-- They contain no escape if their inputs don't.
pub record AreSnippets (rows : SnippetRows) : Type 0 where
  pub plain : (s : GraphicalSettings) (styles : Styles) (source : Option Source) (m : Diagnosis) (a : DiagnosticAnswer)
      →
      ArePlain styles → rows_text (rows (restyled s styles) source m (unhighlighted a))
      ≡ rows_text (map (map made_plain) (rows s source m a))
  pub clean : (s : GraphicalSettings) (source : Option Source) (m : Diagnosis) (a : DiagnosticAnswer) →
      AreCleanSettings s → IfSome source IsCleanSource → IsCleanMeaning m →
      HaveNoEscapes (rows s source m a)

-- The same for a fix: it prints the same rows as another one, with each style plain.
pub record IsPlainFix (plain fix : ShownFix) : Type 0 where
  pub message : plain.message ≡ fix.message
  pub rows : rows_text plain.rows ≡ rows_text (map (map made_plain) fix.rows)

abbrev pub ArePlainFixes : List ShownFix → List ShownFix → Type 0
ArePlainFixes [] [] = Unit {0}
ArePlainFixes [] (fix ∷ fixes) = ⊥
ArePlainFixes (plain ∷ more) [] = ⊥
ArePlainFixes (plain ∷ more) (fix ∷ fixes) = IsPlainFix plain fix × ArePlainFixes more fixes

-- neither its message nor its rows contain an escape
pub record IsCleanShown (fix : ShownFix) : Type 0 where
  pub message : IsCleanText fix.message
  pub rows : HaveNoEscapes fix.rows

-- What is required of a diagnostic's snippets and fixes.
pub record AreDrawings (drawing : Drawing) : Type 0 where
  pub snippets : AreSnippets drawing.rows
  pub plain : (s : GraphicalSettings) (styles : Styles) (source : Option Source) (m : Diagnosis) (a : DiagnosticAnswer)
      →
      ArePlain styles → ArePlainFixes (drawing.fixes (restyled s styles) source m (unhighlighted a))
      (drawing.fixes s source m a)
  pub clean : (s : GraphicalSettings) (source : Option Source) (m : Diagnosis) (a : DiagnosticAnswer) →
      AreCleanSettings s → IfSome source IsCleanSource → IsCleanMeaning m →
      AllByRecursion IsCleanShown (drawing.fixes s source m a)

-- ---- what is printed

-- The bytes of a report under some answers. Without their colours they are the text in plain styles without a
-- highlighter, under the same reads. Those answers are possible there too, so a handler with plain settings may print
-- that text.
pub record IsColouredText (drawing : Drawing) (s : GraphicalSettings) (blank : Bool) (t : Tree) (bytes : List ℕ)
    : Type 0 where
  pub answers : Answers
  pub are : AreAnswers s blank t answers
  pub text : bytes ≡ encode_utf8_all (report_text drawing s t answers)
  pub possible : AreAnswers (plain_settings s) true t (unhighlighted_answers answers)
  pub erased : erase bytes ≡ encode_utf8_all (report_text drawing (plain_settings s) t (unhighlighted_answers answers))
