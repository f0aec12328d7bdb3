-- Options and layouts that the callers use.
use Rattle.std.specs.Prelude.{◌≡◌, ℕ, true, List, [], Some, chars, codes}
use Rattle.miette_labels.specs.rules.Answers.{Answers, AlwaysReads}
use Rattle.miette_style.specs.views.Printouts.{ended_text, printout_of, ◌⊕◌}
use Rattle.miette_style.specs.views.Tokens.{rows_tokens}
use Rattle.miette_style.specs.rules.Rows.{Row}
use Rattle.miette_protocol.specs.rules.Reading.{Source}
use Rattle.miette_protocol.specs.views.Meaning.{Label}
use Rattle.miette_columns.specs.rules.Widths.{width_of}
use Rattle.miette_snippet_rules.specs.rules.Defaults.{default_layout}
use Rattle.miette_snippet_rules.specs.rules.SnippetSettings.{SnippetSettings}
use Rattle.miette_snippet_rules.specs.rules.SnippetLayout.{rows_of_labels}
use Rattle.miette_style.specs.declared.theme.GraphicalTheme.{GraphicalTheme}
use Rattle.miette_style.specs.rules.Themes.{theme_of}
use Rattle.miette_text.specs.declared.options.WordSeparator.TheVariants.{AsciiSpace}
use Rattle.miette_text.specs.rules.Wrapping.{WrapPlan}

-- Rows of this width: the first one after `hint: `, the others indented below it.
abbrev pub hint_plan : ℕ → WrapPlan (List ℕ)
hint_plan width = record {
  room = width;
  first = chars (codes "hint: ");
  further = chars (codes "      ");
  break_words = true;
  wrap_lines = true;
  separator = AsciiSpace;
  split_hyphens = true;
}

-- The default layout.
abbrev pub usual_layout : GraphicalTheme → SnippetSettings
usual_layout theme = record { theme = theme_of theme; width = width_of; layout = default_layout }

-- The text has the rows that the rules give if no read fails.
pub record AreSnippets (theme : GraphicalTheme) (source : Source) (labels : List Label) (text : List ℕ) : Type 0 where
  pub answers : Answers
  pub none_fails : AlwaysReads answers
  pub rows : List Row
  pub are : rows_of_labels (usual_layout theme) source labels answers ≡ Some rows
  pub printed : text ≡ ended_text (printout_of [] ⊕ rows_tokens rows)
