-- The settings of snippets.
use Rattle.std.specs.Prelude.{ℕ, Option, None}
use Rattle.miette_snippet_rules.specs.declared.options.LayoutOptions.{LayoutOptions}
use Rattle.miette_style.specs.rules.Themes.{Theme}

-- `width` gives a character's width, 0 if it has none. Labels over more lines than the layout's `label_lines` are
-- folded. Lines of more columns than its `line_columns` are cut.
pub record SnippetSettings : Type 0 where
  pub theme : Theme
  pub width : ℕ → ℕ
  pub layout : LayoutOptions

-- the same settings, with labels folded at this limit, if there is one; with none folded
abbrev pub folded_at : Option ℕ → SnippetSettings → SnippetSettings
folded_at limit s = record s { layout = record s.layout { label_lines = limit } }

abbrev pub unfolded : SnippetSettings → SnippetSettings
unfolded = folded_at None

-- with no line cut
abbrev pub uncut : SnippetSettings → SnippetSettings
uncut s = record s { layout = record s.layout { line_columns = None } }
