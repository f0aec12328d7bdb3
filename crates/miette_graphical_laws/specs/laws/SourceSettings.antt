-- How the settings differ in which the sources of a diagnostic are drawn.
use Rattle.std.specs.Prelude.{◌≡◌, ℕ, ◌+◌, Bool, ◌||◌, List}
use Rattle.miette_style.specs.declared.style.Style.{Style}
use Rattle.miette_labels.specs.rules.Labels.{style_at}
use Rattle.miette_tree.specs.rules.Diagnosis.{Section}
use Rattle.miette_graphical_rules.specs.rules.GraphicalSettings.{GraphicalSettings}
use Rattle.miette_graphical_rules.specs.rules.Snippets.{snippet_settings}
use Rattle.miette_graphical_rules.specs.rules.Sources.{after_labels, drawn_with, snippets_after, snippets_with}
use Rattle.miette_graphical_rules.specs.rules.Sources.{some_further}

-- the same settings with these highlight styles
abbrev pub with_highlights : List Style → GraphicalSettings → GraphicalSettings
with_highlights highlights s =
    record s { theme = record s.theme { styles = record s.theme.styles { highlights = highlights } } }

-- the same settings, but for whether frames of one-line snippets show their position
abbrev pub with_one_line_start : Bool → GraphicalSettings → GraphicalSettings
with_one_line_start shown s = record s { layout = record s.layout { one_line_start = shown } }

-- the style of the i-th label
abbrev pub highlight_at : GraphicalSettings → ℕ → Style
highlight_at s i = style_at s.theme.styles.highlights i

-- The settings of a source after `n` labels over earlier sources differ only in the highlight styles (`others`): its
-- i-th label has the style of label `n + i` (`highlights`). Reads and the highlighter have the same (`asked`).
pub record AreSettingsAfter (n : ℕ) (s : GraphicalSettings) : Type 0 where
  pub others : with_highlights s.theme.styles.highlights (after_labels n s) ≡ s
  pub highlights : (i : ℕ) → highlight_at (after_labels n s) i ≡ highlight_at s (n + i)
  pub asked : snippets_after n (snippet_settings s) ≡ snippet_settings (after_labels n s)

-- The settings of a diagnostic with further sources differ only in whether frames of one-line snippets show their
-- position (`others`). If a further source has a label, they do (`start`).
pub record AreSettingsWith (sections : List Section) (s : GraphicalSettings) : Type 0 where
  pub others : with_one_line_start s.layout.one_line_start (drawn_with sections s) ≡ s
  pub start : (drawn_with sections s).layout.one_line_start ≡ (some_further sections || s.layout.one_line_start)
  pub asked : snippets_with sections (snippet_settings s) ≡ snippet_settings (drawn_with sections s)
