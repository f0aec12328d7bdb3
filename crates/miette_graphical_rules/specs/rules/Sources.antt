-- The sources of a diagnostic with their labels, and the settings these are drawn in.
use Rattle.std.specs.Prelude.{ℕ, ◌%◌, List, [], ◌∷◌, ◌++◌, Bool, true, ◌&&◌, ◌||◌, not, Option, Some, None, drop}
use Rattle.std.specs.Prelude.{length, map, take}
use Rattle.std.specs.List.{list_any}
use Rattle.miette_lines.specs.rules.Lists.{is_nil}
use Rattle.miette_protocol.specs.views.Meaning.{Label}
use Rattle.miette_fixes.specs.rules.Edits.{FixModel}
use Rattle.miette_protocol.specs.rules.Reading.{Source}
use Rattle.miette_snippet_rules.specs.declared.options.LayoutOptions.{LayoutOptions}
use Rattle.miette_snippet_rules.specs.rules.SnippetSettings as snippets
use Rattle.miette_style.specs.rules.Themes.{Styles, Theme}
use Rattle.miette_tree.specs.rules.Diagnosis.{Diagnosis, Section}
use Rattle.miette_tree.specs.rules.DiagnosticParts.{given_labels}
use Rattle.miette_tree.specs.rules.Reads.{always_reads}
use Rattle.miette_graphical_rules.specs.rules.GraphicalSettings.{GraphicalSettings}

-- a source, if there is one, and the labels over it
pub record LabelledSource : Type 0 where
  pub source : Option Source
  pub labels : List Label

abbrev pub labelled : Option Source → List Label → LabelledSource
labelled source labels = record { source = source; labels = labels }

abbrev pub further_sources : List Section → List LabelledSource
further_sources sections = map (λ section. labelled (Some section.source) section.labels) sections

-- the effective source of a diagnostic with its own labels, and then each further source
abbrev pub sources_of : Option Source → Diagnosis → List LabelledSource
sources_of source m = labelled source (given_labels m.labels) ∷ further_sources m.snippets

-- whether every source always reads that labels of a diagnostic are read from
abbrev pub sources_read : List LabelledSource → Bool
sources_read [] = true
sources_read (it ∷ more) = always_reads it.source it.labels && sources_read more

-- If a fix has edits, the source is read once, as a whole, for all fixes.
abbrev pub has_edits : FixModel → Bool
has_edits fix = not (is_nil fix.edits)

-- whether the source of a diagnostic's fixes always reads, if it is read
abbrev pub reads_for : Option Source → List FixModel → Bool
reads_for None fixes = true
reads_for (Some source) fixes = not (list_any has_edits fixes) || source.always_reads

-- ---- settings

-- a list rotated left by a number of elements
abbrev pub rotated : {A : Type 0} → ℕ → List A → List A
rotated n [] = []
rotated n (x ∷ xs) = drop (n % length (x ∷ xs)) (x ∷ xs) ++ take (n % length (x ∷ xs)) (x ∷ xs)

-- the highlight styles for the labels after the first `n`
abbrev pub styles_after : ℕ → Styles → Styles
styles_after n styles = record styles { highlights = rotated n styles.highlights }

abbrev pub theme_after : ℕ → Theme → Theme
theme_after n theme = record theme { styles = styles_after n theme.styles }

abbrev pub after_labels : ℕ → GraphicalSettings → GraphicalSettings
after_labels n s = record s { theme = theme_after n s.theme }

abbrev pub snippets_after : ℕ → snippets.SnippetSettings → snippets.SnippetSettings
snippets_after n l = record l { theme = theme_after n l.theme }

-- If a further source has a label, frames of one-line snippets show their position too.
abbrev pub is_labelled : Section → Bool
is_labelled section = not (is_nil section.labels)

abbrev pub some_further : List Section → Bool
some_further sections = list_any is_labelled sections

abbrev pub layout_with : List Section → LayoutOptions → LayoutOptions
layout_with sections layout =
    record layout { one_line_start = some_further sections || layout.one_line_start }

abbrev pub drawn_with : List Section → GraphicalSettings → GraphicalSettings
drawn_with sections s = record s { layout = layout_with sections s.layout }

abbrev pub snippets_with : List Section → snippets.SnippetSettings → snippets.SnippetSettings
snippets_with sections l = record l { layout = layout_with sections l.layout }

-- a statement holds for each source with its labels, in the settings these are drawn in
abbrev pub HoldsOfSources : (GraphicalSettings → LabelledSource → Type 0) → GraphicalSettings → List LabelledSource
    → Type 0
HoldsOfSources holds s [] = Unit {0}
HoldsOfSources holds s (it ∷ more) =
    holds s it × HoldsOfSources holds (after_labels (length it.labels) s) more
