-- Examples: the characters of a report's snippets, and the styles of their runs.
use Rattle.std.specs.Prelude.{ℕ, List, [], ◌∷◌, map, codes, Option, Some, None, Bool, true, false, nat_lt}
use Rattle.std.specs.Prelude.{if◌then◌else◌}
use Rattle.std.specs.Option.{option_map}
use Rattle.miette_style.specs.declared.style.Style.{Style}
use Rattle.miette_style.specs.rules.Themes.{Styles, no_styles, unicode_characters}
use Rattle.miette_protocol.specs.rules.Reading.{Source}
use Rattle.miette_protocol.specs.views.Meaning.{Label}
use Rattle.miette_labels.specs.rules.Answers.{Answers}
use Rattle.miette_snippet_rules.specs.declared.options.LayoutOptions.{LayoutOptions}
use Rattle.miette_snippet_rules.specs.rules.SnippetLayout.{rows_of_labels}
use Rattle.miette_snippet_rules.specs.rules.SnippetSettings.{SnippetSettings}
use Rattle.miette_snippet_laws.specs.laws.Breaks.{row_codes}

-- Unicode characters in these styles; from U+2E80 on, characters have two columns
abbrev pub worked_settings : Styles → LayoutOptions → SnippetSettings
worked_settings styles layout = record {
  theme = record { characters = unicode_characters; styles = styles };
  width = λ code. if nat_lt code 0x2E80 then 1 else 2;
  layout = layout;
}

-- a source `f`, and one without a name
abbrev pub source_f : List ℕ → Source
source_f bytes = record { bytes = bytes; name = Some (codes "f"); language = None; always_reads = true }

abbrev pub nameless : List ℕ → Source
nameless bytes = record { bytes = bytes; name = None; language = None; always_reads = true }

-- no read fails, and nothing is highlighted
abbrev pub no_answers : Answers
no_answers = record { end_fails = false; label_fails = []; join_fails = []; place_fails = []; pieces = [] }

-- a label with a text, and one without
abbrev pub labelled : ℕ → ℕ → List ℕ → Label
labelled offset len text = record {
  text = Some text;
  span = record { offset = offset; len = len };
  primary = false;
  context = None;
}

abbrev pub unlabelled : ℕ → ℕ → Label
unlabelled offset len = record {
  text = None;
  span = record { offset = offset; len = len };
  primary = false;
  context = None;
}

-- the same, marked primary
abbrev pub as_primary : Label → Label
as_primary label = record label { primary = true }

-- the text of each row
abbrev pub snippet_texts : LayoutOptions → Source → List Label → Option (List (List ℕ))
snippet_texts layout source labels =
    option_map (map row_codes) (rows_of_labels (worked_settings no_styles layout) source labels no_answers)

-- the styles of each row's runs
abbrev pub snippet_styles : Styles → LayoutOptions → Source → List Label → Option (List (List Style))
snippet_styles styles layout source labels =
    option_map (map (map (λ run. run.style))) (rows_of_labels (worked_settings styles layout) source labels no_answers)
