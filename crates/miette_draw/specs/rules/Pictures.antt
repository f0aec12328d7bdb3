-- Graphical reports of a diagnostic over an input.
use Rattle.std.specs.Prelude.{◌≡◌, ℕ, List, Option, None, true, encode_utf8_all}
use Rattle.miette_protocol.specs.views.Meaning.{Meaning}
use Rattle.miette_protocol.specs.rules.Reading.{named_source, plain_source}
use Rattle.miette_tree.specs.rules.Tree.{Tree, single_report, with_source}
use Rattle.miette_tree.specs.rules.Diagnosis.{plain_diagnosis}
use Rattle.miette_style.specs.rules.Themes.{Theme, no_styles, unicode_characters}
use Rattle.miette_graphical_rules.specs.rules.Answers.{unlisted}
use Rattle.miette_graphical_rules.specs.rules.GraphicalSettings.{GraphicalSettings, default_settings}
use Rattle.miette_graphical_rules.specs.rules.Snippets.{whole_drawing}
use Rattle.miette_graphical_rules.specs.rules.Text.{report_text}
use Rattle.miette_graphical_rules.specs.rules.PrintedDiagnostics.{all_read, diagnostics_of}

-- a diagnostic over an input with this name
abbrev pub over_input : List ℕ → Meaning → List ℕ → Tree
over_input name meaning input = with_source (named_source (plain_source input) name None)
    (single_report (plain_diagnosis meaning))

-- this theme, 80 columns wide, with source lines cut at a limit, if there is one
abbrev pub settings_in : Theme → Option ℕ → GraphicalSettings
settings_in theme limit =
    let default = default_settings theme in
    record default { width = 80; layout = record default.layout { line_columns = limit } }

-- Unicode characters without colors
abbrev pub draw_settings : Option ℕ → GraphicalSettings
draw_settings = settings_in (record { characters = unicode_characters; styles = no_styles })

-- the text of a report whose labels can all be read
abbrev pub IsPicture : Option ℕ → Tree → List ℕ → Type 0
IsPicture limit t text = text ≡ encode_utf8_all (report_text whole_drawing (draw_settings limit) t unlisted)

-- No label is refused.
abbrev pub IsReadWhole : Option ℕ → Tree → Type 0
IsReadWhole limit t = all_read (diagnostics_of (draw_settings limit) t) ≡ true
