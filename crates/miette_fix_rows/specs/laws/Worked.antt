-- Examples: the characters of a fix's rows, in a theme without colours.
use Rattle.std.specs.Prelude.{ℕ, List, [], ◌∷◌, map, codes, Some, None, true, false, nat_lt, if◌then◌else◌}
use Rattle.miette_style.specs.rules.Themes.{unicode_characters, no_styles}
use Rattle.miette_style.specs.rules.Rows.{glyphs_of}
use Rattle.miette_protocol.specs.rules.Reading.{Source}
use Rattle.miette_snippet_rules.specs.rules.Defaults.{default_layout}
use Rattle.miette_snippet_rules.specs.rules.SnippetSettings.{SnippetSettings}
use Rattle.miette_fixes.specs.rules.Edits.{Replacement}
use Rattle.miette_fix_rows.specs.rules.DiffRows.{fix_rows}

abbrev pub worked_settings : SnippetSettings
worked_settings = record {
  theme = record { characters = unicode_characters; styles = no_styles };
  width = λ code. if nat_lt code 0x2E80 then 1 else 2;
  layout = default_layout;
}

abbrev pub named_source : List ℕ → Source
named_source bytes = record { bytes = bytes; name = Some (codes "f"); language = None; always_reads = true }

abbrev pub one_edit : ℕ → ℕ → List ℕ → Replacement
one_edit offset len text = record { span = record { offset = offset; len = len }; text = text }

-- the text of each row
abbrev pub worked_rows : List ℕ → List Replacement → List (List ℕ)
worked_rows bytes edits =
    map (λ row. map (λ glyph. glyph.code) (glyphs_of row)) (fix_rows worked_settings (named_source bytes) false edits)

-- two characters of two columns each and a space, on the first of two lines
abbrev pub han : List ℕ
han = 0xE6 ∷ 0xBC ∷ 0xA2 ∷ 0xE5 ∷ 0xAD ∷ 0x97 ∷ 32 ∷ 10 ∷ 98 ∷ 10 ∷ []

-- the same with a limit on a line's columns
abbrev pub cut_settings : ℕ → SnippetSettings
cut_settings limit = record worked_settings { layout = record default_layout { line_columns = Some limit } }

abbrev pub cut_rows : ℕ → List ℕ → List Replacement → List (List ℕ)
cut_rows limit bytes edits =
    map (λ row. map (λ glyph. glyph.code) (glyphs_of row))
    (fix_rows (cut_settings limit) (named_source bytes) false edits)
