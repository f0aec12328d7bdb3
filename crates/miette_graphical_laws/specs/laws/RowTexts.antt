-- What a row of a report prints.
use Rattle.std.specs.Prelude.{◌≡◌, ℕ, List, [], ◌∷◌, ◌++◌, chars, encode_utf8_all, map}
use Rattle.miette_style.specs.rules.Rows.{Row, glyphs_of}
use Rattle.miette_runs.specs.rules.Runs.{print, printed_run}
use Rattle.miette_runs.specs.rules.Sequences.{erase}
use Rattle.miette_snippet_laws.specs.laws.Clean.{IsCleanRow}
use Rattle.miette_graphical_rules.specs.rules.Snippets.{runs_of_row}

-- the characters of a row
abbrev pub row_codes : Row → List ℕ
row_codes row = map (λ glyph. glyph.code) (glyphs_of row)

-- the characters of each run, in the run's style
abbrev pub printed_runs : Row → List ℕ
printed_runs [] = []
printed_runs (run ∷ row) = printed_run run.style (map (λ glyph. glyph.code) run.glyphs) ++ printed_runs row

-- A row prints the characters of its runs in their styles. If it contains no escape, deleting the colours leaves its
-- characters: in its text (`text`), in the bytes of the text (`bytes`), and in these bytes, decoded (`decoded`).
pub record PrintsRow (row : Row) : Type 0 where
  pub styled : print (runs_of_row row) ≡ printed_runs row
  pub text : IsCleanRow row → erase (print (runs_of_row row)) ≡ row_codes row
  pub bytes : IsCleanRow row → erase (encode_utf8_all (print (runs_of_row row))) ≡ encode_utf8_all (row_codes row)
  pub decoded : IsCleanRow row → chars (erase (encode_utf8_all (print (runs_of_row row)))) ≡ row_codes row
