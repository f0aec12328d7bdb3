-- Rows of styled characters, and the character at each column of a row.
use Rattle.std.specs.Prelude.{ℕ, ◌+◌, ◌-◌, ◌≡◌, List, [], ◌∷◌, ◌++◌, map, Option, Some, None, if◌then◌else◌}
use Rattle.std.specs.Prelude.{◌==◌, nat_lt}
use Rattle.miette_style.specs.declared.style.Style.{Style}
use Rattle.miette_style.specs.rules.Styles.{plain}

-- a character and its width in columns
pub record Glyph : Type 0 where
  pub code : ℕ
  pub columns : ℕ

-- characters that are printed in one style, with one start and one end code
pub record Run : Type 0 where
  pub style : Style
  pub glyphs : List Glyph

abbrev pub Row : Type 0
Row = List Run

-- the characters of a row
abbrev pub glyphs_of : Row → List Glyph
glyphs_of [] = []
glyphs_of (run ∷ row) = run.glyphs ++ glyphs_of row

-- the width of characters in columns
abbrev pub glyph_columns : List Glyph → ℕ
glyph_columns [] = 0
glyph_columns (g ∷ glyphs) = g.columns + glyph_columns glyphs

-- the character that begins at a column; a character without width begins at none
abbrev pub code_at : List Glyph → ℕ → Option ℕ
code_at [] column = None
code_at (g ∷ glyphs) column =
    if g.columns == 0 then code_at glyphs column
    else if column == 0 then Some g.code
    else if nat_lt column g.columns then None
    else code_at glyphs (column - g.columns)

-- a text begins at a column and continues to the end of the row
abbrev pub Begins : List Glyph → ℕ → List Glyph → Type 0
Begins glyphs column text = (front : List Glyph) × (glyphs ≡ front ++ text) × (glyph_columns front ≡ column)

abbrev pub glyph_of : (ℕ → ℕ) → ℕ → Glyph
glyph_of width code = record { code = code; columns = width code }

-- a text in a style
abbrev pub styled_run : (ℕ → ℕ) → Style → List ℕ → Run
styled_run width style text = record { style = style; glyphs = map (glyph_of width) text }

abbrev pub plain_run : (ℕ → ℕ) → List ℕ → Run
plain_run width text = styled_run width plain text
