-- The rows under a line by columns: their glyphs, which have no styles.
use Rattle.std.proofs.Common.{ℕ, List, [], ◌∷◌, ◌++◌, map, cond, eqb}
use Rattle.std.specs.List.{range_with_len}
use Rattle.miette_style.specs.rules.Rows.{Glyph, glyph_of}
use Rattle.miette_snippet_rules.specs.rules.Underlines.{Underline}
use Rattle.miette_snippet_laws.specs.laws.LineRows.{underline_glyph_at, underlines_end}
use Rattle.miette_snippet_rules.specs.rules.SnippetSettings.{SnippetSettings}

abbrev pub mark_row : SnippetSettings → List Underline → List Glyph
mark_row s marks = map (underline_glyph_at s marks) (range_with_len 0 (underlines_end 0 marks))

abbrev pub lead_at : SnippetSettings → List Underline → ℕ → Glyph
lead_at s [] column = glyph_of s.width 32
lead_at s (mark ∷ marks) column = cond (eqb column mark.pointer) (glyph_of s.width s.theme.characters.vbar)
    (lead_at s marks column)

abbrev pub lead : SnippetSettings → List Underline → Underline → List Glyph
lead s earlier mark = map (lead_at s earlier) (range_with_len 0 mark.pointer)

abbrev pub corner_pieces : SnippetSettings → ℕ → List Glyph
corner_pieces s third = glyph_of s.width s.theme.characters.lbot ∷ glyph_of s.width s.theme.characters.hbar
    ∷ glyph_of s.width third ∷ glyph_of s.width 32
    ∷ []

abbrev pub beside_pieces : SnippetSettings → List Glyph
beside_pieces s = glyph_of s.width 32 ∷ glyph_of s.width 32 ∷ glyph_of s.width s.theme.characters.vbar
    ∷ glyph_of s.width 32 ∷ []

abbrev pub glyph_rows_of_parts : SnippetSettings → List Underline → Underline → List (List ℕ) → List (List Glyph)
glyph_rows_of_parts s earlier mark [] = []
glyph_rows_of_parts s earlier mark (part ∷ []) = (lead s earlier mark
    ++ (corner_pieces s s.theme.characters.hbar ++ map (glyph_of s.width) part)) ∷ []
glyph_rows_of_parts s earlier mark (part ∷ next ∷ parts) =
    (lead s earlier mark ++ (corner_pieces s s.theme.characters.rcross ++ map (glyph_of s.width) part))
    ∷ map (λ p. lead s earlier mark ++ (beside_pieces s ++ map (glyph_of s.width) p)) (next ∷ parts)

abbrev pub glyph_rows_below : SnippetSettings → List Underline → List Underline → List (List Glyph)
glyph_rows_below s earlier [] = []
glyph_rows_below s earlier (mark ∷ marks) = glyph_rows_below s (earlier ++ mark ∷ []) marks
    ++ glyph_rows_of_parts s earlier mark mark.label.parts
