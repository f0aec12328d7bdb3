-- What the row of a break shows.
use Rattle.std.proofs.Common.{ℕ, zero, suc, ◌-◌, ◌≡◌, List, [], ◌∷◌, ◌++◌, map, replicate, codes, refl, ap, ◌∙◌}
use Rattle.miette_lines.specs.rules.Lines.{Line}
use Rattle.miette_labels.specs.rules.Answers.{Highlight}
use Rattle.miette_labels.specs.rules.Labels.{DrawnLabel, multi_line}
use Rattle.miette_style.specs.declared.style.Style.{Style}
use Rattle.miette_style.specs.rules.Rows.{Glyph, Row, glyph_of, glyphs_of}
use Rattle.miette_style.specs.rules.Styles.{plain}
use Rattle.miette_snippet_rules.specs.rules.Gutters.{bar, break_gutter}
use Rattle.miette_snippet_rules.specs.rules.SnippetLayout.{SnippetContext, break_row}
use Rattle.miette_snippet_rules.specs.rules.SnippetSettings.{SnippetSettings}
use Rattle.miette_snippet_laws.specs.laws.Breaks.{HasBreak, bar_codes, bar_styles, break_codes, row_codes}

after_blanks : (s : SnippetSettings) (many : ℕ) (rest : List Glyph)
    → map (λ glyph. glyph.code) (replicate many (glyph_of s.width 32) ++ rest)
    ≡ replicate many 32 ++ map (λ glyph. glyph.code) rest
after_blanks s zero rest = refl
after_blanks s (suc many) rest = ap (λ r. 32 ∷ r) (after_blanks s many rest)

codes_of_bars : (s : SnippetSettings) (labels : List DrawnLabel)
    → row_codes (map (bar s) labels) ≡ map (λ label. s.theme.characters.vbar) labels
codes_of_bars s [] = refl
codes_of_bars s (label ∷ labels) = ap (λ r. s.theme.characters.vbar ∷ r) (codes_of_bars s labels)

codes_of_gutter : (s : SnippetSettings) (labels : List DrawnLabel)
    → row_codes (break_gutter s labels) ≡ bar_codes s.theme.characters labels
codes_of_gutter s [] = refl
codes_of_gutter s (label ∷ labels) = ap (λ r. 32 ∷ r) (codes_of_bars s (label ∷ labels))

codes_of_break : (s : SnippetSettings) (w : ℕ) (labels : List DrawnLabel)
    → row_codes (break_row s w labels) ≡ break_codes s.theme.characters w labels
codes_of_break s w labels =
    let dots : List ℕ = codes "..." in
    after_blanks s (w - 1) (map (glyph_of s.width) (dots ++ s.theme.characters.vbar ∷ [])
    ++ glyphs_of (break_gutter s labels))
    ∙ ap (λ r. replicate (w - 1) 32 ++ (dots ++ s.theme.characters.vbar ∷ r)) (codes_of_gutter s labels)

styles_of_bars : (s : SnippetSettings) (labels : List DrawnLabel)
    → map (λ run. run.style) (map (bar s) labels) ≡ map (λ label. label.style) labels
styles_of_bars s [] = refl
styles_of_bars s (label ∷ labels) = ap (λ r. label.style ∷ r) (styles_of_bars s labels)

styles_of_gutter : (s : SnippetSettings) (labels : List DrawnLabel)
    → map (λ run. run.style) (break_gutter s labels) ≡ bar_styles labels
styles_of_gutter s [] = refl
styles_of_gutter s (label ∷ labels) = ap (λ r. plain ∷ r) (styles_of_bars s (label ∷ labels))

pub break_rows : (c : SnippetContext) (line : Line) (number : ℕ) (pieces : List Highlight)
    → HasBreak c line number pieces
break_rows c line number pieces =
    let labels : List DrawnLabel = multi_line line c.labels in
    record {
      first = ap (λ r. r ∷ []) (codes_of_break c.settings c.number_width labels);
      styles = ap (λ (r : List Style). (plain ∷ plain ∷ r) ∷ []) (styles_of_gutter c.settings labels);
      later = refl;
      shown = refl;
      again = refl;
    }
