-- The row that replaces lines that are left out.
use Rattle.std.specs.Prelude.{ℕ, ◌-◌, ◌≡◌, List, [], ◌∷◌, ◌++◌, codes, length, map, replicate, true, false}
use Rattle.miette_lines.specs.rules.Lines.{Line}
use Rattle.miette_style.specs.declared.style.Style.{Style}
use Rattle.miette_style.specs.rules.Rows.{Row, glyphs_of}
use Rattle.miette_style.specs.rules.Styles.{plain}
use Rattle.miette_style.specs.rules.Themes.{Characters}
use Rattle.miette_labels.specs.rules.Answers.{Highlight}
use Rattle.miette_labels.specs.rules.Labels.{DrawnLabel, multi_line}
use Rattle.miette_snippet_rules.specs.rules.SnippetLayout.{SnippetContext, line_or_break, line_rows}

-- the characters of a row
abbrev pub row_codes : Row → List ℕ
row_codes row = map (λ glyph. glyph.code) (glyphs_of row)

-- a bar for each label, after one space
abbrev pub bar_codes : Characters → List DrawnLabel → List ℕ
bar_codes t [] = []
bar_codes t (label ∷ labels) = 32 ∷ map (λ label. t.vbar) (label ∷ labels)

-- three dots up to the end of the line numbers, the frame's bar, and the bars of the labels
abbrev pub break_codes : Characters → ℕ → List DrawnLabel → List ℕ
break_codes t w labels = replicate (w - 1) 32 ++ (codes "..." ++ t.vbar ∷ bar_codes t labels)

-- the styles of these runs: each bar has its label's
abbrev pub bar_styles : List DrawnLabel → List Style
bar_styles [] = []
bar_styles (label ∷ labels) = plain ∷ map (λ label. label.style) (label ∷ labels)

-- The rows of a line that is left out after one that isn't, of one after another that is left out, and of a line that
-- isn't left out.
pub record HasBreak (c : SnippetContext) (line : Line) (number : ℕ) (pieces : List Highlight) : Type 0 where
  pub first : map row_codes (line_or_break false true c line number pieces)
      ≡ break_codes c.settings.theme.characters c.number_width (multi_line line c.labels) ∷ []
  pub styles : map (map (λ run. run.style)) (line_or_break false true c line number pieces)
      ≡ (plain ∷ plain ∷ bar_styles (multi_line line c.labels)) ∷ []
  pub later : line_or_break true true c line number pieces ≡ []
  pub shown : line_or_break false false c line number pieces ≡ line_rows c line number pieces
  pub again : line_or_break true false c line number pieces ≡ line_rows c line number pieces
