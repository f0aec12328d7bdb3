-- The underline row of a line and the label texts below it.
use Rattle.std.specs.Prelude.{ℕ, ◌+◌, ◌-◌, ◌<◌, ◌≤◌, ◌≡◌, List, [], ◌∷◌, ◌++◌, map, replicate, if◌then◌else◌, ◌==◌}
use Rattle.std.specs.List.{range_with_len}
use Rattle.miette_style.specs.rules.Rows.{Run, Row, glyph_of, styled_run}
use Rattle.miette_style.specs.rules.Styles.{plain}
use Rattle.miette_labels.specs.rules.Labels.{is_empty}
use Rattle.miette_snippet_rules.specs.rules.Underlines.{Underline}
use Rattle.miette_snippet_rules.specs.rules.SnippetSettings.{SnippetSettings}
use Rattle.miette_style.specs.rules.Themes.{Characters}

-- each character of frames, gutters and underlines is one column wide
pub record AreNarrow (width : ℕ → ℕ) (c : Characters) : Type 0 where
  pub hbar : width c.hbar ≡ 1
  pub vbar : width c.vbar ≡ 1
  pub vbar_break : width c.vbar_break ≡ 1
  pub uarrow : width c.uarrow ≡ 1
  pub rarrow : width c.rarrow ≡ 1
  pub ltop : width c.ltop ≡ 1
  pub lbot : width c.lbot ≡ 1
  pub lcross : width c.lcross ≡ 1
  pub rcross : width c.rcross ≡ 1
  pub underbar : width c.underbar ≡ 1
  pub underline : width c.underline ≡ 1

-- and so are a space and the digits
pub record IsNarrow (width : ℕ → ℕ) (c : Characters) : Type 0 where
  pub drawings : AreNarrow width c
  pub space : width 32 ≡ 1
  pub digits : (d : ℕ) → 48 ≤ d → d < 58 → width d ≡ 1

abbrev pub blank : SnippetSettings → ℕ → Run
blank s many = record { style = plain; glyphs = replicate many (glyph_of s.width 32) }

abbrev pub pointer_code : Characters → List (List ℕ) → ℕ
pointer_code t [] = t.underline
pointer_code t (part ∷ parts) = t.underbar

-- the character at a column of an underline
abbrev pub underline_code : Characters → Underline → ℕ → ℕ
underline_code t mark column =
    if column == mark.pointer then (if is_empty mark.label then t.uarrow else pointer_code t mark.label.parts)
    else t.underline

abbrev pub underline_run : SnippetSettings → Underline → Run
underline_run s mark = record {
  style = mark.label.style;
  glyphs = map (λ column. glyph_of s.width (underline_code s.theme.characters mark column))
      (range_with_len mark.from (mark.until - mark.from));
}

-- the underlines, each after the spaces before it
abbrev pub underline_runs : SnippetSettings → ℕ → List Underline → Row
underline_runs s reached [] = []
underline_runs s reached (mark ∷ marks) = blank s (mark.from - reached) ∷ underline_run s mark
    ∷ underline_runs s mark.until marks

-- before a connector, each earlier underline has a bar below its pointer
abbrev pub connector_runs : SnippetSettings → ℕ → List Underline → ℕ → Row
connector_runs s reached [] column = blank s (column - reached) ∷ []
connector_runs s reached (mark ∷ marks) column =
    blank s (mark.pointer - reached) ∷ styled_run s.width mark.label.style (s.theme.characters.vbar ∷ [])
    ∷ connector_runs s (mark.pointer + 1) marks column

-- a row of a label text: the bars of earlier pointers, then the connector and one line of the text in the label's style
abbrev pub label_text_row : SnippetSettings → List Underline → Underline → List ℕ → List ℕ → Row
label_text_row s earlier mark corner part = connector_runs s 0 earlier mark.pointer
    ++ styled_run s.width mark.label.style (corner ++ part) ∷ []

abbrev pub corner : Characters → List ℕ
corner t = t.lbot ∷ t.hbar ∷ t.hbar ∷ 32 ∷ []

abbrev pub corner_of_several : Characters → List ℕ
corner_of_several t = t.lbot ∷ t.hbar ∷ t.rcross ∷ 32 ∷ []

abbrev pub beside : Characters → List ℕ
beside t = 32 ∷ 32 ∷ t.vbar ∷ 32 ∷ []

-- the rows of one label text, after these earlier underlines
abbrev pub rows_of_parts : SnippetSettings → List Underline → Underline → List (List ℕ) → List Row
rows_of_parts s earlier mark [] = []
rows_of_parts s earlier mark (part ∷ []) = label_text_row s earlier mark (corner s.theme.characters) part ∷ []
rows_of_parts s earlier mark (part ∷ next ∷ parts) =
    label_text_row s earlier mark (corner_of_several s.theme.characters) part
    ∷ map (label_text_row s earlier mark (beside s.theme.characters)) (next ∷ parts)

-- the rows of all label texts, last label first
abbrev pub label_text_rows : SnippetSettings → List Underline → List Underline → List Row
label_text_rows s earlier [] = []
label_text_rows s earlier (mark ∷ marks) = label_text_rows s (earlier ++ mark ∷ []) marks
    ++ rows_of_parts s earlier mark mark.label.parts

-- the underline row and the label texts below it; none without underlines
abbrev pub underline_rows : SnippetSettings → List Underline → List Row
underline_rows s [] = []
underline_rows s (mark ∷ marks) = underline_runs s 0 (mark ∷ marks) ∷ label_text_rows s [] (mark ∷ marks)
