-- Examples: a line of the 26 letters, cut.
use Rattle.std.specs.Prelude.{ℕ, ◌≡◌, List, [], ◌∷◌, Some, codes, false, map}
use Rattle.miette_labels.specs.rules.Labels.{DrawnLabel}
use Rattle.miette_style.specs.rules.Rows.{glyphs_of}
use Rattle.miette_snippet_rules.specs.rules.SnippetSettings.{SnippetSettings}
use Rattle.miette_snippet_rules.specs.rules.SnippetLayout.{cells_of}
use Rattle.miette_lines.specs.rules.Lines.{Line}
use Rattle.miette_style.specs.rules.Styles.{plain}
use Rattle.miette_style.specs.rules.Themes.{Characters, ascii_characters, unicode_characters}
use Rattle.miette_snippet_laws.specs.laws.LineRows.{text_of_line}

-- settings with these characters and this limit, and one column for each character
abbrev pub cut_to_columns : Characters → ℕ → SnippetSettings → SnippetSettings
cut_to_columns characters limit s = record s {
  theme = record s.theme { characters = characters };
  width = λ code. 1;
  layout = record s.layout { line_columns = Some limit };
}

-- a line of letters with its terminator
abbrev pub letters : List ℕ
letters = codes "abcdefghijklmnopqrstuvwxyz\n"

abbrev pub letters_line : Line
letters_line = record { start = 0; text_end = 26; end = 27 }

-- the letters after a first line of one character
abbrev pub lower_letters : List ℕ
lower_letters = codes "a\nabcdefghijklmnopqrstuvwxyz\n"

abbrev pub lower_line : Line
lower_line = record { start = 2; text_end = 28; end = 29 }

-- a label from one offset up to another, with these lines of text
abbrev pub label_over : ℕ → ℕ → List (List ℕ) → DrawnLabel
label_over start after parts = record { start = start; after = after; style = plain; parts = parts; after_text = false }

-- what is shown of the letters with these labels
abbrev pub letters_shown : SnippetSettings → List DrawnLabel → List ℕ
letters_shown s labels =
    map (λ g. g.code) (glyphs_of (text_of_line s labels letters_line (cells_of s letters letters_line) []))

-- and of the letters on the second line
abbrev pub lower_shown : SnippetSettings → List DrawnLabel → List ℕ
lower_shown s labels =
    map (λ g. g.code) (glyphs_of (text_of_line s labels lower_line (cells_of s lower_letters lower_line) []))

-- without a label: in Unicode, in ASCII, and with a limit below 8
pub record AreFirstShown (s : SnippetSettings) : Type 0 where
  pub unicode : letters_shown (cut_to_columns unicode_characters 8 s) [] ≡ codes "abcdefg…"
  pub ascii : letters_shown (cut_to_columns ascii_characters 8 s) [] ≡ codes "abcde..."
  pub limit : letters_shown (cut_to_columns unicode_characters 1 s) [] ≡ codes "abcdefg…"

-- Around the 14th letter. Around the 4th, 13th and 21st: the ends and the pointer of a label. The same label without
-- its text. Where a multi-line label begins, and where one ends.
pub record AreEndsShown (s : SnippetSettings) : Type 0 where
  pub one : letters_shown (cut_to_columns unicode_characters 8 s) (label_over 13 13 ([] ∷ []) ∷ []) ≡ codes "…lmnop…"
  pub ascii : letters_shown (cut_to_columns ascii_characters 8 s) (label_over 13 13 ([] ∷ []) ∷ []) ≡ codes "...n..."
  pub ends : letters_shown (cut_to_columns unicode_characters 8 s) (label_over 3 21 ([] ∷ []) ∷ []) ≡ codes "…d…m…u…"
  pub wide : letters_shown (cut_to_columns ascii_characters 8 s) (label_over 3 21 ([] ∷ []) ∷ [])
      ≡ codes "abcd...m...u..."
  -- `bare`: the label has no text
  pub bare : letters_shown (cut_to_columns unicode_characters 8 s) (label_over 3 21 [] ∷ []) ≡ codes "…d…u…"
  pub begin : letters_shown (cut_to_columns unicode_characters 12 s) (label_over 20 53 [] ∷ []) ≡ codes "…pqrstuvwxyz"
  pub end : lower_shown (cut_to_columns unicode_characters 12 s) (label_over 0 17 [] ∷ []) ≡ codes "…klmnopqrs…"
