-- Characters with the escape sequences before them: what they print, and their width.
use Rattle.std.specs.Prelude.{ℕ, false, List, [], ◌∷◌, ◌++◌, sum_by, unwrap_or}
use Rattle.std.specs.List.{concat}
use Rattle.unicode_width.specs.Width.{char_width}
use Rattle.miette_runs.specs.rules.Sequences.{Token, Character, Sequence}

-- A character, with the sequences before it. They stay with the character.
pub record TaggedChar : Type 0 where
  pub tags : List (List ℕ)
  pub code : ℕ

abbrev pub piece_text : List TaggedChar → List ℕ
piece_text [] = []
piece_text (c ∷ cs) = (concat c.tags ++ c.code ∷ []) ++ piece_text cs

abbrev pub tags_text : List TaggedChar → List ℕ
tags_text [] = []
tags_text (c ∷ cs) = concat c.tags ++ tags_text cs

abbrev pub width : ℕ → ℕ
width c = unwrap_or (char_width false c) 0

abbrev pub token_width : Token → ℕ
token_width (Character c) = width c
token_width (Sequence s) = 0

abbrev pub printed_columns : List Token → ℕ
printed_columns = sum_by token_width
