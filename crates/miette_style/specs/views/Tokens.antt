-- Rows as a list of steps: the start of each run with its style, its characters, and the end of each row. Column widths
-- are not part of it.
use Rattle.std.specs.Prelude.{ℕ, List, [], ◌∷◌, ◌++◌, map}
use Rattle.miette_style.specs.declared.style.Style.{Style}
use Rattle.miette_style.specs.rules.Rows.{Run, Row}

pub data RowToken : Type 0 where
  begins : Style → RowToken
  character : ℕ → RowToken
  row_end : RowToken

-- the tokens of characters
abbrev pub text_tokens : List ℕ → List RowToken
text_tokens codes = map (λ code. character code) codes

abbrev pub run_tokens : Run → List RowToken
run_tokens run = begins run.style ∷ text_tokens (map (λ p. p.code) run.glyphs)

-- the tokens of a row, without its end
abbrev pub row_tokens : Row → List RowToken
row_tokens [] = []
row_tokens (run ∷ row) = run_tokens run ++ row_tokens row

-- the tokens of rows, each with its end
abbrev pub rows_tokens : List Row → List RowToken
rows_tokens [] = []
rows_tokens (row ∷ rows) = row_tokens row ++ row_end ∷ rows_tokens rows

-- a run with a style, given its characters
abbrev pub styled_tokens : Style → List ℕ → List RowToken
styled_tokens style codes = begins style ∷ text_tokens codes
