-- What comes before the text of a line, part by part.
use Rattle.std.specs.Prelude.{ℕ, ◌-◌, [], ◌∷◌, ◌++◌, length, decimal, replicate}
use Rattle.miette_style.specs.rules.Rows.{Row, styled_run}
use Rattle.miette_snippet_rules.specs.rules.LabelRows.{blank}
use Rattle.miette_snippet_rules.specs.rules.SnippetSettings.{SnippetSettings}

-- a line's number
abbrev pub digits_row : SnippetSettings → ℕ → ℕ → Row
digits_row s w number =
    blank s 1
    ∷ styled_run s.width s.theme.styles.linum (replicate (w - length (decimal number)) 32 ++ decimal number) ∷ []
