-- Parts of a frame's rows.
use Rattle.std.specs.Prelude.{ℕ, ◌+◌, [], ◌∷◌, replicate}
use Rattle.miette_style.specs.rules.Rows.{Row, plain_run}
use Rattle.miette_snippet_rules.specs.rules.LabelRows.{blank}
use Rattle.miette_snippet_rules.specs.rules.SnippetSettings.{SnippetSettings}

-- a corner after the line numbers, and `many` bars
abbrev pub corner_row : SnippetSettings → ℕ → ℕ → ℕ → Row
corner_row s w corner many = blank s (w + 2) ∷ plain_run s.width (corner ∷ replicate many s.theme.characters.hbar) ∷ []
