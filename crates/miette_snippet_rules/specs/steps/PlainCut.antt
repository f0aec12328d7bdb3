-- Printing printable ASCII that is cut.
use Rattle.std.specs.Prelude.{ℕ, ◌+◌, List, [], ◌∷◌, ◌++◌, take, drop, if◌then◌else◌}
use Rattle.miette_style.specs.rules.Rows.{Run}
use Rattle.miette_style.specs.views.Tokens.{RowToken, row_tokens, styled_tokens}
use Rattle.miette_style.specs.rules.Styles.{plain}
use Rattle.miette_snippet_rules.specs.declared.line_part.LinePart.{LinePart as MadePart}

-- what is printed of one part, and of all parts, with this run for hidden ones
abbrev pub plain_part : Run → MadePart → List ℕ → List RowToken
plain_part run s bytes = if s.shown then styled_tokens plain (take s.cells bytes) else row_tokens (run ∷ [])

abbrev pub plain_told : Run → List MadePart → List ℕ → List RowToken
plain_told run [] bytes = []
plain_told run (s ∷ later) bytes = plain_part run s bytes ++ plain_told run later (drop s.cells bytes)
