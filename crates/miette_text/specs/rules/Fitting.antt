-- Which texts fit into one line after an indent, both unchanged.
use Rattle.std.specs.Prelude.{ℕ, ◌+◌, Bool, true, false, not, ◌&&◌, ◌||◌, nat_le, if◌then◌else◌, List, [], ◌∷◌, sum_by}
use Rattle.std.specs.Char.{is_whitespace}
use Rattle.miette_style.specs.rules.Escapes.{is_escape}
use Rattle.miette_runs.specs.rules.Sequences.{Token, is_line_feed, are_canonical}
use Rattle.miette_text.specs.rules.Wrapping.{is_space}
use Rattle.miette_runs.specs.rules.Cells.{printed_columns, width}

-- no escape and no line feed
abbrev pub is_line : List ℕ → Bool
is_line [] = true
is_line (c ∷ cs) = not (is_escape c || is_line_feed c) && is_line cs

-- the last character isn't a space; the flag answers for an empty text
abbrev pub ends_bare : Bool → List ℕ → Bool
ends_bare bare [] = bare
ends_bare bare (c ∷ cs) = ends_bare (not (is_space c)) cs

-- a character that isn't white space
abbrev pub has_ink : List ℕ → Bool
has_ink [] = false
has_ink (c ∷ cs) = not (is_whitespace c) || has_ink cs

-- If lines are wrapped, both fit and the text doesn't end with a space. If not, the text isn't white space.
abbrev pub fits : Bool → ℕ → List Token → List ℕ → Bool
fits wrap_lines room indent text =
    are_canonical indent && (is_line text && (
    if wrap_lines then ends_bare true text && nat_le (printed_columns indent + sum_by width text) room
    else has_ink text))
