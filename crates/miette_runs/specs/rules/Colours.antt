-- Which escape sequences are colours, and which are those of links.
use Rattle.std.specs.Prelude.{ℕ, Bool, false, ◌&&◌, not, ◌==◌, if◌then◌else◌, List, [], ◌∷◌}
use Rattle.miette_lines.specs.rules.Lists.{is_nil}
use Rattle.miette_runs.specs.rules.Sequences.{is_bell, is_line_feed, is_parameter}
use Rattle.miette_style.specs.rules.Escapes.{is_escape}

-- `m` after digits and `;`
abbrev pub is_colour_end : List ℕ → Bool
is_colour_end [] = false
is_colour_end (c ∷ cs) = if c == 109 then is_nil cs else is_parameter c && is_colour_end cs

abbrev pub is_colour_after : List ℕ → Bool
is_colour_after [] = false
is_colour_after (c ∷ cs) = c == 91 && is_colour_end cs

-- a colour: `ESC [`, digits and `;`, `m`
abbrev pub is_colour : List ℕ → Bool
is_colour [] = false
is_colour (c ∷ cs) = is_escape c && is_colour_after cs

abbrev pub is_backslash : List ℕ → Bool
is_backslash [] = false
is_backslash (c ∷ cs) = c == 92 && is_nil cs

-- BEL or `ESC \`, after codes that are no escape, BEL or line feed
abbrev pub is_link_end : List ℕ → Bool
is_link_end [] = false
is_link_end (c ∷ cs) =
    if is_bell c then is_nil cs
    else if is_escape c then is_backslash cs
    else not (is_line_feed c) && is_link_end cs

abbrev pub is_link_after : List ℕ → Bool
is_link_after [] = false
is_link_after (c ∷ cs) = c == 93 && is_link_end cs

-- the sequence of a link: `ESC ]`, codes without escape, BEL or `ESC \`
abbrev pub is_link : List ℕ → Bool
is_link [] = false
is_link (c ∷ cs) = is_escape c && is_link_after cs
