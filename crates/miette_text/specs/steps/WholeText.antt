-- Text under indents without wrapping, as the code processes it.
use Rattle.std.specs.Prelude.{◌≡◌, ℕ, zero, suc, Bool, true, false, ◌&&◌, Option, None, Some, List, [], ◌∷◌, ◌++◌}
use Rattle.std.specs.Prelude.{chars}
use Rattle.std.specs.Prelude.{◌==◌, if◌then◌else◌, nat_le, not}
use Rattle.std.specs.Char.{is_whitespace}
use Rattle.miette_runs.specs.rules.Sequences.{Token, Character, Sequence, after_escape_len, begins, colour_len}
use Rattle.miette_runs.specs.rules.Sequences.{command_len, control_len, is_final, is_line_feed, spell, tokens}
use Rattle.miette_runs.specs.rules.Sequences.{tokens_after}
use Rattle.miette_text.specs.declared.wrapping.blank_lines.SequenceState.{SequenceState}
use Rattle.miette_text.specs.declared.wrapping.blank_lines.SequenceState.TheVariants.{Outside, Escape, Control, Command}
use Rattle.miette_text.specs.declared.wrapping.blank_lines.SequenceState.TheVariants.{CommandEscape}
use Rattle.miette_text.specs.laws.FittingRows.{is_row}
use Rattle.miette_text.specs.rules.Wrapping.{trimmed_row}

-- ---- the first line of a text

-- no line feed
abbrev pub is_in_row : ℕ → Bool
is_in_row c = not (is_line_feed c)

-- the text before the first line feed, and the text after it
abbrev pub IsFirstLine : List ℕ → List ℕ → List ℕ → Type 0
IsFirstLine text line rest = (is_row line ≡ true) × (text ≡ line ++ 10 ∷ rest)

-- ---- lines that show nothing

-- only sequences, and white space if the flag is set
abbrev pub are_passed : Bool → List Token → Bool
are_passed blanks [] = true
are_passed blanks (Character c ∷ ts) = (blanks && is_whitespace c) && are_passed blanks ts
are_passed blanks (Sequence s ∷ ts) = are_passed blanks ts

-- the same after `n` codes that end a sequence; it isn't whole if `n` is 0
abbrev pub passed_after : Bool → ℕ → List ℕ → Bool
passed_after blanks zero cs = false
passed_after blanks (suc k) cs = are_passed blanks (tokens_after (suc k) cs)

-- the same for the rest of a text, given the state of a walk over it
abbrev pub passed_from : SequenceState → Bool → List ℕ → Bool
passed_from Outside blanks cs = are_passed blanks (tokens cs)
passed_from Escape blanks cs = passed_after blanks (after_escape_len cs) cs
passed_from Control blanks cs = passed_after blanks (control_len cs) cs
passed_from Command blanks cs = passed_after blanks (command_len cs) cs
passed_from CommandEscape blanks cs =
    if begins 92 cs then passed_after blanks 1 cs else passed_after blanks (command_len cs) cs

-- false if the walk was left
abbrev pub passed_through : Option SequenceState → Bool → List ℕ → Bool
passed_through None blanks cs = false
passed_through (Some place) blanks cs = passed_from place blanks cs

-- how many bytes at the front are skipped at once: a colour, or a space if the flag is set
abbrev pub front_len : Bool → List ℕ → ℕ
front_len blanks bytes = if blanks && begins 32 bytes then 1 else colour_len bytes

-- from `!` to `~`
abbrev pub is_visible : ℕ → Bool
is_visible c = nat_le 33 c && nat_le c 126

-- from `!` to `?`: it ends no sequence
abbrev pub is_low : ℕ → Bool
is_low c = nat_le 33 c && nat_le c 63

-- ends a sequence that begins with `ESC [`, except for the `[` of the next one
abbrev pub closes : ℕ → Bool
closes c = is_final c && not (c == 91)

-- ---- a line under its indent

-- without trailing spaces if the line shows nothing
abbrev pub indent_before : Bool → List Token → List Token
indent_before is_white indent = if is_white then trimmed_row indent else indent

-- an indent as it is printed, with and without trailing spaces
abbrev pub ArePrinted : List ℕ → List ℕ → List Token → Type 0
ArePrinted whole bare indent = (chars whole ≡ spell indent) × (chars bare ≡ spell (trimmed_row indent))

abbrev pub line_indent : List Token → List ℕ → List Token
line_indent indent line = indent_before (are_passed true (tokens line)) indent

abbrev pub line_under : List Token → List ℕ → List ℕ
line_under indent line = spell (line_indent indent line) ++ line

-- the text after the last line feed; sequences without a character have no indent
abbrev pub last_under : List Token → List ℕ → List ℕ
last_under indent line = if are_passed false (tokens line) then line else line_under indent line
