-- Words separated by Unicode: the rest of a line after a part.
use Rattle.std.specs.Prelude.{◌≡◌, ℕ, zero, suc, ◌+◌, ◌≤◌, Bool, true, false, not, ◌&&◌, ◌||◌, ◌==◌, nat_le}
use Rattle.std.specs.Prelude.{if◌then◌else◌, List, [], ◌∷◌, ◌++◌, map, flat_map, take, drop, length}
use Rattle.std.specs.Option.{is_some}
use Rattle.miette_lines.specs.rules.Lists.{onto}
use Rattle.miette_line_breaks.specs.declared.state.BreakState.{BreakState}
use Rattle.miette_line_breaks.specs.views.Places.{after_code, found_before, is_in_word}
use Rattle.miette_runs.specs.rules.Cells.{TaggedChar}
use Rattle.miette_runs.specs.steps.Cells.{code_columns}
use Rattle.miette_text.specs.declared.wrapping.unicode_words.UnicodeWords.{UnicodeWords}
use Rattle.miette_text.specs.rules.Wrapping.{Cuts, Word, is_hyphen, narrow_parts, parts, with_spaces, word_of}
use Rattle.miette_text.specs.steps.Ends.{hyphenated_after, letters_len}

-- no code ends every word
abbrev pub never : ℕ → Bool
never c = false

-- printable ASCII except `-`: one column, and no word is split after it
abbrev pub is_printed : ℕ → Bool
is_printed c = nat_le 32 c && nat_le c 126 && not (c == 45)

abbrev pub all_printed : List ℕ → Bool
all_printed [] = true
all_printed (c ∷ cs) = is_printed c && all_printed cs

-- the state after `n` codes
abbrev pub state_at : BreakState → ℕ → List ℕ → BreakState
state_at s zero cs = s
state_at s (suc n) [] = s
state_at s (suc n) (c ∷ cs) = state_at (after_code s c) n cs

-- how many codes precede the next one that begins a word; if the flag is set, the first code begins none
abbrev pub piece_len : BreakState → Bool → List ℕ → ℕ
piece_len s joined [] = 0
piece_len s joined (c ∷ cs) =
    if not joined && is_some (found_before s c) then 0 else suc (piece_len (after_code s c) (is_hyphen c) cs)

-- how many codes can be skipped at once: letters after a letter, without a hyphen before them
abbrev pub passed_len : BreakState → Bool → List ℕ → ℕ
passed_len s joined cs = if joined || not (is_in_word s) then 0 else letters_len cs

abbrev pub ends_in : BreakState → ℕ → List TaggedChar → Bool
ends_in s b [] = false
ends_in s b (c ∷ cs) = not (is_hyphen b) && is_some (found_before s c.code)

abbrev pub pieces_in : BreakState → List TaggedChar → List (List TaggedChar)
pieces_in s [] = []
pieces_in s (c ∷ cs) =
    if ends_in (after_code s c.code) c.code cs then (c ∷ []) ∷ pieces_in (after_code s c.code) cs
    else onto c (pieces_in (after_code s c.code) cs)

abbrev pub words_in : BreakState → List TaggedChar → List Word
words_in s cells = map word_of (pieces_in s cells)

-- the parts of words, the first of which follows a code
abbrev pub parts_after : Cuts → ℕ → Word → List Word → List Word
parts_after cuts before w ws =
    with_spaces w.spaces (flat_map (narrow_parts cuts) (hyphenated_after cuts before w.letters))
    ++ flat_map (parts cuts) ws

abbrev pub is_done : UnicodeWords → Bool
is_done it = (it.letters == 0) && (it.spaces == 0)

-- the rest of a word, and the words after it
abbrev pub rest_in : UnicodeWords → Cuts → List TaggedChar → List Word
rest_in it cuts cells =
    if is_done it then flat_map (parts cuts) (words_in it.state cells)
    else parts_after cuts it.before
    (record { letters = take it.letters cells; spaces = take it.spaces (drop it.letters cells) })
    (words_in it.state (drop (it.letters + it.spaces) cells))

abbrev pub left_in : UnicodeWords → Cuts → List TaggedChar → List Word
left_in it cuts [] = []
left_in it cuts (c ∷ cs) = rest_in it cuts (c ∷ cs)

-- the line has the rest of the word, and its spaces have one column each
abbrev pub fits_in : UnicodeWords → List ℕ → Type 0
fits_in it codes =
    (it.letters + it.spaces ≤ length codes) × (code_columns (take it.spaces (drop it.letters codes)) ≡ it.spaces)
