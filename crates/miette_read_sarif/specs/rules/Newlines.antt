-- Where lines end, by a run's newline sequences.
use Rattle.std.specs.Prelude.{ℕ, zero, suc, ◌+◌, List, [], ◌∷◌, Option, Some, None, Bool, codes, drop, find, length}
use Rattle.std.specs.Prelude.{nat_eq, option_and_then}
use Rattle.std.specs.List.{filter_map, starts_with}
use Rattle.serde_json.specs.Data.{Data}
use Rattle.serde_json.specs.Find.{as_str}
use Rattle.miette_read.specs.rules.Members.{member_items, nonempty_text}

-- The default newline sequences: CR LF and LF.
abbrev pub usual_newlines : List (List ℕ)
usual_newlines = (13 ∷ (10 ∷ [])) ∷ ((10 ∷ []) ∷ [])

abbrev pub or_usual : List (List ℕ) → List (List ℕ)
or_usual [] = usual_newlines
or_usual (s ∷ ss) = s ∷ ss

-- A nonempty sequence.
abbrev pub sequence_in : Data → Option (List ℕ)
sequence_in d = nonempty_text (as_str d)

-- The newline sequences of a run.
abbrev pub newlines_of : Data → List (List ℕ)
newlines_of run = or_usual (filter_map sequence_in (member_items (codes "newlineSequences") run))

abbrev pub stands_in : List ℕ → List ℕ → Bool
stands_in bytes s = starts_with nat_eq bytes s

abbrev pub size_of : Option (List ℕ) → ℕ
size_of None = 0
size_of (Some s) = length s

-- The length of the newline here: that of the first matching sequence, or 0.
abbrev pub end_size : List (List ℕ) → List ℕ → ℕ
end_size newlines bytes = size_of (find (stands_in bytes) newlines)

-- One byte more, unless a line ends here.
abbrev pub one_more : ℕ → ℕ → ℕ
one_more zero size = suc size
one_more (suc end) size = 0

-- The length of the first line's text.
abbrev pub text_size : List (List ℕ) → List ℕ → ℕ
text_size newlines [] = 0
text_size newlines (b ∷ bs) = one_more (end_size newlines (b ∷ bs)) (text_size newlines bs)

abbrev pub ended_by : ℕ → ℕ → Option ℕ
ended_by text zero = None
ended_by text (suc end) = Some (text + suc end)

-- The length of the first line with its newline, if it has one.
abbrev pub line_size : List (List ℕ) → List ℕ → Option ℕ
line_size newlines bytes =
    ended_by (text_size newlines bytes) (end_size newlines (drop (text_size newlines bytes) bytes))

-- The start of the line `n` lines after the one at offset `at`.
abbrev pub nth_line_start : List (List ℕ) → List ℕ → ℕ → ℕ → Option ℕ
nth_line_start newlines bytes at zero = Some at
nth_line_start newlines bytes at (suc k) =
    option_and_then (λ size. nth_line_start newlines bytes (at + size) k) (line_size newlines (drop at bytes))
