-- The tokens of a text: characters and escape sequences. A text is the list of its character codes.
use Rattle.std.specs.Prelude.{ℕ, zero, suc, Bool, false, ◌&&◌, ◌||◌, ◌==◌, nat_le, nat_lt, length, if◌then◌else◌}
use Rattle.std.specs.Prelude.{List, [], ◌∷◌, ◌++◌}
use Rattle.std.specs.Prelude.{true, not, take}
use Rattle.miette_style.specs.rules.Escapes.{is_escape}

-- ---- the codes that begin and end a sequence

abbrev pub is_line_feed : ℕ → Bool
is_line_feed c = c == 10

abbrev pub is_bell : ℕ → Bool
is_bell c = c == 7

-- the last code of a control sequence
abbrev pub is_final : ℕ → Bool
is_final c = nat_le 0x40 c && nat_le c 0x7E

-- a code between `ESC [` and the `m` of a colour: a digit or `;`
abbrev pub is_parameter : ℕ → Bool
is_parameter c = (nat_le 48 c && nat_le c 57) || (c == 59)

-- the text begins with that code
abbrev pub begins : ℕ → List ℕ → Bool
begins c [] = false
begins c (x ∷ xs) = x == c

-- the text begins with `ESC \`
abbrev pub begins_terminator : List ℕ → Bool
begins_terminator [] = false
begins_terminator (c ∷ cs) = is_escape c && begins 92 cs

-- the text begins with `ESC ]`
abbrev pub begins_command : List ℕ → Bool
begins_command [] = false
begins_command (c ∷ cs) = is_escape c && begins 93 cs

-- ---- the length of a sequence; 0 if there is none

abbrev pub one_more : ℕ → ℕ
one_more zero = zero
one_more (suc n) = suc (suc n)

-- After `ESC [`: up to a code 0x40 to 0x7E, on this line.
abbrev pub control_len : List ℕ → ℕ
control_len [] = 0
control_len (c ∷ cs) = if is_line_feed c then 0 else if is_final c then 1 else one_more (control_len cs)

-- After `ESC ]`: up to BEL or `ESC \`, on this line.
abbrev pub command_len : List ℕ → ℕ
command_len [] = 0
command_len (c ∷ cs) = if is_line_feed c then 0 else if is_bell c then 1 else if begins_terminator (c ∷ cs) then 2
    else one_more (command_len cs)

-- After `ESC [`: digits and `;`, up to an `m`.
abbrev pub colour_end_len : List ℕ → ℕ
colour_end_len [] = 0
colour_end_len (c ∷ cs) = if c == 109 then 1 else if is_parameter c then one_more (colour_end_len cs) else 0

-- the sequence at the front of a text
abbrev pub after_escape_len : List ℕ → ℕ
after_escape_len [] = 0
after_escape_len (c ∷ cs) = if c == 91 then one_more (control_len cs) else if c == 93 then one_more (command_len cs)
    else 0

abbrev pub sequence_len : List ℕ → ℕ
sequence_len [] = 0
sequence_len (c ∷ cs) = if is_escape c then one_more (after_escape_len cs) else 0

-- exactly one complete sequence
abbrev pub is_whole : List ℕ → Bool
is_whole codes = nat_lt 0 (length codes) && (sequence_len codes == length codes)

-- the colour at the front of a text: `ESC [`, digits and `;`, `m`
abbrev pub after_colour_escape_len : List ℕ → ℕ
after_colour_escape_len [] = 0
after_colour_escape_len (c ∷ cs) = if c == 91 then one_more (colour_end_len cs) else 0

abbrev pub colour_len : List ℕ → ℕ
colour_len [] = 0
colour_len (c ∷ cs) = if is_escape c then one_more (after_colour_escape_len cs) else 0

-- ---- the tokens of a text

pub data Token : Type 0 where
  -- a character outside sequences
  Character : ℕ → Token
  -- a complete sequence
  Sequence : List ℕ → Token

-- the tokens after the next codes, which are part of a sequence already

abbrev pub tokens_after : ℕ → List ℕ → List Token
tokens_after skipped [] = []
tokens_after (suc skipped) (c ∷ cs) = tokens_after skipped cs
tokens_after zero (c ∷ cs) = elim (sequence_len (c ∷ cs)) [
  | zero ↦ Character c ∷ tokens_after 0 cs
  | suc k ↦ Sequence (take (suc k) (c ∷ cs)) ∷ tokens_after k cs
]

abbrev pub tokens : List ℕ → List Token
tokens = tokens_after 0

abbrev pub spelling : Token → List ℕ
spelling (Character c) = c ∷ []
spelling (Sequence s) = s

abbrev pub spell : List Token → List ℕ
spell [] = []
spell (t ∷ ts) = spelling t ++ spell ts

-- complete sequences, and characters that aren't escapes: when printed, they read as the same tokens
abbrev pub are_canonical : List Token → Bool
are_canonical [] = true
are_canonical (Character c ∷ ts) = not (is_escape c) && are_canonical ts
are_canonical (Sequence s ∷ ts) = is_whole s && are_canonical ts

-- ---- without colours

abbrev pub erase_after : ℕ → List ℕ → List ℕ
erase_after skipped [] = []
erase_after (suc skipped) (c ∷ cs) = erase_after skipped cs
erase_after zero (c ∷ cs) = elim (colour_len (c ∷ cs)) [
  | zero ↦ c ∷ erase_after 0 cs
  | suc k ↦ erase_after k cs
]

-- a text without its colours: each `ESC [`, any digits and `;`, `m` is deleted
abbrev pub erase : List ℕ → List ℕ
erase = erase_after 0
