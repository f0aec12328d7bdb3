-- The text of a message as it is shown: placeholders are replaced by arguments, double braces are single, and links are
-- their texts.
use Rattle.std.specs.Prelude.{ℕ, zero, suc, ◌+◌, List, [], ◌∷◌, ◌++◌, Option, Some, None, Bool, true, false, not, ◌&&◌}
use Rattle.std.specs.Prelude.{◌||◌, ◌==◌, nat_lt, nat_le, if◌then◌else◌, drop, take, slice_get, slice_index}
use Rattle.std.specs.Prelude.{option_and_then}
use Rattle.std.specs.List.{position_or_len}
use Rattle.std.specs.Str.Parse.{digits_value}
use Rattle.serde_json.specs.Data.{Data}
use Rattle.serde_json.specs.Find.{as_str}

-- A piece of a message: the shown text, the number of bytes after its first one, and whether a link's text continues
-- after it.
pub record MessagePiece : Type 0 where
  pub message_shown : List ℕ
  pub further : ℕ
  pub in_link : Bool

-- One byte, as it is.
abbrev pub plain : Bool → ℕ → MessagePiece
plain in_link b = record { message_shown = b ∷ []; further = 0; in_link = in_link }

abbrev pub is_brace : ℕ → Bool
is_brace b = (b == 123) || (b == 125)

abbrev pub is_bracket : ℕ → Bool
is_bracket b = (b == 91) || (b == 93)

-- A bracket or a backslash, which a backslash can escape.
abbrev pub is_escapable : ℕ → Bool
is_escapable b = (b == 92) || is_bracket b

-- A byte that can start a piece of several bytes.
abbrev pub is_mark : ℕ → Bool
is_mark b = is_brace b || is_escapable b

-- ---- arguments

abbrev pub is_no_digit : ℕ → Bool
is_no_digit b = not (nat_le 48 b && nat_le b 57)

-- The number of digits at the start of a text.
abbrev pub digit_count : List ℕ → ℕ
digit_count text = position_or_len is_no_digit text

-- The argument with this zero-based number, if it is a text.
abbrev pub argument : List Data → ℕ → Option (List ℕ)
argument arguments n = option_and_then as_str (slice_get arguments n)

-- The argument of a placeholder, after its `{`: digits and `}`.
abbrev pub argument_at : List Data → List ℕ → Option (List ℕ)
argument_at arguments text =
    if nat_lt 0 (digit_count text) && (slice_index text (digit_count text) == 125)
    then argument arguments (digits_value 10 (take (digit_count text) text)) else None

-- `{0}` becomes an argument. A brace without a placeholder stays as it is.
abbrev pub placed : Bool → ℕ → Option (List ℕ) → MessagePiece
placed in_link count None = plain in_link 123
placed in_link count (Some text) = record { message_shown = text; further = count + 1; in_link = in_link }

-- Two braces become one.
abbrev pub brace_piece : List Data → Bool → ℕ → List ℕ → MessagePiece
brace_piece arguments in_link b text =
    if slice_index text 0 == b then record { message_shown = b ∷ []; further = 1; in_link = in_link }
    else if b == 123 then placed in_link (digit_count text) (argument_at arguments text) else plain in_link b

-- ---- links

-- The number of bytes before the first bracket that isn't escaped.
abbrev pub bracket_at : Bool → List ℕ → ℕ
bracket_at escaped [] = 0
bracket_at escaped (b ∷ bs) =
    if is_bracket b && not escaped then 0 else suc (bracket_at ((b == 92) && not escaped) bs)

-- A byte that can't be in a link's destination: a blank, a control byte, a byte outside ASCII, a bracket or `)`.
abbrev pub ends_destination : ℕ → Bool
ends_destination b = not (nat_lt 32 b && nat_lt b 127) || ((b == 41) || is_bracket b)

-- The length of the destination after the first byte of a text.
abbrev pub destination_count : List ℕ → ℕ
destination_count text = position_or_len ends_destination (drop 1 text)

-- Whether a text starts with a destination in parentheses.
abbrev pub has_destination : List ℕ → Bool
has_destination text =
    (slice_index text 0 == 40)
    && (nat_lt 0 (destination_count text) && (slice_index text (destination_count text + 1) == 41))

-- Whether a link follows its `[`: a text without unescaped brackets, `]`, and a destination.
abbrev pub is_link : List ℕ → Bool
is_link text =
    (slice_index text (bracket_at false text) == 93) && has_destination (drop (bracket_at false text + 1) text)

-- In a link's text the backslash of an escape is dropped. Elsewhere it stays.
abbrev pub escaped : Bool → ℕ → List ℕ
escaped in_link b = if in_link then b ∷ [] else 92 ∷ (b ∷ [])

abbrev pub backslash_piece : Bool → List ℕ → MessagePiece
backslash_piece in_link text =
    if is_escapable (slice_index text 0)
    then record { message_shown = escaped in_link (slice_index text 0); further = 1; in_link = in_link } else plain
    in_link 92

-- Only the text of a link is shown.
abbrev pub opening_piece : Bool → List ℕ → MessagePiece
opening_piece in_link text =
    if not in_link && is_link text then record { message_shown = []; further = 0; in_link = true } else plain in_link 91

abbrev pub closing_piece : Bool → List ℕ → MessagePiece
closing_piece in_link text =
    if in_link && has_destination text
    then record { message_shown = []; further = destination_count text + 2; in_link = false } else plain in_link 93

-- ---- all of it

-- The piece that starts with byte `b`, before `text`.
unfoldable pub piece_of : List Data → Bool → ℕ → List ℕ → MessagePiece
piece_of arguments in_link b text =
    if is_brace b then brace_piece arguments in_link b text
    else if b == 92 then backslash_piece in_link text
    else if b == 91 then opening_piece in_link text
    else if b == 93 then closing_piece in_link text else plain in_link b

-- The shown text after the first `n` bytes.
abbrev pub shown_after : List Data → Bool → ℕ → List ℕ → List ℕ
shown_after arguments in_link n [] = []
shown_after arguments in_link zero (b ∷ bs) =
    let piece = piece_of arguments in_link b bs in
    piece.message_shown ++ shown_after arguments piece.in_link piece.further bs
shown_after arguments in_link (suc n) (b ∷ bs) = shown_after arguments in_link n bs

-- The shown text.
abbrev pub message_shown : List Data → List ℕ → List ℕ
message_shown arguments text = shown_after arguments false 0 text
