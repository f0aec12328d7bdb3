-- What a pattern matches at the start of a text, in bytes.
use Rattle.std.specs.Prelude.{◌≡◌, ℕ, ◌+◌, Bool, true, false, ◌&&◌, ◌||◌, not, ◌==◌, nat_le, nat_lt, nat_eq}
use Rattle.std.specs.Prelude.{Option, Some, None, List, [], ◌∷◌, length, take, drop, map, string_bytes, String}
use Rattle.std.specs.Prelude.{if◌then◌else◌, take_while}
use Rattle.std.specs.Char.{is_ascii_alphanumeric}
use Rattle.std.specs.List.{starts_with}
use Rattle.std.specs.Str.{bytes_eq}
use Rattle.std.specs.declared.alloc.Global.{Global}
use Rattle.miette_highlight.specs.declared.rule.Delimiters.{Delimiters}
use Rattle.miette_highlight.specs.declared.rule.Pattern.{Pattern}
use Rattle.miette_highlight.specs.declared.rule.Pattern.TheVariants.{Words, From, Between, Character, Prefixed, Raw}

-- a byte of an ASCII letter or digit, of `_`, or of a non-ASCII character
abbrev pub is_word_byte : ℕ → Bool
is_word_byte b = is_ascii_alphanumeric b || b == 95 || nat_le 128 b

-- where the word at the front of a text ends; the text begins at an offset
abbrev pub word_end : ℕ → List ℕ → ℕ
word_end at [] = at
word_end at (b ∷ bs) = if is_word_byte b then word_end (at + 1) bs else at

-- whether a word is in a list
abbrev pub is_listed_word : List (String Global) → List ℕ → Bool
is_listed_word [] word = false
is_listed_word (w ∷ ws) word = if bytes_eq (string_bytes w) word then true else is_listed_word ws word

-- whether a text begins with a byte of a range
abbrev pub begins_within : ℕ → ℕ → List ℕ → Bool
begins_within first last [] = false
begins_within first last (b ∷ bs) = nat_le first b && nat_le b last

abbrev pub escapes_next : Option ℕ → ℕ → Bool
escapes_next None b = false
escapes_next (Some escape) b = escape == b

-- where the first unescaped closing delimiter ends; the text begins at an offset, after an escape or not
abbrev pub close_end : Delimiters → Bool → ℕ → List ℕ → Option ℕ
close_end delimiters escaped at [] = None
close_end delimiters escaped at (b ∷ bs) =
    if not escaped && starts_with nat_eq (b ∷ bs) (string_bytes delimiters.closes)
    then Some (at + length (string_bytes delimiters.closes))
    else close_end delimiters (not escaped && escapes_next delimiters.escape b) (at + 1) bs

-- A match: its length in bytes, and if it stays open, how many hashes close it.
abbrev pub MatchEnd : Type 0
MatchEnd = ℕ × Option ℕ

-- up to the end that was found, else up to the end of the line, open if it may continue
abbrev pub closed_at : Option ℕ → ℕ → Option ℕ → MatchEnd
closed_at (Some end) line_end goes_on = (end, None)
closed_at None line_end goes_on = (line_end, goes_on)

-- no hashes close a part between delimiters
abbrev pub open_over : Bool → Option ℕ
open_over over_lines = if over_lines then Some 0 else None

-- where a part ends after its opening delimiter; the text begins at an offset
abbrev pub inside : Delimiters → ℕ → List ℕ → MatchEnd
inside delimiters at text =
    closed_at (close_end delimiters false at text) (at + length text) (open_over delimiters.over_lines)

-- how many hashes a text begins with
abbrev pub is_hash : ℕ → Bool
is_hash b = b == 35

abbrev pub hash_count : List ℕ → ℕ
hash_count text = length (take_while is_hash text)

-- where the first quote followed by `hashes` hashes ends, with these; the text begins at an offset
abbrev pub raw_end : ℕ → ℕ → List ℕ → Option ℕ
raw_end hashes at [] = None
raw_end hashes at (b ∷ bs) =
    if b == 34 && nat_le hashes (hash_count bs) then Some (at + 1 + hashes) else raw_end hashes (at + 1) bs

-- where a raw string ends after its first quote; the text begins at an offset
abbrev pub raw_inside : ℕ → ℕ → List ℕ → MatchEnd
raw_inside hashes at text = closed_at (raw_end hashes at text) (at + length text) (Some hashes)

-- where a raw string with `hashes` hashes ends, if the text begins with its quote
abbrev pub raw_after_quote : ℕ → ℕ → List ℕ → Option MatchEnd
raw_after_quote hashes at [] = None
raw_after_quote hashes at (b ∷ bs) = if b == 34 then Some (raw_inside hashes (at + 1) bs) else None

-- where a raw string ends after its prefix of `before` bytes
abbrev pub raw_text : ℕ → List ℕ → Option MatchEnd
raw_text before text = raw_after_quote (hash_count text) (before + hash_count text) (drop (hash_count text) text)

-- a byte that continues a character
abbrev pub is_continuation : ℕ → Bool
is_continuation b = nat_le 128 b && nat_lt b 192

-- a byte that continues a character, or an escape such as `\u{10_FFFF}`, where it is a word byte or a brace
abbrev pub is_char_tail : Bool → ℕ → Bool
is_char_tail escaped b = if escaped then is_word_byte b || b == 123 || b == 125 else is_continuation b

-- where a character or escape ends, with its closing delimiter, after its first byte
abbrev pub char_tail_end : Delimiters → Bool → ℕ → List ℕ → Option MatchEnd
char_tail_end delimiters escaped at [] = None
char_tail_end delimiters escaped at (b ∷ bs) =
    if starts_with nat_eq (b ∷ bs) (string_bytes delimiters.closes)
    then Some (at + length (string_bytes delimiters.closes), None)
    else if is_char_tail escaped b then char_tail_end delimiters escaped (at + 1) bs else None

-- where the character or escape at the front ends, with its closing delimiter; in an escape any character may follow
-- the escape byte
abbrev pub character_end : Delimiters → ℕ → List ℕ → Option MatchEnd
character_end delimiters at [] = None
character_end delimiters at (b ∷ bs) =
    if starts_with nat_eq (b ∷ bs) (string_bytes delimiters.closes) then None
    else if escapes_next delimiters.escape b then char_tail_end delimiters true (at + 2) (drop 1 bs)
    else char_tail_end delimiters false (at + 1) bs

-- a byte and the word after it, if the text begins with both
abbrev pub prefixed_word : ℕ → List ℕ → Option MatchEnd
prefixed_word byte [] = None
prefixed_word byte (b ∷ bs) =
    if b == byte && nat_lt 0 (word_end 0 bs) then Some (word_end 0 bs + 1, None) else None

-- what a pattern matches at the start of a text
abbrev pub match_of : Pattern → List ℕ → Option MatchEnd
match_of (Words words) text =
    if is_listed_word words.items (take (word_end 0 text) text) then Some (word_end 0 text, None) else None
match_of (From first last) text = if begins_within first last text then Some (word_end 0 text, None) else None
match_of (Between delimiters) text =
    if starts_with nat_eq text (string_bytes delimiters.opens)
    then Some (inside delimiters (length (string_bytes delimiters.opens))
    (drop (length (string_bytes delimiters.opens)) text))
    else None
match_of (Character delimiters) text =
    if starts_with nat_eq text (string_bytes delimiters.opens)
    then character_end delimiters (length (string_bytes delimiters.opens))
    (drop (length (string_bytes delimiters.opens)) text)
    else None
match_of (Prefixed byte) text = prefixed_word byte text
match_of (Raw prefix) text =
    if starts_with nat_eq text (string_bytes prefix)
    then raw_text (length (string_bytes prefix)) (drop (length (string_bytes prefix)) text)
    else None

-- a pattern of these words
abbrev pub IsWords : List (List ℕ) → Pattern → Type 0
IsWords texts (Words words) = map (λ w. string_bytes w) words.items ≡ texts
IsWords texts (From first last) = ⊥
IsWords texts (Between delimiters) = ⊥
IsWords texts (Character delimiters) = ⊥
IsWords texts (Prefixed byte) = ⊥
IsWords texts (Raw prefix) = ⊥

-- delimiters, their escape, and whether a part continues on the next line
abbrev pub AreDelimiters : List ℕ → List ℕ → Option ℕ → Bool → Delimiters → Type 0
AreDelimiters opens closes escape over_lines delimiters =
    (string_bytes delimiters.opens ≡ opens) × (string_bytes delimiters.closes ≡ closes)
    × (delimiters.escape ≡ escape) × (delimiters.over_lines ≡ over_lines)
