-- How a text is wrapped: the content of each line.
use Rattle.std.specs.Prelude.{ℕ, ◌+◌, ◌-◌, min, Bool, true, false, not, ◌&&◌, ◌||◌, ◌==◌, nat_lt, nat_le}
use Rattle.std.specs.Prelude.{if◌then◌else◌, List, [], ◌∷◌, ◌++◌, map, flat_map, sum_by}
use Rattle.std.specs.Char.{is_whitespace}
use Rattle.std.specs.Option.{is_some}
use Rattle.miette_line_breaks.specs.rules.Rules.{break_before}
use Rattle.miette_runs.specs.rules.Sequences.{Token, Character, Sequence, tokens, spell, is_line_feed}
use Rattle.miette_runs.specs.rules.Cells.{TaggedChar, width, printed_columns}
use Rattle.miette_lines.specs.rules.Lists.{is_nil, onto}
use Rattle.miette_text.specs.declared.options.WordSeparator.{WordSeparator}
use Rattle.miette_text.specs.declared.options.WordSeparator.TheVariants.{AsciiSpace, UnicodeBreakProperties}

-- ---- characters with their sequences, and lines

-- The part between two line feeds: its characters, and the escape sequences after the last one.
pub record TextLine : Type 0 where
  pub cells : List TaggedChar
  pub rest : List (List ℕ)

abbrev pub on_first : {A : Type 0} → (A → A) → List A → List A
on_first f [] = []
on_first f (x ∷ xs) = f x ∷ xs

abbrev pub with_tag : List ℕ → TextLine → TextLine
with_tag tag p = elim p.cells [
  | [] ↦ record { cells = []; rest = tag ∷ p.rest }
  | cell ∷ cells ↦ record { cells = record { tags = tag ∷ cell.tags; code = cell.code } ∷ cells; rest = p.rest }
]

abbrev pub with_code : ℕ → TextLine → TextLine
with_code c p = record { cells = record { tags = []; code = c } ∷ p.cells; rest = p.rest }

abbrev pub no_characters : TextLine
no_characters = record { cells = []; rest = [] }

-- the text, split at each line feed
abbrev pub text_lines : List Token → List TextLine
text_lines [] = no_characters ∷ []
text_lines (Sequence s ∷ ts) = on_first (with_tag s) (text_lines ts)
text_lines (Character c ∷ ts) =
    if is_line_feed c then no_characters ∷ text_lines ts else on_first (with_code c) (text_lines ts)

abbrev pub cell_tokens : TaggedChar → List Token
cell_tokens c = map Sequence c.tags ++ Character c.code ∷ []

-- ---- widths

abbrev pub columns : List TaggedChar → ℕ
columns = sum_by (λ c. width c.code)

-- ---- words

abbrev pub is_space : ℕ → Bool
is_space c = c == 32

-- a word, with the spaces after it
pub record Word : Type 0 where
  pub letters : List TaggedChar
  pub spaces : List TaggedChar

-- `-` and the soft hyphen
abbrev pub is_hyphen : ℕ → Bool
is_hyphen c = (c == 45) || (c == 173)

-- whether a word begins with a code, given the codes before it, nearest first. Separated by spaces: after a space, with
-- a code that isn't one. By Unicode: where a line break is allowed or mandatory, except after a hyphen.
abbrev pub starts_word : WordSeparator → List ℕ → ℕ → Bool
starts_word separator [] c = false
starts_word AsciiSpace (b ∷ bs) c = is_space b && not (is_space c)
starts_word UnicodeBreakProperties (b ∷ bs) c = not (is_hyphen b) && is_some (break_before (b ∷ bs) c)

abbrev pub ends_word : WordSeparator → List ℕ → List TaggedChar → Bool
ends_word separator before [] = false
ends_word separator before (c ∷ cs) = starts_word separator before c.code

-- splits a line before each character that begins a word
abbrev pub pieces : WordSeparator → List ℕ → List TaggedChar → List (List TaggedChar)
pieces separator before [] = []
pieces separator before (c ∷ cs) =
    if ends_word separator (c.code ∷ before) cs then (c ∷ []) ∷ pieces separator (c.code ∷ before) cs
    else onto c (pieces separator (c.code ∷ before) cs)

-- one more character in front; it is one of the word's spaces if the word has no letter
abbrev pub in_front : TaggedChar → Word → Word
in_front c w =
    if is_space c.code && is_nil w.letters then record { letters = []; spaces = c ∷ w.spaces }
    else record { letters = c ∷ w.letters; spaces = w.spaces }

-- the trailing spaces follow the word
abbrev pub word_of : List TaggedChar → Word
word_of [] = record { letters = []; spaces = [] }
word_of (c ∷ cs) = in_front c (word_of cs)

-- the words of a line
abbrev pub words : WordSeparator → List TaggedChar → List Word
words separator cells = map word_of (pieces separator [] cells)

abbrev pub is_alphanumeric : ℕ → Bool
is_alphanumeric c = (nat_le 48 c && nat_le c 57) || (nat_le 65 c && nat_le c 90) || (nat_le 97 c && nat_le c 122)

abbrev pub begins_alphanumeric : List TaggedChar → Bool
begins_alphanumeric [] = false
begins_alphanumeric (c ∷ cs) = is_alphanumeric c.code

-- a word is also split after each `-` between two letters or digits; `before` is the code before it
abbrev pub hyphen_parts : ℕ → List TaggedChar → List (List TaggedChar)
hyphen_parts before [] = [] ∷ []
hyphen_parts before (c ∷ cs) =
    if (c.code == 45) && is_alphanumeric before && begins_alphanumeric cs then (c ∷ []) ∷ hyphen_parts c.code cs
    else onto c (hyphen_parts c.code cs)

-- splits before each character that makes the part too wide, unless the part has no columns; it has `used` columns so
-- far
abbrev pub broken_parts : ℕ → ℕ → List TaggedChar → List (List TaggedChar)
broken_parts room used [] = [] ∷ []
broken_parts room used (c ∷ cs) =
    if nat_lt 0 used && nat_lt room (used + width c.code) then [] ∷ onto c (broken_parts room (width c.code) cs)
    else onto c (broken_parts room (used + width c.code) cs)

-- the last part keeps the spaces
abbrev pub with_spaces : List TaggedChar → List (List TaggedChar) → List Word
with_spaces spaces [] = record { letters = []; spaces = spaces } ∷ []
with_spaces spaces (p ∷ ps) = elim ps [
  | [] ↦ record { letters = p; spaces = spaces } ∷ []
  | q ∷ qs ↦ record { letters = p; spaces = [] } ∷ with_spaces spaces ps
]

-- How words are separated and split: after hyphens, and where they are wider than `narrow` columns.
pub record Cuts : Type 0 where
  pub separator : WordSeparator
  pub split_hyphens : Bool
  pub break_words : Bool
  pub narrow : ℕ

abbrev pub hyphenated_parts : Cuts → List TaggedChar → List (List TaggedChar)
hyphenated_parts c letters = if c.split_hyphens then hyphen_parts 0 letters else letters ∷ []

abbrev pub narrow_parts : Cuts → List TaggedChar → List (List TaggedChar)
narrow_parts c letters = if c.break_words then broken_parts c.narrow 0 letters else letters ∷ []

abbrev pub parts : Cuts → Word → List Word
parts c w = with_spaces w.spaces (flat_map (narrow_parts c) (hyphenated_parts c w.letters))

abbrev pub cut_words : Cuts → List TaggedChar → List Word
cut_words c cells = flat_map (parts c) (words c.separator cells)

-- ---- rows

abbrev pub word_cells : Word → List TaggedChar
word_cells w = w.letters ++ w.spaces

-- A word begins a line exactly if the line so far, with its spaces, and the word are wider than the line. The first
-- line is the rest of one with `used` columns in use.
abbrev pub rows_after : ℕ → ℕ → ℕ → List Word → List (List Word)
rows_after used room further [] = [] ∷ []
rows_after used room further (w ∷ ws) =
    if nat_lt room (used + columns w.letters) then [] ∷ onto w (rows_after (columns (word_cells w)) further further ws)
    else onto w (rows_after (used + columns (word_cells w)) room further ws)

-- the first word is in the first line, however wide it is
abbrev pub rows : ℕ → ℕ → List Word → List (List Word)
rows room further [] = [] ∷ []
rows room further (w ∷ ws) = onto w (rows_after (columns (word_cells w)) room further ws)

-- ---- what a line prints

-- all characters are spaces
abbrev pub only_spaces : List Token → Bool
only_spaces [] = true
only_spaces (Character c ∷ ts) = is_space c && only_spaces ts
only_spaces (Sequence s ∷ ts) = only_spaces ts

-- without trailing spaces; sequences stay
abbrev pub trimmed_row : List Token → List Token
trimmed_row [] = []
trimmed_row (Character c ∷ ts) = if is_space c && only_spaces ts then trimmed_row ts else Character c ∷ trimmed_row ts
trimmed_row (Sequence s ∷ ts) = Sequence s ∷ trimmed_row ts

abbrev pub tokens_of_words : List Word → List Token
tokens_of_words ws = trimmed_row (flat_map cell_tokens (flat_map word_cells ws))

-- the sequences at the end of the text's line go to its last wrapped line
abbrev pub with_rest : List (List ℕ) → List (List Token) → List (List Token)
with_rest rest [] = []
with_rest rest (r ∷ rs) = elim rs [ [] ↦ (r ++ map Sequence rest) ∷ [] | s ∷ ss ↦ r ∷ with_rest rest rs ]

abbrev pub text_line_rows : Cuts → ℕ → ℕ → TextLine → List (List Token)
text_line_rows c room further p = with_rest p.rest (map tokens_of_words (rows room further (cut_words c p.cells)))

-- the first line has its own width
abbrev pub text_rows : Cuts → ℕ → ℕ → List TextLine → List (List Token)
text_rows c room further [] = []
text_rows c room further (p ∷ ps) = text_line_rows c room further p ++ text_rows c further further ps

abbrev pub line_feed : Token
line_feed = Character 10

-- each line under its indent, with line feeds between them
abbrev pub joined_rows : List Token → List Token → List (List Token) → List Token
joined_rows indent further [] = []
joined_rows indent further (r ∷ rs) = elim rs [
  | [] ↦ indent ++ r
  | s ∷ ss ↦ indent ++ r ++ line_feed
      ∷ joined_rows further further rs
]

-- ---- without wrapping

abbrev pub all_white : List TaggedChar → Bool
all_white [] = true
all_white (c ∷ cs) = is_whitespace c.code && all_white cs

abbrev pub text_line_tokens : TextLine → List Token
text_line_tokens p = flat_map cell_tokens p.cells ++ map Sequence p.rest

abbrev pub indented_row : List Token → TextLine → List Token
indented_row indent p = (if all_white p.cells then trimmed_row indent else indent) ++ text_line_tokens p

-- After the last line feed there is no line if no character follows; its sequences stay.
abbrev pub last_indented : List Token → TextLine → List Token
last_indented indent p = elim p.cells [ [] ↦ map Sequence p.rest | cell ∷ cells ↦ indented_row indent p ]

abbrev pub whole_lines : List Token → List Token → List TextLine → List Token
whole_lines indent further [] = []
whole_lines indent further (p ∷ ps) = elim ps
    [ [] ↦ last_indented indent p | q ∷ qs ↦ indented_row indent p ++ line_feed ∷ whole_lines further further ps ]

-- ---- everything

-- How a text is wrapped. Its indents are texts or tokens.
pub record WrapPlan (Indent : Type 0) : Type 0 where
  pub room : ℕ
  pub first : Indent
  pub further : Indent
  pub break_words : Bool
  pub wrap_lines : Bool
  pub separator : WordSeparator
  pub split_hyphens : Bool

abbrev pub map_indents : {A B : Type 0} → (A → B) → WrapPlan A → WrapPlan B
map_indents f p = record {
  room = p.room;
  first = f p.first;
  further = f p.further;
  break_words = p.break_words;
  wrap_lines = p.wrap_lines;
  separator = p.separator;
  split_hyphens = p.split_hyphens;
}

-- the columns that the indent leaves
abbrev pub first_room : WrapPlan (List Token) → ℕ
first_room p = p.room - printed_columns p.first

abbrev pub further_room : WrapPlan (List Token) → ℕ
further_room p = p.room - printed_columns p.further

-- no part of a word is wider than the narrower line
abbrev pub cuts_of : WrapPlan (List Token) → Cuts
cuts_of p = record {
  separator = p.separator;
  split_hyphens = p.split_hyphens;
  break_words = p.break_words;
  narrow = min (first_room p) (further_room p);
}

abbrev pub filled_text : WrapPlan (List Token) → List Token → List Token
filled_text p ts = joined_rows p.first p.further (text_rows (cuts_of p) (first_room p) (further_room p) (text_lines ts))

abbrev pub wrapped_tokens : WrapPlan (List Token) → List Token → List Token
wrapped_tokens p ts = if p.wrap_lines then filled_text p ts else whole_lines p.first p.further (text_lines ts)

abbrev pub wrapped_text : WrapPlan (List ℕ) → List ℕ → List ℕ
wrapped_text p text = spell (wrapped_tokens (map_indents tokens p) (tokens text))
