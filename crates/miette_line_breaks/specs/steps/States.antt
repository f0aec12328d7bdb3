-- The state of the code, and its steps.
use Rattle.std.specs.Prelude.{ℕ, ◌+◌, Bool, true, false, not, ◌&&◌, ◌||◌, if◌then◌else◌}
use Rattle.std.specs.Prelude.{List, [], ◌∷◌, Option, Some, None, length, encode_utf8}
use Rattle.ucd_breaks.specs.declared.LineBreak.{LineBreak}
use Rattle.ucd_breaks.specs.declared.LineBreak.TheVariants.{Alphabetic, Ideographic, Space}
use Rattle.miette_line_breaks.specs.declared.characters.Character.{Character}
use Rattle.miette_line_breaks.specs.declared.state.BreakState.{BreakState}
use Rattle.miette_line_breaks.specs.declared.opportunity.BreakOpportunity.{BreakOpportunity}
use Rattle.miette_line_breaks.specs.declared.opportunity.BreakOpportunity.TheVariants.{Allowed, Mandatory}
use Rattle.miette_line_breaks.specs.rules.Characters.{character_of, lone_mark}
use Rattle.miette_line_breaks.specs.rules.Classes.{is_bracket_end, is_carriage_return, is_closing, is_contingent}
use Rattle.miette_line_breaks.specs.rules.Classes.{is_dash, is_glue, is_hard, is_hebrew, is_hyphen_class, is_line_feed}
use Rattle.miette_line_breaks.specs.rules.Classes.{is_mark, is_nonstarter, is_opening, is_quotation, is_regional}
use Rattle.miette_line_breaks.specs.rules.Classes.{is_space_class, is_word_joiner, is_zero_width_space, is_joiner}
use Rattle.miette_line_breaks.specs.rules.Rules.{bases, ends_in_half_flag, ends_joined, joins, nearest_is}
use Rattle.miette_line_breaks.specs.rules.Rules.{past_spaces, takes_marks, with_opportunity}

-- at the start of a text
abbrev pub no_character : Character
no_character = record { class = Space; is_wide = false; is_future_emoji = false }

abbrev pub nearest_of : List Character → Character
nearest_of [] = no_character
nearest_of (b ∷ bs) = b

-- the second character is a Hebrew letter
abbrev pub follows_hebrew : List Character → Bool
follows_hebrew [] = false
follows_hebrew (b ∷ bs) = nearest_is is_hebrew bs

abbrev pub state_over : List Character → Bool → BreakState
state_over bs joined = record {
  base = nearest_of (past_spaces bs);
  is_spaced = nearest_is is_space_class bs;
  is_joined = joined;
  follows_hebrew = follows_hebrew bs;
  has_half_flag = ends_in_half_flag bs;
}

-- the state after these characters, nearest first
abbrev pub state_of : List ℕ → BreakState
state_of before = state_over (bases before) (ends_joined before)

-- LB10
abbrev pub base_of : Character → Character
base_of x = if is_mark x.class then lone_mark else x

-- LB2
abbrev pub is_start : BreakState → Bool
is_start s = is_space_class s.base.class && not s.is_spaced

-- LB9: a mark attaches to the last character
abbrev pub attaches : BreakState → Bool
attaches s = not s.is_spaced && takes_marks s.base.class

-- the last character is a Hebrew letter
abbrev pub ends_hebrew : BreakState → Bool
ends_hebrew s = not s.is_spaced && is_hebrew s.base.class

abbrev pub base_after : BreakState → Character → Bool → BreakState
base_after s b joined = record {
  base = if is_space_class b.class then s.base else b;
  is_spaced = is_space_class b.class;
  is_joined = joined;
  follows_hebrew = ends_hebrew s;
  has_half_flag = is_regional b.class && not s.has_half_flag;
}

abbrev pub joined_after : BreakState → Bool → BreakState
joined_after s joined = record {
  base = s.base;
  is_spaced = s.is_spaced;
  is_joined = joined;
  follows_hebrew = s.follows_hebrew;
  has_half_flag = s.has_half_flag;
}

-- the state after one more character
abbrev pub state_after : BreakState → Character → BreakState
state_after s x =
    if is_mark x.class && attaches s then joined_after s (is_joiner x.class)
    else base_after s (base_of x) (is_joiner x.class)

abbrev pub keeps_direct : BreakState → Character → Bool
keeps_direct s r =
    not s.is_spaced
    && (is_word_joiner s.base.class || is_glue s.base.class || (is_glue r.class && not (is_hyphen_class s.base.class))
    || is_quotation s.base.class || is_quotation r.class
    || (not (is_contingent s.base.class || is_contingent r.class)
    && (joins s.base r || (is_hyphen_class s.base.class && s.follows_hebrew)
    || (s.has_half_flag && is_regional r.class))))

abbrev pub keeps_in : BreakState → Character → Bool
keeps_in s r =
    is_word_joiner r.class || is_closing r.class
    || is_opening s.base.class
    || (is_quotation s.base.class && is_opening r.class)
    || (is_bracket_end s.base.class && is_nonstarter r.class)
    || (is_dash s.base.class && is_dash r.class)
    || keeps_direct s r

-- the opportunity before a character
abbrev pub break_in : BreakState → Character → Option BreakOpportunity
break_in s x =
    if is_start s then None
    else if not s.is_spaced && is_carriage_return s.base.class && is_line_feed x.class then None
    else if not s.is_spaced && is_hard s.base.class then Some Mandatory
    else if is_hard x.class || is_space_class x.class || is_zero_width_space x.class then None
    else if is_zero_width_space s.base.class then Some Allowed
    else if s.is_joined || (is_mark x.class && attaches s) then None
    else if keeps_in s (base_of x) then None else Some Allowed

-- ---- letters and ideographs in a row

abbrev pub is_alphabetic : LineBreak → Bool
is_alphabetic Alphabetic = true
is_alphabetic _ = false

abbrev pub is_ideographic : LineBreak → Bool
is_ideographic Ideographic = true
is_ideographic _ = false

-- Only the class of the last character, except spaces, matters.
abbrev pub is_lone : BreakState → Bool
is_lone s = not (s.base.is_wide || s.base.is_future_emoji || s.is_joined || s.follows_hebrew || s.has_half_flag)

-- The last character, except spaces, is a letter that is neither wide nor Hebrew, and nothing before it matters.
abbrev pub is_plain : BreakState → Bool
is_plain s = is_alphabetic s.base.class && is_lone s

-- at the start of a text
abbrev pub is_empty : BreakState → Bool
is_empty s = is_start s && is_lone s

-- such a letter is the last character
abbrev pub is_in_word : BreakState → Bool
is_in_word s = not s.is_spaced && is_plain s

abbrev pub spaced : Bool → BreakState → BreakState
spaced b s = record {
  base = s.base;
  is_spaced = b;
  is_joined = s.is_joined;
  follows_hebrew = s.follows_hebrew;
  has_half_flag = s.has_half_flag;
}

-- ---- the remaining opportunities

abbrev pub breaks_after : BreakState → ℕ → List ℕ → List (ℕ × BreakOpportunity)
breaks_after s at [] = if is_start s then [] else (at, Mandatory) ∷ []
breaks_after s at (c ∷ cs) =
    with_opportunity at (break_in s (character_of c))
    (breaks_after (state_after s (character_of c)) (at + length (encode_utf8 c)) cs)
