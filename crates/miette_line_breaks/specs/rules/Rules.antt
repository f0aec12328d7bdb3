-- Where a text can be broken into lines: the rules of UAX #14 for Unicode 15.0, in order. The first rule that applies
-- decides.
use Rattle.std.specs.Prelude.{ℕ, ◌+◌, Bool, false, not, ◌&&◌, ◌||◌, if◌then◌else◌}
use Rattle.std.specs.Prelude.{List, [], ◌∷◌, Option, Some, None, chars, length, encode_utf8}
use Rattle.ucd_breaks.specs.declared.LineBreak.{LineBreak}
use Rattle.miette_line_breaks.specs.declared.characters.Character.{Character}
use Rattle.miette_line_breaks.specs.declared.opportunity.BreakOpportunity.{BreakOpportunity}
use Rattle.miette_line_breaks.specs.declared.opportunity.BreakOpportunity.TheVariants.{Allowed, Mandatory}
use Rattle.miette_line_breaks.specs.rules.Characters.{character_of, lone_mark}
use Rattle.miette_line_breaks.specs.rules.Classes.{is_affix, is_bracket_end, is_break_before, is_carriage_return}
use Rattle.miette_line_breaks.specs.rules.Classes.{is_closed_syllable, is_closing, is_contingent, is_dash}
use Rattle.miette_line_breaks.specs.rules.Classes.{is_emoji_base, is_emoji_modifier, is_glue, is_hangul, is_hard}
use Rattle.miette_line_breaks.specs.rules.Classes.{is_hebrew, is_hyphen_class, is_ideograph, is_infix, is_inseparable}
use Rattle.miette_line_breaks.specs.rules.Classes.{is_joiner, is_leading_jamo, is_letter, is_line_feed, is_mark}
use Rattle.miette_line_breaks.specs.rules.Classes.{is_nonstarter, is_numeric, is_open_syllable, is_opening}
use Rattle.miette_line_breaks.specs.rules.Classes.{is_parenthesis_end, is_plain_hyphen, is_postfix, is_prefix}
use Rattle.miette_line_breaks.specs.rules.Classes.{is_quotation, is_regional, is_slash, is_space_class}
use Rattle.miette_line_breaks.specs.rules.Classes.{is_trailing_jamo}
use Rattle.miette_line_breaks.specs.rules.Classes.{is_word_joiner, is_zero_width_space, joins_leading_jamo}
use Rattle.miette_line_breaks.specs.rules.Classes.{joins_open_syllable}

-- ---- the characters before a position, nearest first

-- whether there is a nearest one, and it has such a class
abbrev pub nearest_is : (LineBreak → Bool) → List Character → Bool
nearest_is p [] = false
nearest_is p (b ∷ bs) = p b.class

-- marks attach to it: it is no space, no zero width space and no line terminator
abbrev pub takes_marks : LineBreak → Bool
takes_marks class = not (is_hard class || is_space_class class || is_zero_width_space class)

-- LB9, LB10: a mark attaches to the character before it, or counts as a letter
abbrev pub bases : List ℕ → List Character
bases [] = []
bases (c ∷ cs) =
    if is_mark (character_of c).class then if nearest_is takes_marks (bases cs) then bases cs else lone_mark ∷ bases cs
    else character_of c ∷ bases cs

abbrev pub past_spaces : List Character → List Character
past_spaces [] = []
past_spaces (b ∷ bs) = if is_space_class b.class then past_spaces bs else b ∷ bs

-- the last character is a zero width joiner
abbrev pub ends_joined : List ℕ → Bool
ends_joined [] = false
ends_joined (c ∷ cs) = is_joiner (character_of c).class

-- an odd number of regional indicators ends there: two are a flag, so half a flag is open
abbrev pub ends_in_half_flag : List Character → Bool
ends_in_half_flag [] = false
ends_in_half_flag (b ∷ bs) = is_regional b.class && not (ends_in_half_flag bs)

-- ---- two neighbours

-- LB25: numbers are not split
abbrev pub joins_number : LineBreak → LineBreak → Bool
joins_number l r =
    (is_bracket_end l && is_affix r) || (is_numeric l && is_affix r)
    || (is_affix l && is_opening r) || (is_affix l && is_numeric r)
    || ((is_plain_hyphen l || is_infix l || is_numeric l || is_slash l) && is_numeric r)

-- LB26, LB27: Korean syllables are not split
abbrev pub joins_syllable : LineBreak → LineBreak → Bool
joins_syllable l r =
    (is_leading_jamo l && joins_leading_jamo r) || (is_open_syllable l && joins_open_syllable r)
    || (is_closed_syllable l && is_trailing_jamo r)
    || (is_hangul l && is_postfix r) || (is_prefix l && is_hangul r)

-- LB23, LB23a, LB24, LB28, LB29: letters, digits, and their prefixes and postfixes
abbrev pub joins_letter : LineBreak → LineBreak → Bool
joins_letter l r =
    (is_letter l && is_numeric r) || (is_numeric l && is_letter r)
    || (is_prefix l && is_ideograph r) || (is_ideograph l && is_postfix r)
    || (is_affix l && is_letter r) || (is_letter l && is_affix r)
    || (is_letter l && is_letter r) || (is_infix l && is_letter r)

-- LB30: parentheses stay with letters and digits, except wide ones
abbrev pub joins_parenthesis : Character → Character → Bool
joins_parenthesis l r =
    ((is_letter l.class || is_numeric l.class) && is_opening r.class && not r.is_wide)
    || (is_parenthesis_end l.class && not l.is_wide && (is_letter r.class || is_numeric r.class))

-- LB21, LB21b, LB22, the rules above, and LB30b
abbrev pub joins : Character → Character → Bool
joins l r =
    is_hyphen_class r.class || is_nonstarter r.class || is_break_before l.class
    || (is_slash l.class && is_hebrew r.class)
    || is_inseparable r.class
    || joins_letter l.class r.class || joins_number l.class r.class || joins_syllable l.class r.class
    || joins_parenthesis l r
    || ((is_emoji_base l.class || l.is_future_emoji) && is_emoji_modifier r.class)

-- LB11, LB12, LB12a, LB19, then LB20, then LB21a, LB30a and the rules for two characters. After a space LB18 breaks.
abbrev pub keeps_beside : List Character → Character → Bool
keeps_beside [] r = false
keeps_beside (l ∷ bs) r =
    not (is_space_class l.class)
    && (is_word_joiner l.class || is_glue l.class || (is_glue r.class && not (is_hyphen_class l.class))
    || is_quotation l.class || is_quotation r.class
    || (not (is_contingent l.class || is_contingent r.class)
    && (joins l r || (is_hyphen_class l.class && nearest_is is_hebrew bs)
    || (ends_in_half_flag (l ∷ bs) && is_regional r.class))))

-- LB11, LB13, LB14 to LB17 apply across spaces, the others to neighbours
abbrev pub keeps : List Character → Character → Bool
keeps bs r =
    is_word_joiner r.class || is_closing r.class
    || nearest_is is_opening (past_spaces bs)
    || (nearest_is is_quotation (past_spaces bs) && is_opening r.class)
    || (nearest_is is_bracket_end (past_spaces bs) && is_nonstarter r.class)
    || (nearest_is is_dash (past_spaces bs) && is_dash r.class)
    || keeps_beside bs r

-- ---- a position in a text

-- LB4 to LB10, and LB31 if no other rule applies
abbrev pub between : List Character → Bool → Character → Option BreakOpportunity
between bs joined x =
    if nearest_is is_carriage_return bs && is_line_feed x.class then None
    else if nearest_is is_hard bs then Some Mandatory
    else if is_hard x.class || is_space_class x.class || is_zero_width_space x.class then None
    else if nearest_is is_zero_width_space (past_spaces bs) then Some Allowed
    else if joined || (is_mark x.class && nearest_is takes_marks bs) then None
    else if keeps bs (if is_mark x.class then lone_mark else x) then None else Some Allowed

-- the opportunity before a character, given those before it, nearest first; none before the first one (LB2)
abbrev pub break_before : List ℕ → ℕ → Option BreakOpportunity
break_before [] c = None
break_before (b ∷ before) c = between (bases (b ∷ before)) (ends_joined (b ∷ before)) (character_of c)

abbrev pub with_opportunity : ℕ → Option BreakOpportunity → List (ℕ × BreakOpportunity) → List (ℕ × BreakOpportunity)
with_opportunity at None rest = rest
with_opportunity at (Some o) rest = (at, o) ∷ rest

-- The opportunities among these characters. The first is at a byte offset, and the characters before it are given
-- nearest first. A line ends at the end of the text (LB3).
abbrev pub breaks_from : List ℕ → ℕ → List ℕ → List (ℕ × BreakOpportunity)
breaks_from [] at [] = []
breaks_from (b ∷ before) at [] = (at, Mandatory) ∷ []
breaks_from before at (c ∷ cs) =
    with_opportunity at (break_before before c) (breaks_from (c ∷ before) (at + length (encode_utf8 c)) cs)

-- the opportunities of a text
abbrev pub breaks_of : List ℕ → List (ℕ × BreakOpportunity)
breaks_of text = breaks_from [] 0 (chars text)
