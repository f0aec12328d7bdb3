-- Sets of line break classes that the rules of UAX #14 use.
use Rattle.std.specs.Prelude.{Bool, true, false}
use Rattle.ucd_breaks.specs.declared.LineBreak.{LineBreak}
use Rattle.ucd_breaks.specs.declared.LineBreak.TheVariants.{Alphabetic, BreakAfter, BreakBefore, BreakBoth}
use Rattle.ucd_breaks.specs.declared.LineBreak.TheVariants.{BreakSymbols}
use Rattle.ucd_breaks.specs.declared.LineBreak.TheVariants.{CarriageReturn, CloseParenthesis, ClosePunctuation}
use Rattle.ucd_breaks.specs.declared.LineBreak.TheVariants.{CombiningMark, ContingentBreak, EBase, EModifier}
use Rattle.ucd_breaks.specs.declared.LineBreak.TheVariants.{Exclamation, Glue, H2, H3, HebrewLetter, Hyphen}
use Rattle.ucd_breaks.specs.declared.LineBreak.TheVariants.{Ideographic}
use Rattle.ucd_breaks.specs.declared.LineBreak.TheVariants.{InfixNumeric, Inseparable, Jl, Jt, Jv, LineFeed}
use Rattle.ucd_breaks.specs.declared.LineBreak.TheVariants.{MandatoryBreak, NextLine, Nonstarter, Numeric}
use Rattle.ucd_breaks.specs.declared.LineBreak.TheVariants.{OpenPunctuation, PostfixNumeric, PrefixNumeric, Quotation}
use Rattle.ucd_breaks.specs.declared.LineBreak.TheVariants.{RegionalIndicator, Space, WordJoiner, ZWSpace, Zwj}

-- a carriage return: CR
abbrev pub is_carriage_return : LineBreak → Bool
is_carriage_return CarriageReturn = true
is_carriage_return _ = false

-- a line feed: LF
abbrev pub is_line_feed : LineBreak → Bool
is_line_feed LineFeed = true
is_line_feed _ = false

-- mandatory breaks: BK, CR, LF, NL
abbrev pub is_hard : LineBreak → Bool
is_hard MandatoryBreak = true
is_hard CarriageReturn = true
is_hard LineFeed = true
is_hard NextLine = true
is_hard _ = false

-- a space: SP
abbrev pub is_space_class : LineBreak → Bool
is_space_class Space = true
is_space_class _ = false

-- a zero width space: ZW
abbrev pub is_zero_width_space : LineBreak → Bool
is_zero_width_space ZWSpace = true
is_zero_width_space _ = false

-- a zero width joiner: ZWJ
abbrev pub is_joiner : LineBreak → Bool
is_joiner Zwj = true
is_joiner _ = false

-- combining marks: CM, ZWJ
abbrev pub is_mark : LineBreak → Bool
is_mark CombiningMark = true
is_mark Zwj = true
is_mark _ = false

-- a word joiner: WJ
abbrev pub is_word_joiner : LineBreak → Bool
is_word_joiner WordJoiner = true
is_word_joiner _ = false

-- non-breaking: GL
abbrev pub is_glue : LineBreak → Bool
is_glue Glue = true
is_glue _ = false

-- no line begins with these, even after spaces: CL, CP, EX, IS, SY
abbrev pub is_closing : LineBreak → Bool
is_closing ClosePunctuation = true
is_closing CloseParenthesis = true
is_closing Exclamation = true
is_closing InfixNumeric = true
is_closing BreakSymbols = true
is_closing _ = false

-- an opening bracket: OP
abbrev pub is_opening : LineBreak → Bool
is_opening OpenPunctuation = true
is_opening _ = false

-- a quotation mark: QU
abbrev pub is_quotation : LineBreak → Bool
is_quotation Quotation = true
is_quotation _ = false

-- a closing bracket: CL, CP
abbrev pub is_bracket_end : LineBreak → Bool
is_bracket_end ClosePunctuation = true
is_bracket_end CloseParenthesis = true
is_bracket_end _ = false

-- a closing parenthesis: CP
abbrev pub is_parenthesis_end : LineBreak → Bool
is_parenthesis_end CloseParenthesis = true
is_parenthesis_end _ = false

-- nonstarter: NS
abbrev pub is_nonstarter : LineBreak → Bool
is_nonstarter Nonstarter = true
is_nonstarter _ = false

-- dash with breaks allowed on both sides: B2
abbrev pub is_dash : LineBreak → Bool
is_dash BreakBoth = true
is_dash _ = false

-- contingent break: CB
abbrev pub is_contingent : LineBreak → Bool
is_contingent ContingentBreak = true
is_contingent _ = false

-- break allowed after: BA, HY
abbrev pub is_hyphen_class : LineBreak → Bool
is_hyphen_class BreakAfter = true
is_hyphen_class Hyphen = true
is_hyphen_class _ = false

-- a hyphen: HY
abbrev pub is_plain_hyphen : LineBreak → Bool
is_plain_hyphen Hyphen = true
is_plain_hyphen _ = false

-- break allowed before: BB
abbrev pub is_break_before : LineBreak → Bool
is_break_before BreakBefore = true
is_break_before _ = false

-- symbol with a break allowed after it: SY
abbrev pub is_slash : LineBreak → Bool
is_slash BreakSymbols = true
is_slash _ = false

-- separator in numbers: IS
abbrev pub is_infix : LineBreak → Bool
is_infix InfixNumeric = true
is_infix _ = false

-- leaders: IN
abbrev pub is_inseparable : LineBreak → Bool
is_inseparable Inseparable = true
is_inseparable _ = false

-- a letter: AL, HL
abbrev pub is_letter : LineBreak → Bool
is_letter Alphabetic = true
is_letter HebrewLetter = true
is_letter _ = false

-- a Hebrew letter: HL
abbrev pub is_hebrew : LineBreak → Bool
is_hebrew HebrewLetter = true
is_hebrew _ = false

-- a digit: NU
abbrev pub is_numeric : LineBreak → Bool
is_numeric Numeric = true
is_numeric _ = false

-- prefix of a number: PR
abbrev pub is_prefix : LineBreak → Bool
is_prefix PrefixNumeric = true
is_prefix _ = false

-- postfix of a number: PO
abbrev pub is_postfix : LineBreak → Bool
is_postfix PostfixNumeric = true
is_postfix _ = false

-- prefix or postfix of a number: PR, PO
abbrev pub is_affix : LineBreak → Bool
is_affix PrefixNumeric = true
is_affix PostfixNumeric = true
is_affix _ = false

-- an ideograph or an emoji: ID, EB, EM
abbrev pub is_ideograph : LineBreak → Bool
is_ideograph Ideographic = true
is_ideograph EBase = true
is_ideograph EModifier = true
is_ideograph _ = false

-- an emoji that takes a modifier: EB
abbrev pub is_emoji_base : LineBreak → Bool
is_emoji_base EBase = true
is_emoji_base _ = false

-- a modifier of an emoji: EM
abbrev pub is_emoji_modifier : LineBreak → Bool
is_emoji_modifier EModifier = true
is_emoji_modifier _ = false

-- a regional indicator: RI
abbrev pub is_regional : LineBreak → Bool
is_regional RegionalIndicator = true
is_regional _ = false

-- a Hangul jamo or syllable: JL, JV, JT, H2, H3
abbrev pub is_hangul : LineBreak → Bool
is_hangul Jl = true
is_hangul Jv = true
is_hangul Jt = true
is_hangul H2 = true
is_hangul H3 = true
is_hangul _ = false

-- a leading jamo: JL
abbrev pub is_leading_jamo : LineBreak → Bool
is_leading_jamo Jl = true
is_leading_jamo _ = false

-- continues a leading jamo: JL, JV, H2, H3
abbrev pub joins_leading_jamo : LineBreak → Bool
joins_leading_jamo Jl = true
joins_leading_jamo Jv = true
joins_leading_jamo H2 = true
joins_leading_jamo H3 = true
joins_leading_jamo _ = false

-- a vowel jamo, or a syllable that ends with one: JV, H2
abbrev pub is_open_syllable : LineBreak → Bool
is_open_syllable Jv = true
is_open_syllable H2 = true
is_open_syllable _ = false

-- continues a vowel: JV, JT
abbrev pub joins_open_syllable : LineBreak → Bool
joins_open_syllable Jv = true
joins_open_syllable Jt = true
joins_open_syllable _ = false

-- a trailing jamo, or a syllable that ends with one: JT, H3
abbrev pub is_closed_syllable : LineBreak → Bool
is_closed_syllable Jt = true
is_closed_syllable H3 = true
is_closed_syllable _ = false

-- a trailing jamo: JT
abbrev pub is_trailing_jamo : LineBreak → Bool
is_trailing_jamo Jt = true
is_trailing_jamo _ = false
