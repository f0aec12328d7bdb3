-- The properties of a character that the rules use: UAX #14 for Unicode 15.0, with the classes of the kit's later
-- version.
use Rattle.std.specs.Prelude.{ℕ, Bool, true, false, ◌&&◌, if◌then◌else◌}
use Rattle.ucd_breaks.specs.LineBreak.{line_break}
use Rattle.ucd_breaks.specs.declared.LineBreak.{LineBreak}
use Rattle.ucd_breaks.specs.declared.LineBreak.TheVariants.{Aksara, AksaraPrebase, AksaraStart, Alphabetic}
use Rattle.ucd_breaks.specs.declared.LineBreak.TheVariants.{Ambiguous, BreakAfter, CombiningMark}
use Rattle.ucd_breaks.specs.declared.LineBreak.TheVariants.{ComplexContext, ConditionalJapaneseStarter, Nonstarter}
use Rattle.ucd_breaks.specs.declared.LineBreak.TheVariants.{Numeric, Surrogate, UnambiguousHyphen, Unknown, Virama}
use Rattle.ucd_breaks.specs.declared.LineBreak.TheVariants.{ViramaFinal}
use Rattle.ucd_category.specs.GeneralCategory.{general_category}
use Rattle.ucd_category.specs.declared.GeneralCategory.{GeneralCategory}
use Rattle.ucd_category.specs.declared.GeneralCategory.TheVariants.{DecimalNumber, NonspacingMark, SpacingMark}
use Rattle.ucd_category.specs.declared.GeneralCategory.TheVariants.{Unassigned}
use Rattle.ucd_east_asian.specs.EastAsianWidth.{east_asian_width}
use Rattle.ucd_east_asian.specs.declared.EastAsianWidth.{EastAsianWidth}
use Rattle.ucd_east_asian.specs.declared.EastAsianWidth.TheVariants.{Fullwidth, Halfwidth, Wide}
use Rattle.ucd_emoji.specs.Binary.{is_extended_pictographic}
use Rattle.miette_line_breaks.specs.declared.characters.Character.{Character}

-- a decimal digit
abbrev pub is_decimal : GeneralCategory → Bool
is_decimal DecimalNumber = true
is_decimal _ = false

-- a combining mark, by general category
abbrev pub is_combining : GeneralCategory → Bool
is_combining NonspacingMark = true
is_combining SpacingMark = true
is_combining _ = false

abbrev pub is_unassigned : GeneralCategory → Bool
is_unassigned Unassigned = true
is_unassigned _ = false

-- East Asian width F, W or H
abbrev pub is_wide : EastAsianWidth → Bool
is_wide Fullwidth = true
is_wide Wide = true
is_wide Halfwidth = true
is_wide _ = false

-- LB1: replaces the classes that the rules don't mention. Classes that Unicode 15.0 didn't have are replaced by the
-- class that their characters had then.
abbrev pub resolved : ℕ → LineBreak → LineBreak
resolved c Ambiguous = Alphabetic
resolved c Surrogate = Alphabetic
resolved c Unknown = Alphabetic
resolved c Aksara = Alphabetic
resolved c AksaraPrebase = Alphabetic
resolved c AksaraStart = if is_decimal (general_category c) then Numeric else Alphabetic
resolved c Virama = CombiningMark
resolved c ViramaFinal = CombiningMark
resolved c UnambiguousHyphen = BreakAfter
resolved c ConditionalJapaneseStarter = Nonstarter
resolved c ComplexContext = if is_combining (general_category c) then CombiningMark else Alphabetic
resolved c class = class

-- its class, whether it is wide (LB30), and whether it is reserved for emoji (LB30b)
abbrev pub character_of : ℕ → Character
character_of c = record {
  class = resolved c (line_break c);
  is_wide = is_wide (east_asian_width c);
  is_future_emoji = is_unassigned (general_category c) && is_extended_pictographic c;
}

-- LB10: what a combining mark without a base counts as
abbrev pub lone_mark : Character
lone_mark = record { class = Alphabetic; is_wide = false; is_future_emoji = false }
