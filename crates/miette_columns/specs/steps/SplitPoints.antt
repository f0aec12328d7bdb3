-- Where a text can be split: its width is the sum of the widths of both parts.
use Rattle.std.specs.Prelude.{ℕ, Bool, Option, Some, None, not, nat_lt, nat_le, ◌==◌, ◌&&◌, ◌||◌, if◌then◌else◌}
use Rattle.std.specs.Int.{is_in_range}
use Rattle.ucd_emoji.specs.Binary.{is_emoji_variation_base}
use Rattle.unicode_width.specs.Width.{is_indicator}
use Rattle.miette_columns.specs.rules.Widths.{width_of}
use Rattle.miette_columns.specs.declared.overlap.Overlap.{Overlap}
use Rattle.miette_columns.specs.declared.overlap.Overlap.TheVariants.{Nothing, One, Selected}

-- ASCII and letters of scripts that never join with what follows
abbrev pub joins_nothing_after : ℕ → Bool
joins_nothing_after c =
    is_in_range 0x20 0x22 c || is_in_range 0x24 0x29 c || is_in_range 0x2B 0x2F c || is_in_range 0x3A 0x7E c
    || is_in_range 0xAF 0x2FF c || is_in_range 0x391 0x482 c || is_in_range 0x48A 0x52F c || is_in_range 0x621 0x643 c
    || is_in_range 0x1780 0x17B3 c || is_in_range 0x3001 0x3029 c || is_in_range 0x3041 0x3096 c
    || is_in_range 0x30A0 0x30FF c || is_in_range 0x3400 0x4DBF c || is_in_range 0x4E00 0x9FFF c
    || is_in_range 0xAC00 0xD7A3 c

-- letters and signs that may join others
abbrev pub is_joining : ℕ → Bool
is_joining c =
    is_in_range 0x338 0x338 c || is_in_range 0x5DC 0x5DC c || is_in_range 0x622 0x627 c || is_in_range 0x671 0x675 c
    || is_in_range 0x773 0x774 c || is_in_range 0x870 0x882 c || is_in_range 0x1780 0x17D8 c
    || is_in_range 0x1A10 0x1A10 c || is_in_range 0x2D31 0x2D7F c || is_in_range 0xA4FC 0xA4FD c
    || is_in_range 0xFB3C 0xFB3C c || is_in_range 0xFE00 0xFE0F c || is_in_range 0x10C03 0x10C03 c
    || is_in_range 0x16D67 0x16D68 c || is_in_range 0x1F1E6 0x1F1FF c || is_in_range 0x1F3FB 0x1F3FF c

-- Characters that join with what precedes them only after a joiner: ASCII except the line feed, and characters with a
-- width that aren't listed above, for example letters and emoji.
abbrev pub joins_only_by_joiner : ℕ → Bool
joins_only_by_joiner c = if nat_le c 0xA0 then not (c == 0x0A) else nat_lt 0 (width_of c) && not (is_joining c)

-- whether a text can be split between two neighbours, whatever is around them
abbrev pub may_split : ℕ → ℕ → Bool
may_split last next = joins_nothing_after last || (joins_only_by_joiner next && not (last == 0x200D))

-- whether it can be split between two regional indicators: no half flag precedes the second one
abbrev pub may_split_flags : ℕ → Bool → ℕ → Bool
may_split_flags last is_half next = not is_half && (is_indicator last && is_indicator next)

-- Skin tones, and letters that join only with what precedes them. What follows them reads the same, unless it is a
-- selector or a skin tone.
abbrev pub is_keeping : ℕ → Bool
is_keeping c =
    is_in_range 0x5DC 0x5DC c || is_in_range 0x671 0x675 c || is_in_range 0x773 0x774 c || is_in_range 0x870 0x882 c
    || is_in_range 0x1A10 0x1A10 c || is_in_range 0xA4FC 0xA4FD c || is_in_range 0xFB3C 0xFB3C c
    || is_in_range 0x10C03 0x10C03 c || is_in_range 0x1F3FB 0x1F3FF c

-- neither a selector nor a skin tone
abbrev pub opens : ℕ → Bool
opens c = not (is_in_range 0xFE00 0xFE0F c || is_in_range 0x1F3FB 0x1F3FF c)

-- the overlap if the width after it depends only on the last characters; a character that `opens` follows
abbrev pub end_overlap : ℕ → ℕ → Option Overlap
end_overlap before last = if joins_only_by_joiner last || is_keeping last then Some (One last)
    else (if (last == 0xFE0F) && is_emoji_variation_base before then Some (Selected before) else None)

-- The overlap of a checkpoint between two neighbours, if one is possible: nothing if the text can be split there, else
-- its last characters.
abbrev pub overlap_between : ℕ → ℕ → Bool → ℕ → Option Overlap
overlap_between before last is_half next = if may_split last next || may_split_flags last is_half next then Some Nothing
    else (if opens next then end_overlap before last else None)
