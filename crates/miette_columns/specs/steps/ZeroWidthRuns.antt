-- Runs of characters without width. The column after each is that after the first one.
use Rattle.std.specs.Prelude.{ℕ, ◌+◌, ◌-◌, ◌≤◌, ◌≡◌, ◌==◌, ◌&&◌, nat_lt, Bool, true, List, [], ◌∷◌, length, drop}
use Rattle.std.specs.Prelude.{if◌then◌else◌}
use Rattle.std.specs.List.{list_all}
use Rattle.miette_columns.specs.rules.Cells.{Character, characters}
use Rattle.miette_columns.specs.rules.Widths.{width_of}
use Rattle.miette_columns.specs.declared.trails.ZeroWidthRun.{ZeroWidthRun}
use Rattle.miette_columns.specs.rules.Columns.{text_up_to, is_boundary, column}

-- combining marks, selectors, joiners, tags, Hangul vowels: no width, but not control characters, which have a width
-- within a text
abbrev pub is_zero_width : ℕ → Bool
is_zero_width c = nat_lt 0xA0 c && (width_of c == 0)

-- between two offsets of a text there are whole characters, all of them without width
abbrev pub AreZeroWidth : List ℕ → ℕ → ℕ → Type 0
AreZeroWidth text bytes until =
    (bytes ≤ until) × ((until ≤ length text)
    × ((is_boundary (until - bytes) (characters (drop bytes text)) ≡ true)
    × (list_all is_zero_width (text_up_to (until - bytes) (characters (drop bytes text))) ≡ true)))

-- such characters, with the column after each and inside it
abbrev pub IsZeroWidthRun : List ℕ → ZeroWidthRun → Type 0
IsZeroWidthRun text trail =
    AreZeroWidth text trail.bytes trail.until
    × ((more : ℕ) → trail.bytes + more ≤ trail.until → column (trail.bytes + more) (characters text)
    ≡ (if is_boundary more (characters (drop trail.bytes text)) then trail.column else trail.widths))

-- the length in bytes of the first character
abbrev pub first_size : List Character → ℕ
first_size [] = 0
first_size (c ∷ cs) = c.bytes
