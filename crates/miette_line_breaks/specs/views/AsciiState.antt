-- Steps over printable ASCII.
use Rattle.std.specs.Prelude.{◌≡◌, ℕ, Bool, true, false, not, ◌&&◌, ◌==◌, nat_le, None, if◌then◌else◌}
use Rattle.std.specs.Option.{is_some}
use Rattle.miette_line_breaks.specs.declared.ascii_state.AsciiState.{AsciiState}
use Rattle.miette_line_breaks.specs.declared.ascii_state.AsciiStep.{AsciiStep}
use Rattle.miette_line_breaks.specs.declared.ascii_state.AsciiStep.TheVariants.{Broken, Hyphen, Other, Within}
use Rattle.miette_line_breaks.specs.declared.state.BreakState.{BreakState}
use Rattle.miette_line_breaks.specs.steps.AsciiState.{row_state}
use Rattle.miette_line_breaks.specs.steps.States.{ends_hebrew, is_empty}
use Rattle.miette_line_breaks.specs.views.Places.{after_code, found_before}

abbrev pub is_printable : ℕ → Bool
is_printable c = nat_le 32 c && nat_le c 126

-- as a general state
abbrev pub state_in : AsciiState → BreakState
state_in it = row_state it.row

-- a printable character, before which nothing matters, or a space at the start of a text
abbrev pub begins_ascii_state : BreakState → ℕ → Bool
begins_ascii_state s c = is_printable c && (if c == 32 then is_empty s else not (ends_hebrew s))

-- the result of a step over a character
abbrev pub IsAsciiStep : AsciiStep → BreakState → ℕ → Type 0
IsAsciiStep (Within it) s c = (is_printable c ≡ true) × ((c == 45) ≡ false) × (found_before s c ≡ None)
    × (after_code s c ≡ state_in it)
IsAsciiStep (Hyphen it) s c = (c ≡ 45) × (found_before s c ≡ None) × (after_code s c ≡ state_in it)
IsAsciiStep (Broken it) s c = (is_printable c ≡ true) × (is_some (found_before s c) ≡ true)
    × (after_code s c ≡ state_in it)
IsAsciiStep Other s c = is_printable c ≡ false
