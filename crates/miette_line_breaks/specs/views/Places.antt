-- The state before a position, and a step over a character.
use Rattle.std.specs.Prelude.{ℕ, Bool, List, Option}
use Rattle.miette_line_breaks.specs.declared.opportunity.BreakOpportunity.{BreakOpportunity}
use Rattle.miette_line_breaks.specs.declared.state.BreakState.{BreakState}
use Rattle.miette_line_breaks.specs.rules.Characters.{character_of}
use Rattle.miette_line_breaks.specs.steps.States as steps

-- the state after these characters, nearest first
abbrev pub state_of : List ℕ → BreakState
state_of = steps.state_of

-- the opportunity before a character at this position
abbrev pub found_before : BreakState → ℕ → Option BreakOpportunity
found_before s c = steps.break_in s (character_of c)

-- the state after this character
abbrev pub after_code : BreakState → ℕ → BreakState
after_code s c = steps.state_after s (character_of c)

-- ASCII letters continue the word there
abbrev pub is_in_word : BreakState → Bool
is_in_word = steps.is_in_word
