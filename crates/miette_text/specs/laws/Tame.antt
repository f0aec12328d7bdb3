-- Texts from which colours can be deleted before or after wrapping.
use Rattle.std.specs.Prelude.{◌≡◌, ℕ, ◌||◌, ◌==◌, if◌then◌else◌, List, [], ◌∷◌}
use Rattle.miette_style.specs.rules.Escapes.{is_escape}
use Rattle.miette_runs.specs.rules.Colours.{is_colour, is_link}
use Rattle.miette_runs.specs.rules.Sequences.{Token, Character, Sequence, tokens, is_bell, is_line_feed}
use Rattle.miette_text.specs.rules.Wrapping.{WrapPlan, is_space}

-- The state after a part of a text. `Free`: nothing is open. `Escaped`: after an escape that is a character. `Opened`:
-- after an `ESC ]` that no BEL or `ESC \` ends on this line. `Waiting`: on a later line than such an escape, with
-- nothing shown since. `Untamed`: the text isn't tame.
pub data TameState : Type 0 where
  Free : TameState
  Escaped : TameState
  Opened : TameState
  Waiting : TameState
  Untamed : TameState

abbrev pub tame_step : TameState → Token → TameState
tame_step Free (Sequence s) = if is_colour s || is_link s then Free else Untamed
tame_step Free (Character c) = if is_escape c then Escaped else Free
tame_step Escaped (Sequence s) = Untamed
tame_step Escaped (Character c) = if c == 93 then Opened else if c == 92 then Free else if is_line_feed c then Waiting
    else Untamed
tame_step Opened (Sequence s) = Untamed
tame_step Opened (Character c) = if is_line_feed c then Waiting else if is_bell c
    || is_escape c then Untamed else Opened
tame_step Waiting (Sequence s) = if is_colour s || is_link s then Waiting else Untamed
tame_step Waiting (Character c) = if is_escape c then Escaped else if is_space c
    || is_line_feed c then Waiting else Free
tame_step Untamed (Sequence s) = Untamed
tame_step Untamed (Character c) = Untamed

abbrev pub tame_after : TameState → List Token → TameState
tame_after s [] = s
tame_after s (t ∷ ts) = tame_after (tame_step s t) ts

-- Every escape of the text begins a colour or a link's sequence, or is that of `ESC ] .. LF`, `ESC \` or `ESC LF`.
-- After those with a line feed something is shown.
abbrev pub AreTame : List Token → Type 0
AreTame ts = tame_after Free ts ≡ Free

abbrev pub IsTame : List ℕ → Type 0
IsTame text = AreTame (tokens text)

-- the text that is wrapped, and its indents
pub record AllTame (p : WrapPlan (List ℕ)) (text : List ℕ) : Type 0 where
  pub first : IsTame p.first
  pub further : IsTame p.further
  pub inner : IsTame text
