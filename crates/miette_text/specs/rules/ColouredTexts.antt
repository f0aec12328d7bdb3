-- Texts in which every escape is part of a colour, and what is appended for them without colours.
use Rattle.std.specs.Prelude.{◌≡◌, ℕ, true, List, ◌++◌}
use Rattle.miette_style.specs.rules.Escapes.{no_escape}
use Rattle.miette_runs.specs.rules.Sequences.{erase}
use Rattle.miette_text.specs.rules.Wrapping.{WrapPlan, map_indents}

abbrev pub plain_plan : WrapPlan (List ℕ) → WrapPlan (List ℕ)
plain_plan = map_indents erase

-- every escape is part of a colour: none is left without colours
abbrev pub IsColoured : List ℕ → Type 0
IsColoured text = no_escape (erase text) ≡ true

-- every escape of a text and its indents is part of a colour
abbrev pub AreColoured : WrapPlan (List ℕ) → List ℕ → Type 0
AreColoured p text = IsColoured p.first × IsColoured p.further × IsColoured text

-- what is appended, without colours, is this text
abbrev pub AppendsErasing : List ℕ → List ℕ → List ℕ → Type 0
AppendsErasing old new bare = (added : List ℕ) × (new ≡ old ++ added) × (erase added ≡ bare)
