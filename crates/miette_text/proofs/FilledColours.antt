-- What is wrapped in colours, without them.
use Rattle.std.proofs.Common.{◌≡◌, ℕ, List}
use Rattle.miette_runs.specs.rules.Sequences.{erase}
use Rattle.miette_text.specs.rules.ColouredTexts.{AreColoured, plain_plan}
use Rattle.miette_text.specs.rules.Wrapping.{WrapPlan, wrapped_text}
use Rattle.miette_text.proofs.Erasing.{erase-wrapped}
use Rattle.miette_text.proofs.ColouredTexts.{coloured-tame}

pub erase-coloured : (p : WrapPlan (List ℕ)) (text : List ℕ) → AreColoured p text → erase (wrapped_text p text)
    ≡ wrapped_text (plain_plan p) (erase text)
erase-coloured p text h = erase-wrapped p text (record
    { first = coloured-tame p.first h.0; further = coloured-tame p.further h.1; inner = coloured-tame text h.2 })
