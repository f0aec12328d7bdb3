-- The model of `GccContext`.
use Rattle.std.specs.Prelude.{ℕ, List, Option}
use Rattle.miette_protocol.specs.rules.Reading.{Source}
use Rattle.miette_read_gcc.specs.rules.Gcc as gcc
use Rattle.miette_read_gcc.specs.declared.points.GccContext.{GccContext}

abbrev pub gcc_context : {F : Type 0} → (F → List ℕ → Option Source) → GccContext F → gcc.GccContext
gcc_context found it = record { files = found it.files.now; origin = it.origin }
