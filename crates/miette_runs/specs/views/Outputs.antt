-- What was appended to a text or to runs, as codes.
use Rattle.std.specs.Prelude.{ℕ, List, chars, string_bytes}
use Rattle.miette_runs.specs.rules.Sequences.{spell}
use Rattle.miette_runs.specs.declared.runs.output.OutputTarget.{OutputTarget}
use Rattle.miette_runs.specs.declared.runs.output.OutputTarget.TheVariants.{Printed, Collected}

abbrev pub target_text : OutputTarget → List ℕ
target_text (Printed text) = chars (string_bytes text)
target_text (Collected runs) = spell runs
