use Rattle.std.proofs.Common.{◌≡◌, drop}
use Rattle.miette_style.specs.rules.Escapes.{no_escape}
use Rattle.miette_runs.proofs.runs.reading.has_no_escape.Given as goal

abbrev pub invariant-loop-code : goal.invariant-loop-code
invariant-loop-code l = no_escape l.codes ≡ no_escape (drop l.code-index l.codes)
