use Rattle.std.proofs.Common.{◌≡◌, drop}
use Rattle.miette_runs.specs.rules.Colours.{is_colour_end}
use Rattle.miette_runs.proofs.runs.tags.is_colour_end.Given as goal

abbrev pub invariant-loop-i : goal.invariant-loop-i
invariant-loop-i l = is_colour_end (drop l.i l.codes) ≡ is_colour_end l.codes
