use Rattle.std.proofs.Common.{◌≡◌, ◌++◌, drop, map, take}
use Rattle.miette_runs.specs.steps.Feeds.{lowered_tag}
use Rattle.miette_runs.proofs.runs.cut.lower.Given as goal

abbrev pub invariant-loop-i : goal.invariant-loop-i
invariant-loop-i l = l.tags ≡ map (lowered_tag l.by) (take l.i l.fn.tags) ++ drop l.i l.fn.tags
