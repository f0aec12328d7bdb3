use Rattle.std.proofs.Common.{◌≡◌, ◌+◌, drop}
use Rattle.miette_runs.specs.steps.Feeds.{feeds_len}
use Rattle.miette_runs.proofs.runs.cut.feeds_len.Given as goal

abbrev pub invariant-loop-i : goal.invariant-loop-i
invariant-loop-i l = l.i + feeds_len l.i (drop l.i l.codes) l.left ≡ feeds_len 0 l.codes l.tags
