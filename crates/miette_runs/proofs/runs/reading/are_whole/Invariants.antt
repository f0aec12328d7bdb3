use Rattle.std.proofs.Common.{◌≡◌, drop}
use Rattle.miette_runs.specs.steps.WholeTags.{are_whole}
use Rattle.miette_runs.proofs.runs.reading.are_whole.Given as goal

abbrev pub invariant-loop-tag : goal.invariant-loop-tag
invariant-loop-tag l = are_whole l.tags ≡ are_whole (drop l.tag-index l.tags)
