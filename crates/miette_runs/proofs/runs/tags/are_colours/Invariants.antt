use Rattle.std.proofs.Common.{◌≡◌, drop}
use Rattle.miette_runs.specs.steps.Feeds.{are_colours}
use Rattle.miette_runs.proofs.runs.tags.are_colours.Given as goal

abbrev pub invariant-loop-tag : goal.invariant-loop-tag
invariant-loop-tag l = are_colours (drop l.tag-index l.tags) ≡ are_colours l.tags
