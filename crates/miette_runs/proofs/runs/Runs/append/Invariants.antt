use Rattle.std.proofs.Common.{◌≡◌, ◌≤◌, ◌++◌, drop, length}
use Rattle.miette_runs.specs.views.Interleaving.{interleaving}
use Rattle.miette_runs.proofs.runs.Runs.append.Given as goal

abbrev pub invariant-loop-tag : goal.invariant-loop-tag
invariant-loop-tag l = record {
  woven : l.self ++ interleaving l.start (drop l.start l.parts.codes.now) (drop l.tag-index l.parts.tags.now)
      ≡ l.fn.self ++ interleaving 0 l.parts.codes.now l.parts.tags.now;
  within : l.start ≤ length l.parts.codes.now;
}
