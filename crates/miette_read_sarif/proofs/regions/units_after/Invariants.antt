use Rattle.std.proofs.Common.{◌≡◌, ◌-◌, ◌≤◌, length}
use Rattle.miette_read_sarif.specs.rules.Regions.{units_after}
use Rattle.miette_read_sarif.proofs.regions.units_after.Given as goal

abbrev pub decreases-loop-at : goal.decreases-loop-at
decreases-loop-at l = length l.bytes - l.at

-- where the units that are left end, all of them do
abbrev pub invariant-loop-at : goal.invariant-loop-at
invariant-loop-at l = record {
  within : l.at ≤ length l.bytes;
  same : units_after l.encoding l.bytes l.fn.from l.fn.count ≡ units_after l.encoding l.bytes l.at l.left;
}
