use Rattle.std.proofs.Common.{◌≡◌, ◌-◌, ◌≤◌, length}
use Rattle.miette_read_shellcheck.specs.rules.Columns.{characters_after}
use Rattle.miette_read_shellcheck.proofs.columns.characters_after.Given as goal

abbrev pub decreases-loop-at : goal.decreases-loop-at
decreases-loop-at l = length l.bytes - l.at

-- where the characters that are left end, all of them do
abbrev pub invariant-loop-at : goal.invariant-loop-at
invariant-loop-at l = record {
  within : l.at ≤ length l.bytes;
  same : characters_after l.bytes l.fn.start l.fn.count ≡ characters_after l.bytes l.at l.left;
}
