use Rattle.std.proofs.Common.{◌≡◌, ◌+◌, ◌-◌, ◌≤◌, drop, length}
use Rattle.miette_read.specs.views.Values.{texts}
use Rattle.miette_read_sarif.specs.rules.Newlines.{text_size}
use Rattle.miette_read_sarif.proofs.newlines.text_size.Given as goal

abbrev pub decreases-loop-at : goal.decreases-loop-at
decreases-loop-at l = length l.bytes - l.at

-- no line ends in what is passed
abbrev pub invariant-loop-at : goal.invariant-loop-at
invariant-loop-at l = record {
  within : l.at ≤ length l.bytes;
  same : text_size (texts l.ends.newlines.items) l.bytes
      ≡ l.at + text_size (texts l.ends.newlines.items) (drop l.at l.bytes);
}
