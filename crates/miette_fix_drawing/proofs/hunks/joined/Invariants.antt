use Rattle.std.proofs.Common.{◌≡◌, ◌+◌, drop, length}
use Rattle.miette_fix_drawing.specs.steps.Rising.{AreRising, joined, joined_end}
use Rattle.miette_fix_drawing.proofs.hunks.joined.Given as goal

abbrev pub invariant-loop-change : goal.invariant-loop-change
invariant-loop-change l = record {
  rising : AreRising (length l.source) l.end (drop l.change-index l.changes);
  index : l.many ≡ l.change-index;
  many : l.many + joined l.end (drop l.change-index l.changes) ≡ joined l.fn.at l.changes;
  last : joined_end l.end (drop l.change-index l.changes) ≡ joined_end l.fn.at l.changes;
}
