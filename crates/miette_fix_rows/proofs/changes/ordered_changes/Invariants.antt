use Rattle.std.proofs.Common.{◌≡◌, ◌≤◌, drop, take, length, reverse}
use Rattle.miette_fixes.specs.views.Ordered.{edits_of}
use Rattle.miette_fix_rows.specs.rules.Blocks.{blocks}
use Rattle.miette_fix_rows.specs.rules.Hunks.{changes_of}
use Rattle.miette_fix_rows.specs.steps.Sharing.{EndsApart}
use Rattle.miette_fix_rows.proofs.changes.ordered_changes.Given as goal

abbrev pub invariant-loop-high : goal.invariant-loop-high
invariant-loop-high l = record {
  within : l.high ≤ length l.edits;
  made : reverse l.list.items ≡ changes_of l.source (blocks l.source (drop l.high (edits_of l.edits)));
  apart : EndsApart l.source (take l.high (edits_of l.edits)) (drop l.high (edits_of l.edits));
}

abbrev pub decreases-loop-high : goal.decreases-loop-high
decreases-loop-high l = l.high
