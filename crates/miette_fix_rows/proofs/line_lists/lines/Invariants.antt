use Rattle.std.proofs.Common.{◌≡◌, ◌++◌, length}
use Rattle.miette_fix_rows.specs.rules.Blocks.{line_texts}
use Rattle.miette_fix_rows.specs.views.LineLists.{borrowed_lines}
use Rattle.miette_fix_rows.proofs.line_lists.lines.Given as goal

abbrev pub invariant-loop-left : goal.invariant-loop-left
invariant-loop-left l = record {
  left : l.left ≡ length l.rest;
  lines : borrowed_lines l.list.items ++ line_texts l.rest ≡ line_texts l.bytes;
}

abbrev pub decreases-loop-left : goal.decreases-loop-left
decreases-loop-left l = l.left
