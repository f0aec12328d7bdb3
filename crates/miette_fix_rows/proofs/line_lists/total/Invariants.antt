use Rattle.std.proofs.Common.{◌≡◌, ◌+◌, drop}
use Rattle.miette_fix_rows.specs.rules.Blocks.{bytes_of}
use Rattle.miette_fix_rows.specs.views.LineLists.{borrowed_lines}
use Rattle.miette_fix_rows.proofs.line_lists.total.Given as goal

abbrev pub invariant-loop-line : goal.invariant-loop-line
invariant-loop-line l = l.bytes + bytes_of (borrowed_lines (drop l.line-index l.lines))
    ≡ bytes_of (borrowed_lines l.lines)
