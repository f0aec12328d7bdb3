use Rattle.std.proofs.Common.{◌≡◌, ◌+◌, drop}
use Rattle.miette_fix_rows.specs.rules.Hunks.{common}
use Rattle.miette_fix_rows.specs.views.LineLists.{met_from, borrowed_lines}
use Rattle.miette_fix_rows.proofs.line_lists.common.Given as goal

abbrev pub invariant-loop-i : goal.invariant-loop-i
invariant-loop-i l =
    let lines = met_from l.side (borrowed_lines l.lines) in
    let others = met_from l.side (borrowed_lines l.others) in
    l.i + common (drop l.i lines) (drop l.i others) ≡ common lines others
