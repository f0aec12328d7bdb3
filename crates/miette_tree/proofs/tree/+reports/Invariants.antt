use Rattle.std.proofs.Common.{◌≤◌}
use Rattle.miette_tree.proofs.tree.Report.TheLaws.{the_size}
use Rattle.miette_tree.proofs.tree.+reports.Given as goal

-- the report that was reached is no deeper than the first
abbrev pub invariant-Report::drop-loop-self : goal.invariant-Report::drop-loop-self
invariant-Report::drop-loop-self g l =
    let depth = the_size g.row.D g.row.S g.D.laws g.S.laws in
    depth l.self ≤ depth l.fn.self
