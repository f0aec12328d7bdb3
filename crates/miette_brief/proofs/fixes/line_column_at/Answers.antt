use Rattle.std.proofs.Common.{◌-◌, ◌≤◌, arith, subst, sym}
use Rattle.miette_lines.specs.rules.Lines.{line_of}
use Rattle.miette_lines.proofs.Places.{line_start_le}
use Rattle.miette_brief.proofs.fixes.line_column_at.Goals as goal

pub column_from-requires-clause-order : goal.column_from-requires-clause-order
column_from-requires-clause-order c =
    let bytes = c.args.source.now in
    let at = c.args.at in
    subst (λ s. s ≤ at) (sym c.start_before-start.ensures.start)
    (line_start_le bytes (line_of bytes at - 0) at (omega arith))
