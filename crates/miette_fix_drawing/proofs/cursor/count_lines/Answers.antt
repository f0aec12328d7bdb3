use Rattle.std.proofs.Common.{◌+◌, ◌-◌, ◌≤◌, arith}
use Rattle.miette_lines.proofs.Places.{line_of_le, line_of_mono}
use Rattle.miette_fix_drawing.proofs.LinePlaces.{lines_over}
use Rattle.miette_fix_drawing.proofs.cursor.count_lines.Goals as goal

pub overflow_sub-result : goal.overflow_sub-result
overflow_sub-result g c =
    let source = c.args.source.now in
    let at = c.args.hunk.now.at in
    let order : at ≤ at + c.args.size - 1 = omega (arith, c.if-size-eq0.false) in
    omega (
      arith,
      c.move_cursor-first.ensures.line,
      c.move_cursor-last.ensures.line,
      line_of_mono source at (at + c.args.size - 1) order,
    )

pub overflow_add-result : goal.overflow_add-result
overflow_add-result g c =
    let at = c.args.hunk.now.at in
    omega (
      arith,
      c.if-size-eq0.false,
      line_of_le c.args.source.now (at + c.args.size - 1) c.move_cursor-last.result c.move_cursor-last.ensures.line,
      c.requires.stands.within,
      c.requires.within,
    )

pub returns-clause-count : goal.returns-clause-count
returns-clause-count g c =
    let at = c.args.hunk.now.at in
    let kept = c.args.hunk.now.kept.now in
    let order : at ≤ at + c.args.size - 1 = omega (arith, c.if-size-eq0.false) in
    omega (
      arith,
      line_of_mono c.args.source.now at (at + c.args.size - 1) order,
      lines_over c.args.source.now kept at c.args.size (omega (arith, c.if-size-eq0.false)) c.requires.within
          c.requires.stands.kept,
      c.move_cursor-first.ensures.line,
      c.move_cursor-last.ensures.line,
    )
