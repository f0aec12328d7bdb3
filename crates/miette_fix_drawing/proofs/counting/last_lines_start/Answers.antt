use Rattle.miette_fix_drawing.proofs.LinePlaces.{last_begin, none_last, nothing_last}
use Rattle.miette_fix_drawing.proofs.counting.last_lines_start.Goals as goal
use Rattle.miette_fix_drawing.proofs.counting.last_lines_start.Goals.{then-many-eq0-via-else-many-eq0+then-is_empty}
use Rattle.miette_fix_drawing.proofs.counting.last_lines_start.Goals.{then-many-eq0-via-then-many-eq0}
use Rattle.std.proofs.Common.{◌<◌, length, arith}
use Rattle.std.proofs.lemmas.Bool.Decides.{nat_tests}

pub returns-then-many-eq0-clause-size : goal.returns-then-many-eq0-clause-size
returns-then-many-eq0-clause-size c =
    let bytes = c.args.bytes.now in
    elim c.then-many-eq0.branch [
      | then-many-eq0-via-then-many-eq0 w ↦ none_last bytes c.args.many (omega (arith, w.if-many-eq0.true))
      | then-many-eq0-via-else-many-eq0+then-is_empty w ↦ nothing_last bytes c.args.many
          (let a = w.is_empty.ensures in let b = w.if-is_empty.true in grind (arith, nat_tests))
    ]

pub returns-clause-size : goal.returns-clause-size
returns-clause-size c =
    let bytes = c.args.bytes.now in
    let some : 0 < length bytes =
    (let a = c.is_empty.ensures in let b = c.if-is_empty.false in grind (arith, nat_tests)) in
    last_begin bytes c.args.many c.start_before.result.0 some (omega (arith, c.if-many-eq0.false))
    c.start_before.ensures.start
