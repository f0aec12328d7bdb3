use Rattle.std.proofs.Common.{◌+◌, arith}
use Rattle.std.proofs.lemmas.Bool.{le-leb, lt-leb}
use Rattle.miette_snippet_cuts.proofs.nearness.turn_at.Goals as goal

pub returns-then-column-first-clause-alike : goal.returns-then-column-first-clause-alike
returns-then-column-first-clause-alike c = λ x lo lt. le-leb (x + 1 + c.args.room.now.dots) c.args.room.now.limit
    (omega (arith, lt, c.min.ensures, c.saturating_sub-first.ensures))

pub returns-clause-alike : goal.returns-clause-alike
returns-clause-alike c = λ x lo lt. lt-leb (x + 1 + c.args.room.now.dots) c.args.room.now.limit
    (omega (arith, lo, c.if-column-first.false, c.saturating_sub-first.ensures))
