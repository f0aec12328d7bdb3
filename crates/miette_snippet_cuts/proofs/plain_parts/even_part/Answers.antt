use Rattle.std.proofs.Common.{arith}
use Rattle.miette_snippet_cuts.proofs.plain_parts.even_part.Goals as goal

pub returns-clause-alike : goal.returns-clause-alike
returns-clause-alike c = λ x lo lt. c.turn_after-shown.ensures.alike x lo
    (omega (arith, lt, c.turn_after-shown.ensures.more))
