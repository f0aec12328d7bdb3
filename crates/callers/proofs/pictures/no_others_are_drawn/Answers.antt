use Rattle.callers.specs.Sums.{narrow, sum_tree}
use Rattle.callers.proofs.pictures.no_others_are_drawn.Goals as goal

pub returns : goal.returns
returns c = λ rows others a h k. c.printed_law.ensures.rows rows others narrow sum_tree a (h, (k, tt))
