use Rattle.std.proofs.Common.{◌∙◌, ap, ltb}
use Rattle.miette_snippet_rules.specs.rules.CutLines.{limit_of}
use Rattle.miette_snippet_rules.specs.rules.PrintedCells.{cells_width}
use Rattle.miette_snippet_cuts.proofs.cutting.exceeds_limit.Goals as goal

pub returns : goal.returns
returns c = ap (λ most. ltb most c.in_ok-width.width) c.max-most.ensures
    ∙ ap (ltb (limit_of c.args.limit)) (c.in_ok-width.ensures ∙ ap (cells_width 0) c.new-walk.ensures)
