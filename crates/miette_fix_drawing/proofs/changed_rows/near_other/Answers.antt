use Rattle.std.proofs.Common.{None, Some, subst, sym}
use Rattle.miette_fix_drawing.specs.views.ChangedLines.{AreBothNear}
use Rattle.miette_fix_drawing.proofs.changed_rows.near_other.Goals as goal

pub returns-in-Some : goal.returns-in-Some
returns-in-Some c = subst (λ o. AreBothNear o (Some c.near_line.result)) (sym c.in-Some.is) c.near_line.ensures

pub returns-in-None : goal.returns-in-None
returns-in-None c = subst (λ o. AreBothNear o None) (sym c.in-None.is) tt
