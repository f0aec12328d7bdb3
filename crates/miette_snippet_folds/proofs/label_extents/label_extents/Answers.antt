use Rattle.std.proofs.Common.{◌∙◌, List, ap, map, subst, sym, All}
use Rattle.std.proofs.lemmas.Result.{IfOk-weaker}
use Rattle.miette_snippet_folds.specs.declared.folds.LabelExtent.{LabelExtent as MadeExtent}
use Rattle.miette_snippet_folds.specs.views.ExtentIndex.{extent_view}
use Rattle.miette_snippet_folds.specs.views.ReadExtents.{HasLines}
use Rattle.miette_snippet_folds.proofs.label_extents.label_extents.Goals as goal

pub returns-clause-parts : goal.returns-clause-parts
returns-clause-parts c = IfOk-weaker c.new.result _ _ (λ made is. ap (map extent_view) is ∙ c.in_ok-all.ensures.parts)
    c.new.ensures

pub returns-clause-lines : goal.returns-clause-lines
returns-clause-lines c = IfOk-weaker c.new.result _ _ (λ made is. λ source each.
    subst (λ (xs : List MadeExtent). All (HasLines source.bytes) xs) (sym is) (c.in_ok-all.ensures.lines source each))
    c.new.ensures
