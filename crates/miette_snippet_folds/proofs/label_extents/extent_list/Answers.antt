use Rattle.std.proofs.Common.{List, sym, subst, All}
use Rattle.std.proofs.lemmas.List.Elements.{All-nil}
use Rattle.miette_snippet_folds.specs.declared.folds.LabelExtent.{LabelExtent as MadeExtent}
use Rattle.miette_snippet_folds.specs.views.ReadExtents.{HasLines}
use Rattle.miette_snippet_folds.proofs.label_extents.extent_list.Goals as goal

pub returns-in-None-clause-lines : goal.returns-in-None-clause-lines
returns-in-None-clause-lines c = λ source all.
    subst (λ (xs : List MadeExtent). All (HasLines source.bytes) xs) (sym c.new.ensures.items)
    (All-nil (HasLines source.bytes))
