use Rattle.std.proofs.Common.{◌∙◌, List, map, ap, sym, subst}
use Rattle.miette_snippet_folds.specs.declared.folds.Fold.{Fold}
use Rattle.miette_snippet_folds.specs.declared.folds.LabelExtent.{LabelExtent as MadeExtent}
use Rattle.miette_snippet_folds.specs.views.NearFolds.{AreStops}
use Rattle.miette_snippet_folds.specs.views.ExtentIndexes.{AreBounds}
use Rattle.miette_snippet_folds.proofs.NearFolds.{labels_of}
use Rattle.miette_snippet_folds.proofs.fold_index.index_folds.Goals as goal

pub invariant_of-result : goal.invariant_of-result
invariant_of-result c =
    let contents = c.args.contents.now in
    let bounds = c.in_ok-bounds.bounds in
    record {
      bounds = subst (λ (ls : List MadeExtent). AreBounds ls bounds.untils.items bounds.froms.items)
          (sym (ap (map (λ (f : Fold). f.label)) c.in_ok-all.ensures
          ∙ labels_of contents.span.offset contents.bytes c.args.labels.now))
          c.in_ok-bounds.ensures;
      stops = subst (λ (fs : List Fold). AreStops fs c.in_ok-stops.stops.items) c.deref.ensures.value
          c.in_ok-stops.ensures;
    }
