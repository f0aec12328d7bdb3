use Rattle.std.proofs.Common.{◌-◌, ◌&&◌, ◌∙◌, List, None, take, drop, map, ap, sym, subst}
use Rattle.std.specs.List.{list_any}
use Rattle.miette_lines.specs.views.Walking.{line_of_text}
use Rattle.miette_snippet_folds.specs.declared.folds.Fold.{Fold}
use Rattle.miette_snippet_folds.specs.declared.folds.LineStart.{LineStart}
use Rattle.miette_snippet_folds.specs.views.Folding.{is_around_fold}
use Rattle.miette_snippet_folds.specs.views.Gaps.{nearest_stop}
use Rattle.miette_snippet_folds.specs.views.NearFolds.{AreStops}
use Rattle.miette_snippet_folds.proofs.NearFolds.{around_near, near_window, stop_near}
use Rattle.miette_snippet_folds.proofs.fold_index.FoldIndex.around_line.Goals as goal

pub returns-clause-around : goal.returns-clause-around
returns-clause-around c = λ test.
    let line = line_of_text c.args.line.now in
    let all = c.self.inside.all.items in
    let first = c.range_touching-near.result.first in
    let after = c.range_touching-near.result.after in
    around_near line all (take (after - first) (drop first c.deref.result.now)) first after test
    (near_window line all first after
    (c.range_touching-near.ensures (map (λ (f : Fold). f.label) all) c.self.invariant.bounds))
    (ap (λ xs. take (after - first) (drop first xs)) c.deref.ensures.value)
    ∙ ap (list_any (λ (f : Fold). is_around_fold line f && test f)) c.self.view_is

pub returns-clause-stop : goal.returns-clause-stop
returns-clause-stop c =
    let line = line_of_text c.args.line.now in
    let all = c.self.inside.all.items in
    let first = c.range_touching-near.result.first in
    let after = c.range_touching-near.result.after in
    stop_near line all (take (after - first) (drop first c.deref.result.now)) first after c.stop_after.result
    (near_window line all first after
    (c.range_touching-near.ensures (map (λ (f : Fold). f.label) all) c.self.invariant.bounds))
    (ap (λ xs. take (after - first) (drop first xs)) c.deref.ensures.value)
    (c.stop_after.ensures all (subst (λ (xs : List LineStart). AreStops all xs) (sym c.deref-2.ensures.value)
    c.self.invariant.stops))
    ∙ ap (λ xs. nearest_stop line None xs) c.self.view_is
