use Rattle.std.proofs.Common.{◌-◌, List, take, drop, ap, sym, subst, All}
use Rattle.miette_snippet_folds.specs.declared.folds.LabelExtent.{LabelExtent as MadeExtent}
use Rattle.miette_snippet_folds.specs.views.ExtentIndex.{IsNumbered}
use Rattle.miette_snippet_folds.specs.views.ExtentIndexes.{AreAround}
use Rattle.miette_snippet_folds.proofs.AroundLines.{around_part, some_numbered}
use Rattle.miette_snippet_folds.proofs.extent_index.ExtentIndex.around.Goals as goal

pub returns-clause-around : goal.returns-clause-around
returns-clause-around c =
    let all = c.self.inside.all.items in
    let first = c.range_touching-near.result.first in
    let after = c.range_touching-near.result.after in
    let some = take (after - first) (drop first c.deref.result.now) in
    subst (λ (xs : List MadeExtent). AreAround c.args.start c.args.end xs some) c.self.view_is
    (around_part c.args.start c.args.end all some first after (c.range_touching-near.ensures all c.self.invariant)
    (ap (λ xs. take (after - first) (drop first xs)) c.deref.ensures.value))

pub returns-clause-numbered : goal.returns-clause-numbered
returns-clause-numbered c = λ contents each.
    let all = c.self.inside.all.items in
    let first = c.range_touching-near.result.first in
    let many = c.range_touching-near.result.after - first in
    some_numbered contents all (take many (drop first c.deref.result.now)) first many
    (ap (λ xs. take many (drop first xs)) c.deref.ensures.value)
    (subst (λ (xs : List MadeExtent). All (IsNumbered contents) xs) (sym c.self.view_is) each)
