use Rattle.std.proofs.Common.{◌≡◌, ◌∷◌, refl, rules}
use Rattle.std.specs.Vec.Iter.{into_iter_items}
use Rattle.miette_lint.proofs.CodedSteps.{coded_put}
use Rattle.miette_lint.proofs.coded.push_coded.Goals as goal

pub returns-in_ok-push : goal.returns-in_ok-push
returns-in_ok-push c =
    let rest = into_iter_items c.next.new.self in
    let some : c.args.labels.items ≡ c.in-Some.label ∷ rest = search rules in
    coded_put _ c.args.code.now c.args.fixes.items c.in-Some.label c.args.labels.items rest _ _ refl some
    c.in_ok-push.ensures.items
