use Rattle.std.proofs.Common.{ap, ◌∙◌}
use Rattle.miette_sarif.specs.rules.Marks.{pick_in}
use Rattle.miette_sarif.specs.steps.Picking.{is_asked}
use Rattle.miette_sarif.specs.views.Findings.{mark_of}
use Rattle.miette_sarif.specs.views.Grouped.{group_of}
use Rattle.miette_sarif.proofs.Taken.{first_taken}
use Rattle.miette_sarif.proofs.labels.take_first.Goals as goal

pub returns-in-Some-clause-picked : goal.returns-in-Some-clause-picked
returns-in-Some-clause-picked c =
    let l = c.loop-group in
    first_taken (is_asked c.args.marked) c.args.groups.now l.groups l.group-index c.group-item.result
    c.take_from.new.group (mark_of c.in-Some.mark) l.invariant.picked l.invariant.same c.loop-group-test.true
    c.group-item.is
    (ap (λ g. pick_in (is_asked c.args.marked) (group_of g)) c.group-item.is ∙ c.in-Some.ensures.picked)
