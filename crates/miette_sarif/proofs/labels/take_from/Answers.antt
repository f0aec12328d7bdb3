use Rattle.std.proofs.Common.{◌≡◌, None, ap, position, rules, ◌∙◌}
use Rattle.miette_sarif.specs.rules.Marks.{pick_in}
use Rattle.miette_sarif.specs.steps.Picking.{is_asked}
use Rattle.miette_sarif.specs.views.Grouped.{group_of}
use Rattle.miette_sarif.specs.views.Sources.{over_of, snapshot_of}
use Rattle.miette_sarif.proofs.Taken.{group_taken, nothing_taken}
use Rattle.miette_sarif.proofs.labels.take_from.Goals as goal

pub returns-in_err-at-clause-picked : goal.returns-in_err-at-clause-picked
returns-in_err-at-clause-picked c =
    let group = c.args.group.now in
    let none : pick_in (is_asked c.args.marked) (group_of group) ≡ None =
    nothing_taken (is_asked c.args.marked) (over_of group.seen) group.labels.items
    (c.in_err-at.ensures ∙ ap (position (λ l. is_asked c.args.marked l.now)) c.deref.ensures.value) in
    search rules

pub returns-clause-picked : goal.returns-clause-picked
returns-clause-picked c =
    let group = c.args.group.now in
    group_taken (is_asked c.args.marked) (over_of group.seen) (snapshot_of c.in_ok-seen.seen.now) group.labels.items
    c.remove-label.new.self.items c.in_ok-at.at c.remove-label.result _ (ap over_of c.in_ok-seen.was)
    (c.in_ok-at.ensures ∙ ap (position (λ l. is_asked c.args.marked l.now)) c.deref.ensures.value)
    c.remove-label.ensures.value c.remove-label.ensures.items c.mark_over.ensures
