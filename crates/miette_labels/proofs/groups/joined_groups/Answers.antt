use Rattle.std.proofs.Common.{ap, ◌∙◌}
use Rattle.miette_labels.specs.views.Reads.{AreContents}
use Rattle.miette_labels.proofs.GroupsSoFar.{loop_first, loop_some, loop_none, loop_end, no_groups, item_contents}
use Rattle.miette_labels.proofs.groups.joined_groups.Goals as goal
use Rattle.miette_labels.proofs.groups.joined_groups.Goals.{in-Some-2}
use Rattle.miette_labels.proofs.groups.joined_groups.Goals.{in-None+in_ok-own_group-in-None+in_ok-push-in-None}

pub returns-in_default : goal.returns-in_default
returns-in_default g c = no_groups c.args.context (g.S.SourceCode.source c.args.source.now) c.args.labels.now
    c.new-done.result.items c.in_default.ensures.cases c.new-done.ensures.items

pub loop-label-init : goal.loop-label-init
loop-label-init g c =
    loop_first c.args.context (g.S.SourceCode.source c.args.source.now) c.args.labels.now c.in-Some.rest.now
    c.in-Some.first.now c.new-done.result.items _
    c.in-Some.ensures.cases.0 c.requires c.new-done.ensures.items c.in_ok-before.ensures.span
    c.in_ok-before.ensures.contents

pub extend_group-requires-clause-label : goal.extend_group-requires-clause-label
extend_group-requires-clause-label g c =
    item_contents c.args.context (g.S.SourceCode.source c.args.source.now) c.args.labels.now c.in-Some.rest.now
    c.in-Some.first.now c.label-item.result c.loop-label.label-index
    c.requires c.in-Some.ensures.cases.0 c.loop-label-test.true c.label-item.is

pub loop-label-preserved : goal.loop-label-preserved
loop-label-preserved g c =
    let own : AreContents c.args.context (g.S.SourceCode.source c.args.source.now) c.label-item.result.span
    c.label-item.result.contents =
    item_contents c.args.context (g.S.SourceCode.source c.args.source.now) c.args.labels.now c.in-Some.rest.now
    c.in-Some.first.now c.label-item.result c.loop-label.label-index
    c.requires c.in-Some.ensures.cases.0 c.loop-label-test.true c.label-item.is in
    elim c.match-branch-3.branch [
      | in-Some-2 w ↦
          loop_some c.args.context (g.S.SourceCode.source c.args.source.now) c.args.labels.now c.in-Some.rest.now
          c.label-item.result c.loop-label.label-index c.loop-label.done.items c.match-branch-3.done.items
          c.loop-label.before c.match-branch-3.before w.in-Some-2.group c.in_ok-group.field-0 c.loop-label-test.true
          c.label-item.is c.loop-label.invariant c.in_ok-group.ensures w.in-Some-2.is (ap (λ v. v.items) w.done-is)
          w.before-is
      | in-None+in_ok-own_group-in-None+in_ok-push-in-None w ↦
          loop_none c.args.context (g.S.SourceCode.source c.args.source.now) c.args.labels.now c.in-Some.rest.now
          c.label-item.result c.loop-label.label-index c.loop-label.done.items c.match-branch-3.done.items
          c.loop-label.before w.replace.result c.match-branch-3.before w.in_ok-own_group-in-None.field-0
          c.in_ok-group.field-0 c.loop-label-test.true c.label-item.is c.loop-label.invariant c.in_ok-group.ensures
          w.in-None.is own
          w.replace.ensures.value (ap (λ v. v.items) w.done-is ∙ w.in_ok-push-in-None.ensures.items)
          (w.before-is ∙ w.replace.ensures.after) w.in_ok-own_group-in-None.ensures.span
          w.in_ok-own_group-in-None.ensures.contents
    ]

pub returns : goal.returns
returns g c =
    loop_end c.args.context (g.S.SourceCode.source c.args.source.now) c.args.labels.now c.in-Some.rest.now
    c.loop-label.label-index c.loop-label.done.items c.push-2.new.self.items c.loop-label.before
    c.loop-label-test.false c.loop-label.invariant c.in_ok-push.ensures.items
