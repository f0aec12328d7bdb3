use Rattle.std.proofs.Common.{◌≡◌, take, drop}
use Rattle.miette_sarif.specs.rules.Marks.{pick}
use Rattle.miette_sarif.specs.steps.Picking.{is_asked}
use Rattle.miette_sarif.specs.views.Grouped.{groups_in}
use Rattle.miette_sarif.proofs.Picks.{after_groups}
use Rattle.miette_sarif.proofs.labels.take_first.Given as goal

abbrev pub invariant-loop-group : goal.invariant-loop-group
invariant-loop-group l = record {
  same : l.groups ≡ l.fn.groups;
  picked : pick (is_asked l.marked) (groups_in l.fn.groups)
      ≡ after_groups (groups_in (take l.group-index l.fn.groups))
      (pick (is_asked l.marked) (groups_in (drop l.group-index l.fn.groups)));
}
