use Rattle.std.proofs.Common.{map}
use Rattle.miette_sarif.specs.views.Findings.{mark_of}
use Rattle.miette_sarif.proofs.Picks.{marks_pushed}
use Rattle.miette_sarif.proofs.labels.push_groups.Goals as goal

pub loop-group-preserved : goal.loop-group-preserved
loop-group-preserved c =
    marks_pushed (map mark_of c.args.locations.now.items) (map mark_of c.loop-group.locations.items) _
    c.loop-group.yielded
    c.in-Some.group c.loop-group.invariant c.in_ok-push_group.ensures
