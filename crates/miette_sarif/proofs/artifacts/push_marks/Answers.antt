use Rattle.std.proofs.Common.{◌+◌, ap, drop, map}
use Rattle.miette_sarif.specs.rules.Artifacts.{named_in_marks}
use Rattle.miette_sarif.specs.views.Findings.{mark_of, source_names_of}
use Rattle.miette_sarif.proofs.Gathers.{next_at}
use Rattle.miette_sarif.proofs.Keys.{some_pushed}
use Rattle.miette_sarif.proofs.artifacts.push_marks.Goals as goal

pub loop-mark-preserved : goal.loop-mark-preserved
loop-mark-preserved c =
    let l = c.loop-mark in
    some_pushed (source_names_of l.names.items) (source_names_of c.push_place.new.names.items) _
    (named_in_marks (map mark_of (drop l.mark-index c.args.locations.now)))
    (named_in_marks (map mark_of (drop (l.mark-index + 1) c.args.locations.now))) _ c.in_ok-push_place.ensures
    (ap named_in_marks (next_at mark_of c.args.locations.now l.mark-index _ c.loop-mark-test.true)) l.invariant
