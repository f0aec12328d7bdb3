use Rattle.std.proofs.Common.{◌≡◌, true}
use Rattle.serde_json.specs.View.{view}
use Rattle.miette_tree.specs.rules.Reads.{AlwaysReads, report_in_bounds}
use Rattle.miette_read.proofs.AllHold.{reports_hold}
use Rattle.miette_read.proofs.format.reports_in.Goals as goal

pub returns-clause-reads : goal.returns-clause-reads
returns-clause-reads g c =
    let files = c.args.files.now in
    reports_hold AlwaysReads _ (λ list. list.items) _ c.reports.result
    (c.reports_always_read.ensures (g.F.Files.found files) (view c.args.value.now) (g.met.F.Files.reads files))
    c.reports.ensures.ok

pub returns-clause-accepted : goal.returns-clause-accepted
returns-clause-accepted g c =
    let files = c.args.files.now in
    reports_hold (λ tree. report_in_bounds tree ≡ true) _ (λ list. list.items) _ c.reports.result
    (c.labels_are_accepted.ensures (g.F.Files.found files) (view c.args.value.now) (g.met.F.Files.reads files))
    c.reports.ensures.ok
