use Rattle.std.proofs.Common.{◌+◌, ap, drop}
use Rattle.miette_sarif.specs.rules.Artifacts.{all_named, named_in}
use Rattle.miette_sarif.specs.views.Findings.{finding_of, sarif_findings_of, source_names_of}
use Rattle.miette_sarif.proofs.Gathers.{next_in}
use Rattle.miette_sarif.proofs.Keys.{some_pushed}
use Rattle.miette_sarif.proofs.artifacts.push_all_named.Goals as goal

pub loop-finding-preserved : goal.loop-finding-preserved
loop-finding-preserved c =
    let l = c.loop-finding in
    some_pushed (source_names_of l.names.items) (source_names_of c.push_named.new.names.items)
    (named_in (finding_of c.finding-item.result)) (all_named (sarif_findings_of (drop l.finding-index
    c.args.findings.now)))
    (all_named (sarif_findings_of (drop (l.finding-index + 1) c.args.findings.now))) _ c.in_ok-push_named.ensures
    (ap all_named (next_in finding_of c.args.findings.now l.finding-index c.finding-item.result
    c.loop-finding-test.true c.finding-item.is)) l.invariant
