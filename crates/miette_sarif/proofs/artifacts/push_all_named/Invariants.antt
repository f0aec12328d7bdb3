use Rattle.std.proofs.Common.{◌≡◌, ◌++◌, drop}
use Rattle.miette_sarif.specs.rules.Artifacts.{all_named}
use Rattle.miette_sarif.specs.views.Findings.{sarif_findings_of, source_names_of}
use Rattle.miette_sarif.proofs.artifacts.push_all_named.Given as goal

abbrev pub invariant-loop-finding : goal.invariant-loop-finding
invariant-loop-finding l = source_names_of l.names.items ++ all_named (sarif_findings_of
    (drop l.finding-index l.findings))
    ≡ source_names_of l.fn.names.items ++ all_named (sarif_findings_of l.findings)
