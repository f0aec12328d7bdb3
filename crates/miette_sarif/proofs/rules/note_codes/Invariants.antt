use Rattle.std.proofs.Common.{◌≡◌, drop}
use Rattle.miette_sarif.specs.rules.Codes.{codes_after}
use Rattle.miette_sarif.specs.views.Findings.{sarif_findings_of}
use Rattle.miette_sarif.specs.views.Rules.{codes_seen}
use Rattle.miette_sarif.proofs.rules.note_codes.Given as goal

abbrev pub invariant-loop-finding : goal.invariant-loop-finding
invariant-loop-finding l = codes_after (codes_seen l.codes.keys) (sarif_findings_of (drop l.finding-index l.findings))
    ≡ codes_after (codes_seen l.fn.codes.keys) (sarif_findings_of l.findings)
