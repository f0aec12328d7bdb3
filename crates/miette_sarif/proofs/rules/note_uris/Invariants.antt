use Rattle.std.proofs.Common.{◌≡◌, ℕ, List, drop}
use Rattle.miette_sarif.specs.rules.Codes.{first_or, help_uri}
use Rattle.miette_sarif.specs.views.Findings.{sarif_findings_of}
use Rattle.miette_sarif.specs.views.Rules.{uri_at}
use Rattle.miette_sarif.proofs.rules.note_uris.Given as goal

abbrev pub invariant-loop-finding : goal.invariant-loop-finding
invariant-loop-finding l = (code : List ℕ) → first_or (uri_at l.uris code)
    (help_uri code (sarif_findings_of (drop l.finding-index l.findings)))
    ≡ first_or (uri_at l.fn.uris code) (help_uri code (sarif_findings_of l.findings))
