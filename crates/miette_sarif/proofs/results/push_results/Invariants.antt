use Rattle.std.proofs.Common.{drop, ◌≡◌}
use Rattle.miette_json.specs.rules.Writing.{opened, with_items}
use Rattle.miette_sarif.specs.rules.Objects.{items_of}
use Rattle.miette_sarif.specs.rules.Results.{results}
use Rattle.miette_sarif.specs.views.Artifacts.{artifacts_view}
use Rattle.miette_sarif.specs.views.Findings.{sarif_findings_of}
use Rattle.miette_sarif.specs.views.Rules.{rules_view}
use Rattle.miette_sarif.proofs.results.push_results.Given as goal

abbrev pub invariant-loop-finding : goal.invariant-loop-finding
invariant-loop-finding l = with_items (items_of (results (rules_view l.rules) (artifacts_view l.artifacts)
    (sarif_findings_of (drop l.finding-index l.findings)))) l.json
    ≡ with_items (items_of (results (rules_view l.rules) (artifacts_view l.artifacts) (sarif_findings_of l.findings)))
    (opened 91 l.fn.json)
