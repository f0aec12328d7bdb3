use Rattle.std.proofs.Common.{◌∙◌, ap}
use Rattle.miette_lint.specs.rules.FindingWithFixes.{coded_findings}
use Rattle.miette_language_server.proofs.Lists.{told_all}
use Rattle.miette_language_server.proofs.diagnostics.placed_diagnostics.Goals as goal

pub returns : goal.returns
returns c =
    told_all c.args.uri.now c.args.source.now c.diagnostic_values.result c.as_slice.result.now c.in_ok-found.found.items
    (coded_findings c.args.source.now.source c.args.width) c.as_slice.ensures.value
    (c.in_ok-found.ensures ∙ ap (λ t. coded_findings t c.args.width) c.source.ensures) c.diagnostic_values.ensures
