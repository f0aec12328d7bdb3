use Rattle.std.proofs.Common.{ap, ◌∙◌}
use Rattle.miette_sarif.specs.rules.Codes.{codes_after, first_or, help_uri}
use Rattle.miette_sarif.specs.views.Findings.{sarif_findings_of}
use Rattle.miette_sarif.specs.views.Rules.{codes_seen}
use Rattle.miette_sarif.proofs.Noted.{none_noted, same_rules}
use Rattle.miette_sarif.proofs.rules.rules_in.Goals as goal

pub returns : goal.returns
returns c =
    let fs = sarif_findings_of c.args.findings.now in
    same_rules _ _ _ _
    (c.in_ok-note_codes.ensures ∙ ap (λ keys. codes_after (codes_seen keys) fs) c.new-codes.ensures.empty)
    (λ code. c.in_ok-note_uris.ensures code
    ∙ ap (λ o. first_or o (help_uri code fs)) (none_noted c.new-uris.result c.new-uris.ensures.empty code))
