use Rattle.std.proofs.Common.{◌+◌, drop, ap, sym, ◌∙◌}
use Rattle.miette_sarif.specs.rules.Codes.{first_or, help_uri}
use Rattle.miette_sarif.specs.views.Findings.{finding_of, sarif_findings_of}
use Rattle.miette_sarif.specs.views.Rules.{uri_at}
use Rattle.miette_sarif.proofs.Gathers.{next_in}
use Rattle.miette_sarif.proofs.Noted.{uri_step}
use Rattle.miette_sarif.proofs.rules.note_uris.Goals as goal

pub loop-finding-preserved : goal.loop-finding-preserved
loop-finding-preserved c = λ code.
    let l = c.loop-finding in
    let next = next_in finding_of c.args.findings.now l.finding-index c.finding-item.result c.loop-finding-test.true
    c.finding-item.is in
    uri_step (uri_at l.uris code) (uri_at c.note_uri.new.uris code) code (finding_of c.finding-item.result)
    (sarif_findings_of (drop (l.finding-index + 1) c.args.findings.now)) _ (c.in_ok-note_uri.ensures code)
    (ap (λ fs. first_or (uri_at l.uris code) (help_uri code fs)) (sym next) ∙ l.invariant code)
