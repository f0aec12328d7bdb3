use Rattle.std.proofs.Common.{ap, codes, ◌∙◌}
use Rattle.std.proofs.lemmas.Result.{on_ok_weaker}
use Rattle.miette_json.proofs.WrittenSteps.{four_steps}
use Rattle.miette_json.specs.rules.Json.{number}
use Rattle.miette_json.specs.rules.Writing.{with_key, with_value}
use Rattle.miette_lsp.specs.rules.Diagnostics.{area_range, code_pairs, primary_area, severity}
use Rattle.miette_sarif.specs.steps.Members.{with_pairs}
use Rattle.miette_sarif.specs.views.Findings.{finding_of}
use Rattle.miette_lsp.proofs.diagnostic.push_head.Goals as goal

pub returns : goal.returns
returns c =
    let f = finding_of c.args.finding.now in
    on_ok_weaker c.push_code.result (four_steps (with_key (codes "range"))
    (with_value (area_range (primary_area f.primary)))
    (λ p. with_value (number (severity f.level)) (with_key (codes "severity") p)) (with_pairs (code_pairs f.code f.url))
    _ _ _ _ _ c.in_ok-key.ensures (c.in_ok-push_area_range.ensures
    ∙ ap (λ o. with_value (area_range o) c.key.new.self) c.primary_area.ensures)
    (c.in_ok-number_member.ensures
    ∙ ap (λ n. with_value (number n) (with_key (codes "severity") c.push_area_range.new.json)) c.severity.ensures))
    c.push_code.ensures
