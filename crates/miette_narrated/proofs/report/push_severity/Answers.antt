use Rattle.std.proofs.Common.{ap, ◌∙◌, ◌++◌, string_bytes, codes}
use Rattle.std.proofs.lemmas.Result.{on_ok_weaker}
use Rattle.miette_narrated.specs.rules.Labels.{row}
use Rattle.miette_narrated.proofs.report.push_severity.Goals as goal

pub returns : goal.returns
returns c = on_ok_weaker c.push_row.result (λ h. h ∙ ap (λ t. string_bytes c.args.out.now
    ++ row (codes "    Diagnostic severity: " ++ t)) c.severity_name.ensures) c.push_row.ensures
