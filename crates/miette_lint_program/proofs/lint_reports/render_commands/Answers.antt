use Rattle.std.proofs.Common.{map, string_bytes}
use Rattle.std.proofs.lemmas.Result.{IfOk-weaker}
use Rattle.miette_lint.specs.views.Found.{coded_of}
use Rattle.miette_lint_program.proofs.CommandSteps.{all_told, labels_accepted}
use Rattle.miette_lint_program.proofs.lint_reports.render_commands.Goals as goal

pub returns-clause-text : goal.returns-clause-text
returns-clause-text c =
    let check = c.args.check.now in
    IfOk-weaker c.commands_over.result _ _ (λ text h. all_told check.name.now check.width c.args.source.items _
    (string_bytes text) (map coded_of c.in_ok-found.found.items) c.in_ok-found.ensures c.as_slice.ensures.value h)
    c.commands_over.ensures.ok

pub returns-clause-accepted : goal.returns-clause-accepted
returns-clause-accepted c =
    c.commands_over.ensures.accepted (labels_accepted c.args.source.items _ c.args.check.now.width
    (map coded_of c.in_ok-found.found.items) c.lint_finding_laws.ensures.labels c.in_ok-found.ensures
    c.as_slice.ensures.value)
