use Rattle.std.proofs.Common.{ap, ◌∙◌, List, ℕ}
use Rattle.std.proofs.lemmas.Result.{IfOk-weaker}
use Rattle.miette_protocol.specs.views.Meaning.{Meaning}
use Rattle.miette_brief.specs.rules.Report as rows
use Rattle.miette_draw.specs.rules.Pictures.{over_input}
use Rattle.miette_lint_program.proofs.AcceptedFindings.{warned_accepted}
use Rattle.miette_lint_program.proofs.lint_reports.render_rows.Goals as goal

pub returns-clause-text : goal.returns-clause-text
returns-clause-text c =
    let told : Meaning → List ℕ = λ m. rows.brief rows.default_brief_settings (over_input c.args.check.now.name.now m
    c.args.source.items) rows.unlisted in
    IfOk-weaker c.rows_over.result _ _ (λ text h. h ∙ ap told c.in_ok-diagnostic.ensures) c.rows_over.ensures.ok

pub returns-clause-accepted : goal.returns-clause-accepted
returns-clause-accepted c = λ accepted.
    c.rows_over.ensures.accepted (warned_accepted _ c.args.found.items c.args.source.items c.in_ok-diagnostic.ensures
    accepted)
