use Rattle.std.proofs.Common.{◌≡◌, ◌∙◌, ap, arith}
use Rattle.std.specs.Io.Buffered.{reader_remaining}
use Rattle.miette_lint_program.proofs.LintServerSteps.{ended_status}
use Rattle.miette_lint_program.proofs.lint_server.lint_serve_with.Goals as goal

pub returns-in-Ok-clause-ended : goal.returns-in-Ok-clause-ended
returns-in-Ok-clause-ended g c =
    let front = g.R.Read.remaining c.args.reader in
    let same = ap (reader_remaining g.R.Read.remaining) c.new-client.ensures.reader ∙ c.in-Ok.ensures.whole in
    ended_status c.args.width front _ _ _ _ _ c.serve_on.result _ _ _ _ same c.serve_on.ensures.service

pub returns-in-Err-clause-ended : goal.returns-in-Err-clause-ended
returns-in-Err-clause-ended g c =
    let two : c.fail.result.status ≡ 2 = c.fail.ensures.status in λ lt. absurd (omega (arith, lt, two))
