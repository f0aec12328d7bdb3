use Rattle.std.proofs.Common.{inl, inr, refl}
use Rattle.miette_language_server.proofs.Clients.{still_open}
use Rattle.miette_lint_program.proofs.LintServerSteps.{server_fault}
use Rattle.miette_lint_program.proofs.lint_server.serve_on.Goals as goal

pub returns-in-Ok-clause-service : goal.returns-in-Ok-clause-service
returns-in-Ok-clause-service g c =
    let ok = c.in-Ok.ensures in
    let ready = still_open c.serve.new.client c.in-Ok.status ok.read_failed ok.write_failed ok.sent in
    inl (ok.served, ready, refl {a = c.args.faults.now})

pub returns-in-Err-clause-service : goal.returns-in-Err-clause-service
returns-in-Err-clause-service g c = inr (
  c.in-Err.fault,
  record { status = c.fail.ensures.status; row = c.fail.ensures.row },
  server_fault _ _ c.serve.result c.in-Err.fault c.in-Err.is c.serve.ensures.read_failed c.serve.ensures.write_failed
      c.serve.ensures.others,
  c.in-Err.ensures.begun,
)
