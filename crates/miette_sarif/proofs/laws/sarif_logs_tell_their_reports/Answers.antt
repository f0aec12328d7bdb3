use Rattle.miette_sarif.proofs.LogResults.{log_told}
use Rattle.miette_sarif.proofs.laws.sarif_logs_tell_their_reports.Goals as goal

pub returns : goal.returns
returns c = log_told
