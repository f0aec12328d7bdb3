use Rattle.miette_read_sarif.proofs.LogsHold.{notices_keep, sarif_keeps}
use Rattle.miette_read_sarif.proofs.laws.rows_are_kept.Goals as goal

pub returns-clause-results : goal.returns-clause-results
returns-clause-results c = sarif_keeps

pub returns-clause-notices : goal.returns-clause-notices
returns-clause-notices c = notices_keep
