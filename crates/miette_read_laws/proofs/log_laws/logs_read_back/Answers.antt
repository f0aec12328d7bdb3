use Rattle.miette_read_laws.proofs.Whole.{log_read}
use Rattle.miette_read_laws.proofs.log_laws.logs_read_back.Goals as goal

pub returns : goal.returns
returns c = log_read
