use Rattle.miette_read_laws.proofs.Whole.{all_said}
use Rattle.miette_read_laws.proofs.log_laws.what_is_said_reads_back.Goals as goal

pub returns : goal.returns
returns c = all_said
