use Rattle.miette_read_laws.proofs.Whole.{all_told}
use Rattle.miette_read_laws.proofs.log_laws.what_is_told_reads_back.Goals as goal

pub returns : goal.returns
returns c = all_told
