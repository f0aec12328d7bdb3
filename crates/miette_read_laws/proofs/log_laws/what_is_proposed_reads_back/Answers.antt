use Rattle.miette_read_laws.proofs.Whole.{all_drafted}
use Rattle.miette_read_laws.proofs.log_laws.what_is_proposed_reads_back.Goals as goal

pub returns : goal.returns
returns c = all_drafted
