use Rattle.miette_read_laws.proofs.Indexed.{all_indexed}
use Rattle.miette_read_laws.proofs.log_laws.artifacts_are_indexed.Goals as goal

pub returns : goal.returns
returns c = all_indexed
