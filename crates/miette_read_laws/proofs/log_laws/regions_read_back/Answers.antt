use Rattle.miette_read_laws.proofs.RegionsBack.{span_back}
use Rattle.miette_read_laws.proofs.log_laws.regions_read_back.Goals as goal

pub returns : goal.returns
returns c = span_back
