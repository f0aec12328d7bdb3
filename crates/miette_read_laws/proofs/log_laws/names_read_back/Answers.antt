use Rattle.miette_read_laws.proofs.NamesBack.{address_back, name_back}
use Rattle.miette_read_laws.proofs.log_laws.names_read_back.Goals as goal

pub returns-clause-names : goal.returns-clause-names
returns-clause-names c = name_back

pub returns-clause-addresses : goal.returns-clause-addresses
returns-clause-addresses c = address_back
