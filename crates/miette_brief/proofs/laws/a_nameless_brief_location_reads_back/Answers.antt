use Rattle.miette_brief.proofs.ReadingBack.{nameless_back}
use Rattle.miette_brief.proofs.laws.a_nameless_brief_location_reads_back.Goals as goal

pub returns : goal.returns
returns c = nameless_back
