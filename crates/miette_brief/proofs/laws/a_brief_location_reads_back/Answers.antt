use Rattle.miette_brief.proofs.ReadingBack.{place_back}
use Rattle.miette_brief.proofs.laws.a_brief_location_reads_back.Goals as goal

pub returns : goal.returns
returns c = λ row name n p fits. place_back row name n p fits
