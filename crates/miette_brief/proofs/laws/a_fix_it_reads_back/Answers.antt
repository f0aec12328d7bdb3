use Rattle.miette_brief.proofs.EditsBack.{edit_back}
use Rattle.miette_brief.proofs.laws.a_fix_it_reads_back.Goals as goal

pub returns : goal.returns
returns c = λ it name text start end. edit_back it name text start end
