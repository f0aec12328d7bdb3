use Rattle.miette_snippet_laws.proofs.CutLaws.{cut_by_reach}
use Rattle.miette_snippet_laws.proofs.row_laws.lines_are_cut_by_reach.Goals as goal

pub returns : goal.returns
returns c = cut_by_reach
