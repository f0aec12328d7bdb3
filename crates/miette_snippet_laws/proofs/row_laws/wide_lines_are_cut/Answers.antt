use Rattle.miette_snippet_laws.proofs.CutLaws.{fits_whole, wide_cut}
use Rattle.miette_snippet_laws.proofs.row_laws.wide_lines_are_cut.Goals as goal

pub returns-clause-wide : goal.returns-clause-wide
returns-clause-wide c = wide_cut

pub returns-clause-fits : goal.returns-clause-fits
returns-clause-fits c = fits_whole
