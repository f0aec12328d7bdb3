use Rattle.miette_snippet_laws.proofs.CutShows.{cut_by, cut_pieces, is_within_of, within_is}
use Rattle.miette_snippet_laws.proofs.row_laws.cut_lines_are_parted.Goals as goal

pub returns-clause-cut : goal.returns-clause-cut
returns-clause-cut c = cut_by

pub returns-clause-within : goal.returns-clause-within
returns-clause-within c = λ reach cell column some. (within_is reach cell column some, is_within_of reach cell column)

pub returns-clause-printed : goal.returns-clause-printed
returns-clause-printed c = λ run pieces cut. cut_pieces run pieces 0 cut
