use Rattle.miette_snippet_laws.proofs.CutMarks.{columns_same, marks_moved}
use Rattle.miette_snippet_laws.proofs.row_laws.underlines_keep_their_characters.Goals as goal

pub returns-clause-columns : goal.returns-clause-columns
returns-clause-columns c = columns_same

pub returns-clause-marks : goal.returns-clause-marks
returns-clause-marks c = marks_moved
