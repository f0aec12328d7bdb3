use Rattle.miette_snippet_laws.proofs.CutEnds.{after_shown}
use Rattle.miette_snippet_laws.proofs.EndLabels.{ends_stand, all_after_text, rows_alike}
use Rattle.miette_snippet_laws.proofs.row_laws.ends_are_drawn.Goals as goal

pub returns-clause-lines : goal.returns-clause-lines
returns-clause-lines c = ends_stand

pub returns-clause-marks : goal.returns-clause-marks
returns-clause-marks c = all_after_text

pub returns-clause-row : goal.returns-clause-row
returns-clause-row c = after_shown

pub returns-clause-others : goal.returns-clause-others
returns-clause-others c = rows_alike
