use Rattle.miette_text.proofs.RowEnds.{only_trimmed, row-trimmed, rows-hold}
use Rattle.miette_text.proofs.Unique.{only_rows, rows-filled}
use Rattle.miette_text.proofs.wrap_laws.rows_law.Goals as goal

pub returns-clause-words : goal.returns-clause-words
returns-clause-words c = rows-hold

pub returns-clause-filled : goal.returns-clause-filled
returns-clause-filled c = rows-filled

pub returns-clause-only : goal.returns-clause-only
returns-clause-only c = only_rows

pub returns-clause-spaces : goal.returns-clause-spaces
returns-clause-spaces c = row-trimmed

pub returns-clause-only_spaces : goal.returns-clause-only_spaces
returns-clause-only_spaces c = only_trimmed
