use Rattle.miette_snippet_laws.proofs.BreakRows.{break_rows}
use Rattle.miette_snippet_laws.proofs.row_laws.break_rows_have_bars.Goals as goal

pub returns : goal.returns
returns c = break_rows
