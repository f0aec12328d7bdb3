use Rattle.miette_show_rows.proofs.RowEnds.{none_found, row_found}
use Rattle.miette_show_rows.proofs.row_reader.row_end.Goals as goal

pub returns-in-Some-clause-end : goal.returns-in-Some-clause-end
returns-in-Some-clause-end c = row_found c.args.pending.now c.in-Some.at c.in-Some.ensures.0 c.in-Some.ensures.1

pub returns-in-None-clause-end : goal.returns-in-None-clause-end
returns-in-None-clause-end c = none_found c.args.pending.now c.in-None.ensures
