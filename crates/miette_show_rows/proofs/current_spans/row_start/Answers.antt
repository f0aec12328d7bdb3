use Rattle.miette_show_rows.proofs.RowStarts.{start_found, start_none}
use Rattle.miette_show_rows.proofs.current_spans.row_start.Goals as goal

pub returns-in-Some-clause-start : goal.returns-in-Some-clause-start
returns-in-Some-clause-start c =
    start_found c.args.bytes.now c.args.offset c.in-Some.at c.requires c.in-Some.ensures.0 c.in-Some.ensures.1

pub returns-in-None-clause-start : goal.returns-in-None-clause-start
returns-in-None-clause-start c = start_none c.args.bytes.now c.args.offset c.requires c.in-None.ensures
