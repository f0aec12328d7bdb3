use Rattle.std.proofs.lemmas.List.{take_rest}
use Rattle.miette_fix_rows.proofs.Places.{rest_line_end, line_end_last}
use Rattle.miette_fix_rows.proofs.blocks.end_of_line.Goals as goal

pub returns-then-offset-source-clause-end : goal.returns-then-offset-source-clause-end
returns-then-offset-source-clause-end c =
    line_end_last c.args.source.now c.args.offset c.if-offset-source.true

pub returns-clause-end : goal.returns-clause-end
returns-clause-end c =
    rest_line_end c.args.source.now _ c.args.offset c.first_line.result c.requires
    (take_rest c.args.source.now c.args.offset) c.first_line.ensures
