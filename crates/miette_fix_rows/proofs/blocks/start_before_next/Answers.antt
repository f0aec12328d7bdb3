use Rattle.miette_fix_rows.proofs.Places.{same_line}
use Rattle.miette_fix_rows.proofs.blocks.start_before_next.Goals as goal

pub returns-then-start-offset-clause-start : goal.returns-then-start-offset-clause-start
returns-then-start-offset-clause-start c =
    same_line c.args.source.now c.args.start c.args.offset c.args.next c.requires.known c.requires.order
    c.if-start-offset.true
