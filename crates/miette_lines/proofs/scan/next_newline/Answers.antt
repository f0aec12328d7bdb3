use Rattle.miette_lines.proofs.Backs.{newline_none_after, newline_same_after}
use Rattle.miette_lines.proofs.scan.next_newline.Goals as goal

pub returns-in-Some-clause-same : goal.returns-in-Some-clause-same
returns-in-Some-clause-same c = newline_same_after c.args.bytes.now c.args.offset c.in-Some.away c.in-Some.ensures.0

pub returns-in-None-clause-none : goal.returns-in-None-clause-none
returns-in-None-clause-none c = λ _. newline_none_after c.args.bytes.now c.args.offset c.requires c.in-None.ensures
