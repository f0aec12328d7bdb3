use Rattle.miette_lines.proofs.Backs.{newline_none, newline_same}
use Rattle.miette_lines.proofs.scan.last_newline.Goals as goal

pub returns-clause-none : goal.returns-clause-none
returns-clause-none c = newline_none c.args.bytes.now c.args.offset c.memrchr2.result c.requires c.memrchr2.ensures

pub returns-clause-same : goal.returns-clause-same
returns-clause-same c = newline_same c.args.bytes.now c.args.offset c.memrchr2.result c.requires c.memrchr2.ensures
