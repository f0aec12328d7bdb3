use Rattle.miette_text.proofs.Fitting.{searched-line}
use Rattle.miette_text.proofs.wrapping.fitting.is_line.Goals as goal

pub returns : goal.returns
returns c = searched-line c.args.bytes.now c.memchr2.result c.is_none.result c.memchr2.ensures c.is_none.ensures
