use Rattle.miette_text.proofs.PlainTexts.{searched-escape}
use Rattle.miette_text.proofs.wrapping.has_no_escape.Goals as goal

pub returns : goal.returns
returns c = searched-escape c.args.bytes.now c.memchr.result c.is_none.result c.memchr.ensures c.is_none.ensures
