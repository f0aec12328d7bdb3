use Rattle.std.proofs.Common.{◌∙◌, sym}
use Rattle.miette_fix_rows.proofs.Texts.{nil_is}
use Rattle.miette_fix_rows.proofs.changes.has_no_line.Goals as goal

pub returns : goal.returns
returns c = c.is_empty.ensures ∙ sym (nil_is c.args.bytes.now)
