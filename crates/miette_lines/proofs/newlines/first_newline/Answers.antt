use Rattle.miette_lines.proofs.Blocks.{first-here, first-nowhere}
use Rattle.miette_lines.proofs.newlines.first_newline.Goals as goal

pub returns-then-len-bytes : goal.returns-then-len-bytes
returns-then-len-bytes c =
    first-here c.args.bytes.now c.text_len-len.result c.text_len-len.ensures c.if-len-bytes.true

pub returns-else-len-bytes : goal.returns-else-len-bytes
returns-else-len-bytes c =
    first-nowhere c.args.bytes.now c.text_len-len.result c.text_len-len.ensures c.if-len-bytes.false
