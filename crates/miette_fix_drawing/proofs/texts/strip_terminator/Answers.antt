use Rattle.std.proofs.Common.{ap, take}
use Rattle.miette_fix_drawing.proofs.texts.strip_terminator.Goals as goal

pub returns-clause-text : goal.returns-clause-text
returns-clause-text c = ap (λ k. take k c.args.line.now) c.text_len-len.ensures.len
