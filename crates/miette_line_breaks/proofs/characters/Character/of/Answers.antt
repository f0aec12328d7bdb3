use Rattle.std.proofs.Common.{sym}
use Rattle.miette_line_breaks.proofs.AsciiClasses.{ascii-is}
use Rattle.miette_line_breaks.proofs.characters.Character.of.Goals as goal

pub returns-then-code-lt128 : goal.returns-then-code-lt128
returns-then-code-lt128 c = sym (ascii-is c.args.c c.if-code-lt128.true)
