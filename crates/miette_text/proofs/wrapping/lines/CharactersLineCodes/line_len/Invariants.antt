use Rattle.std.proofs.Common.{◌≡◌, ◌+◌, drop}
use Rattle.miette_text.specs.steps.Ends.{line_len}
use Rattle.miette_text.proofs.wrapping.lines.CharactersLineCodes.line_len.Given as goal

abbrev pub invariant-loop-i : goal.invariant-loop-i
invariant-loop-i l = line_len l.self.list.now ≡ l.i + line_len (drop l.i l.self.list.now)
