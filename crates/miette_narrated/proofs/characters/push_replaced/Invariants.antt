use Rattle.std.proofs.Common.{◌≡◌, ◌++◌, string_bytes, length}
use Rattle.miette_columns.specs.rules.Cells.{characters}
use Rattle.miette_narrated.specs.rules.Lines.{characters_text}
use Rattle.miette_narrated.proofs.characters.push_replaced.Given as goal

abbrev pub invariant-loop-rest : goal.invariant-loop-rest
invariant-loop-rest l = string_bytes l.out ++ characters_text (characters l.rest) ≡ string_bytes l.fn.out
    ++ characters_text (characters l.bytes)

abbrev pub decreases-loop-rest : goal.decreases-loop-rest
decreases-loop-rest l = length l.rest
