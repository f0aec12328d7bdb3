use Rattle.std.proofs.Common.{◌≡◌, ◌++◌, string_bytes, length}
use denote.Shadow.{shadow}
use denote.Text.{Utf8}
use Rattle.miette_brief.specs.rules.Commands.{escaped}
use Rattle.miette_brief.proofs.escapes.push_escaped.Given as goal

abbrev pub decreases-loop-at : goal.decreases-loop-at
decreases-loop-at l = length l.rest

abbrev pub invariant-loop-at : goal.invariant-loop-at
invariant-loop-at l = (string_bytes l.out ++ escaped l.part l.rest ≡ string_bytes l.fn.out ++ escaped l.part l.text)
    × shadow (Utf8 l.rest)
