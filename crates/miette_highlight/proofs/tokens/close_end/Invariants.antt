use Rattle.std.proofs.Common.{◌≡◌, ◌+◌, length}
use Rattle.std.specs.Prelude.{false}
use Rattle.miette_highlight.specs.rules.Patterns.{close_end}
use Rattle.miette_highlight.proofs.tokens.close_end.Given as goal

abbrev pub invariant-loop-byte : goal.invariant-loop-byte
invariant-loop-byte l = record {
  end : close_end l.delimiters l.escaped l.at l.rest ≡ close_end l.delimiters false l.start l.text;
  place : l.at + length l.rest ≡ l.start + length l.text;
}

abbrev pub decreases-loop-byte : goal.decreases-loop-byte
decreases-loop-byte l = length l.rest
