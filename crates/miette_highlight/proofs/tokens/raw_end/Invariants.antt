use Rattle.std.proofs.Common.{◌≡◌, ◌+◌, length}
use Rattle.miette_highlight.specs.rules.Patterns.{raw_end}
use Rattle.miette_highlight.proofs.tokens.raw_end.Given as goal

abbrev pub invariant-loop-byte : goal.invariant-loop-byte
invariant-loop-byte l = record {
  end : raw_end l.hashes l.at l.rest ≡ raw_end l.hashes l.start l.text;
  place : l.at + length l.rest ≡ l.start + length l.text;
}

abbrev pub decreases-loop-byte : goal.decreases-loop-byte
decreases-loop-byte l = length l.rest
