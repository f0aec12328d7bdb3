use Rattle.std.proofs.Common.{◌≡◌, ◌+◌, length}
use Rattle.miette_highlight.specs.rules.Patterns.{word_end}
use Rattle.miette_highlight.proofs.words.word_end.Given as goal

abbrev pub invariant-loop-byte : goal.invariant-loop-byte
invariant-loop-byte l = record {
  end : word_end l.at l.rest ≡ word_end 0 l.text;
  place : l.at + length l.rest ≡ length l.text;
}

abbrev pub decreases-loop-byte : goal.decreases-loop-byte
decreases-loop-byte l = length l.rest
