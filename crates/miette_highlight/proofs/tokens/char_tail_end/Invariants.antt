use Rattle.std.proofs.Common.{◌≡◌, ◌+◌, length}
use Rattle.miette_highlight.specs.rules.Patterns.{char_tail_end}
use Rattle.miette_highlight.proofs.tokens.char_tail_end.Given as goal

abbrev pub invariant-loop-byte : goal.invariant-loop-byte
invariant-loop-byte l = record {
  end : char_tail_end l.delimiters l.escaped l.at l.rest ≡ char_tail_end l.delimiters l.escaped l.start l.text;
  place : l.at + length l.rest ≡ l.start + length l.text;
}

abbrev pub decreases-loop-byte : goal.decreases-loop-byte
decreases-loop-byte l = length l.rest
