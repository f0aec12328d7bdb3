use Rattle.std.proofs.Common.{◌≡◌, ◌+◌, length}
use Rattle.miette_highlight.specs.rules.Tokens.{first_match}
use Rattle.miette_highlight.proofs.tokens.first_match.Given as goal

abbrev pub invariant-loop-rule : goal.invariant-loop-rule
invariant-loop-rule l = record {
  found : first_match l.at l.rest l.text ≡ first_match 0 l.rules l.text;
  place : l.at + length l.rest ≡ length l.rules;
}

abbrev pub decreases-loop-rule : goal.decreases-loop-rule
decreases-loop-rule l = length l.rest
