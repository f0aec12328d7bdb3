use Rattle.std.proofs.Common.{◌≡◌, length}
use Rattle.miette_highlight.specs.rules.Patterns.{is_listed_word}
use Rattle.miette_highlight.proofs.words.is_listed_word.Given as goal

abbrev pub invariant-loop-first : goal.invariant-loop-first
invariant-loop-first l = is_listed_word l.rest l.word ≡ is_listed_word l.words l.word

abbrev pub decreases-loop-first : goal.decreases-loop-first
decreases-loop-first l = length l.rest
