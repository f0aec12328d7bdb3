use Rattle.std.proofs.Common.{◌≡◌, map, take}
use Rattle.std.specs.Prelude.{string_bytes}
use Rattle.miette_highlight.proofs.rule.Pattern.words.Given as goal

abbrev pub invariant-loop-word : goal.invariant-loop-word
invariant-loop-word l = map (λ w. string_bytes w) l.owned.items ≡ map (λ w. w.now) (take l.word-index l.words)
