use Rattle.std.proofs.Common.{◌≡◌, chars, drop, length}
use Rattle.miette_text.specs.rules.Fitting.{has_ink}
use Rattle.miette_text.proofs.wrapping.fitting.has_ink.Given as goal

abbrev pub invariant-loop-c : goal.invariant-loop-c
invariant-loop-c l = has_ink (chars l.text) ≡ has_ink (drop (length l.yielded) (chars l.text))
