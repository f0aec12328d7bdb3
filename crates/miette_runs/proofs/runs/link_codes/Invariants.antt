use Rattle.std.proofs.Common.{◌≡◌, ◌∷◌}
use Rattle.miette_runs.proofs.runs.link_codes.Given as goal

abbrev pub invariant-loop-c : goal.invariant-loop-c
invariant-loop-c l = l.codes.items ≡ 27 ∷ 93 ∷ 56 ∷ 59 ∷ 59 ∷ l.yielded
