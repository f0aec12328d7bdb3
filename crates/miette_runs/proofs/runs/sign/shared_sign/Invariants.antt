use Rattle.std.proofs.Common.{◌≡◌}
use Rattle.miette_runs.proofs.runs.sign.shared_sign.Given as goal

abbrev pub invariant-loop-tag : goal.invariant-loop-tag
invariant-loop-tag l = l.sign ≡ l.fn.sign
