use Rattle.std.proofs.Common.{◌≡◌, [], drop, take}
use Rattle.miette_read.specs.rules.Rustc.{lies_from}
use Rattle.miette_read.proofs.user_span.lies_below.Given as goal

-- what is left decides
abbrev pub invariant-loop-at : goal.invariant-loop-at
invariant-loop-at l = lies_from l.folder [] l.name ≡ lies_from l.folder (take l.at l.name) (drop l.at l.name)
