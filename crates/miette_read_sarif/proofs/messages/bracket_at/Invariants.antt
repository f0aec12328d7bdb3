use Rattle.std.proofs.Common.{◌≡◌, ◌+◌, false, drop}
use Rattle.miette_read_sarif.specs.rules.Messages.{bracket_at}
use Rattle.miette_read_sarif.proofs.messages.bracket_at.Given as goal

-- how far the rest goes that is left
abbrev pub invariant-loop-at : goal.invariant-loop-at
invariant-loop-at l = bracket_at false l.text ≡ l.at + bracket_at l.escaped (drop l.at l.text)
