use Rattle.std.proofs.Common.{◌≡◌, None, find, take}
use Rattle.miette_read.specs.views.Values.{texts}
use Rattle.miette_read_sarif.specs.rules.Newlines.{stands_in}
use Rattle.miette_read_sarif.proofs.newlines.end_here.Given as goal

-- none of those that are passed stands here
abbrev pub invariant-loop-sequence : goal.invariant-loop-sequence
invariant-loop-sequence l = find (stands_in l.bytes) (texts (take l.sequence-index l.newlines)) ≡ None
