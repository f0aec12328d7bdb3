use Rattle.std.proofs.Common.{◌≡◌, take}
use Rattle.miette_read_sarif.proofs.file_annotations.borrowed.Given as goal

abbrev pub invariant-loop-spot : goal.invariant-loop-spot
invariant-loop-spot l = l.list.items ≡ take l.spot-index l.spots
