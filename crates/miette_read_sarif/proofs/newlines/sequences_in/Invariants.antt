use Rattle.std.proofs.Common.{◌≡◌, take}
use Rattle.std.specs.List.{filter_map}
use Rattle.miette_read.specs.views.Values.{texts, viewed}
use Rattle.miette_read_sarif.specs.rules.Newlines.{sequence_in}
use Rattle.miette_read_sarif.proofs.newlines.sequences_in.Given as goal

-- those of the items that are passed
abbrev pub invariant-loop-item : goal.invariant-loop-item
invariant-loop-item l = texts l.list.items ≡ filter_map sequence_in (viewed (take l.item-index l.items))
