use Rattle.std.proofs.Common.{◌≡◌, take, filter}
use Rattle.miette_read.specs.rules.Members.{is_object}
use Rattle.miette_read.specs.views.Values.{values_behind, viewed}
use Rattle.miette_read.proofs.members.member_objects.Given as goal

abbrev pub invariant-loop-item : goal.invariant-loop-item
invariant-loop-item l = values_behind l.list.items ≡ filter is_object (viewed (take l.item-index l.item-items))
