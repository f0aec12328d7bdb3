use Rattle.std.proofs.Common.{◌≡◌, codes, map, take}
use Rattle.miette_read.specs.rules.Members.{member_objects}
use Rattle.miette_read.specs.views.Values.{values_behind}
use Rattle.miette_read_sarif.specs.views.Seen.{value_lists_behind}
use Rattle.miette_read_sarif.proofs.context.rules_of_each.Given as goal

abbrev pub invariant-loop-extension : goal.invariant-loop-extension
invariant-loop-extension l =
    value_lists_behind l.lists.items ≡ map (member_objects (codes "rules"))
    (values_behind (take l.extension-index l.extensions))
