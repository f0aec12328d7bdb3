use Rattle.std.proofs.Common.{◌≡◌, ◌++◌, take}
use Rattle.std.specs.List.{flat_map}
use Rattle.miette_read.specs.rules.Rustc.{child_annotations}
use Rattle.miette_read.specs.views.Builds.{built}
use Rattle.miette_read.specs.views.Values.{values_behind}
use Rattle.miette_read.proofs.annotation_spans.push_children.Given as goal

abbrev pub invariant-loop-child : goal.invariant-loop-child
invariant-loop-child g l =
    l.list.items
    ≡ l.initial.list.items ++ flat_map (child_annotations (built g.F.Files.found l.build))
    (values_behind (take l.child-index l.children))
