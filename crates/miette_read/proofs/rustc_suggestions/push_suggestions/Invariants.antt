use Rattle.std.proofs.Common.{◌≡◌, ◌++◌, take}
use Rattle.std.specs.List.{filter_map}
use Rattle.miette_read.specs.rules.RustcReport.{child_suggestion}
use Rattle.miette_read.specs.views.Values.{values_behind}
use Rattle.miette_read.proofs.rustc_suggestions.push_suggestions.Given as goal

abbrev pub invariant-loop-child : goal.invariant-loop-child
invariant-loop-child g l =
    l.list.items
    ≡ l.initial.list.items ++ filter_map (child_suggestion (g.F.Files.found l.files))
    (values_behind (take l.child-index l.children))
