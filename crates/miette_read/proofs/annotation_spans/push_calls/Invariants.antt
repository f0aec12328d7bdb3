use Rattle.std.proofs.Common.{◌≡◌, ◌++◌, take}
use Rattle.std.specs.List.{filter_map}
use Rattle.miette_read.specs.rules.Rustc.{macro_annotation}
use Rattle.miette_read.specs.views.Builds.{built}
use Rattle.miette_read.specs.views.Values.{values_behind}
use Rattle.miette_read.proofs.annotation_spans.push_calls.Given as goal

abbrev pub invariant-loop-span : goal.invariant-loop-span
invariant-loop-span g l =
    l.list.items
    ≡ l.initial.list.items ++ filter_map (macro_annotation (built g.F.Files.found l.build))
    (values_behind (take l.span-index l.spans))
