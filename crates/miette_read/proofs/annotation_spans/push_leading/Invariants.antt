use Rattle.std.proofs.Common.{◌≡◌, [], ◌++◌, take, map}
use Rattle.miette_read.specs.rules.Rustc.{note_annotation}
use Rattle.miette_read.specs.views.Builds.{built}
use Rattle.miette_read.specs.views.Values.{values_behind}
use Rattle.miette_read.proofs.annotation_spans.push_leading.Given as goal

-- what the spans that are passed tell
abbrev pub invariant-loop-span : goal.invariant-loop-span
invariant-loop-span g l =
    l.list.items
    ≡ l.initial.list.items ++ map (note_annotation (built g.F.Files.found l.build) [])
    (values_behind (take l.span-index l.rest))
