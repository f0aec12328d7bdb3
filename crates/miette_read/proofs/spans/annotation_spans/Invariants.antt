use Rattle.std.proofs.Common.{◌≡◌, take, filter}
use Rattle.miette_read.specs.rules.Rustc.{is_annotation}
use Rattle.miette_read.specs.views.Values.{values_behind}
use Rattle.miette_read.proofs.spans.annotation_spans.Given as goal

abbrev pub invariant-loop-span : goal.invariant-loop-span
invariant-loop-span l = values_behind l.list.items ≡ filter is_annotation (values_behind (take l.span-index l.spans))
