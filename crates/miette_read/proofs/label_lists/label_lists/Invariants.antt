use Rattle.std.proofs.Common.{◌≡◌, take}
use Rattle.std.specs.List.{fold}
use Rattle.miette_read.specs.rules.AnnotationLabels.{with_annotation, no_label_lists}
use Rattle.miette_read.proofs.label_lists.label_lists.Given as goal

abbrev pub invariant-loop-one : goal.invariant-loop-one
invariant-loop-one g l = l.done ≡ fold (with_annotation (g.F.Files.found l.files)) no_label_lists
    (take l.one-index l.told)
