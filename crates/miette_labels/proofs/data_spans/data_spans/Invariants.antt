use Rattle.std.proofs.Common.{◌≡◌, map, take}
use Rattle.miette_labels.proofs.data_spans.data_spans.Given as goal

abbrev pub invariant-loop-read : goal.invariant-loop-read
invariant-loop-read l = l.spans.items ≡ map (λ read. read.contents.span) (take l.read-index l.reads)
