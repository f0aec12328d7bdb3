use Rattle.std.proofs.Common.{◌≡◌, drop}
use Rattle.miette_labels.specs.views.Placing.{source_end_from_reads}
use Rattle.miette_labels.proofs.drawn_labels.source_end_from_reads.Given as goal

abbrev pub invariant-loop-read : goal.invariant-loop-read
invariant-loop-read l = source_end_from_reads (drop l.read-index l.reads) ≡ source_end_from_reads l.reads
