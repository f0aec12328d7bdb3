use Rattle.std.proofs.Common.{ap, sym, ◌∙◌}
use Rattle.std.proofs.lemmas.List.{drop_all}
use Rattle.miette_labels.specs.views.Placing.{source_end_from_reads}
use Rattle.miette_labels.proofs.drawn_labels.source_end_from_reads.Goals as goal

pub returns : goal.returns
returns c = sym (ap source_end_from_reads (drop_all c.loop-read.read-index c.args.reads.now c.loop-read-test.false))
    ∙ c.loop-read.invariant
