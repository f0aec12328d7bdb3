-- Where every source of a report always reads, those do that are read where it is told.
use Rattle.std.proofs.Common.{Option}
use Rattle.miette_protocol.specs.rules.Reading.{Source}
use Rattle.miette_tree.specs.rules.Tree.{Tree, tree, Cause, diagnostic, texts, Trees, no_trees, more_trees, effective}
use Rattle.miette_tree.specs.rules.DiagnosticParts.{given_labels}
use Rattle.miette_tree.specs.rules.Reads.{AlwaysReads, CauseAlwaysReads, AllAlwaysRead}
use Rattle.miette_tree.proofs.Nesting.{Reads, effective_reads}
use Rattle.miette_labels.specs.rules.Groups.{in_order}
use Rattle.miette_brief.specs.rules.BriefSources.{BriefSourcesRead, AllBriefSourcesRead, CauseSourcesRead}
use Rattle.miette_brief.specs.rules.BriefSources.{CausedSourcesRead}
use Rattle.miette_brief.proofs.Choosing.{primary_reads}

mutual
  causes_read : (inherited : Option Source) (c : Cause) → Reads inherited → CauseAlwaysReads c
      → CauseSourcesRead inherited c
  causes_read inherited (diagnostic t) i reads = cause_reads inherited t i reads
  causes_read inherited (texts ts) i reads = tt

  cause_reads : (inherited : Option Source) (t : Tree) → Reads inherited → AlwaysReads t → CausedSourcesRead inherited t
  cause_reads inherited (tree m own c r) i reads = (
    primary_reads (effective own inherited) (in_order (given_labels m.labels)) m.snippets
        (effective_reads own inherited reads.0 i) reads.3,
    causes_read inherited c i reads.1,
  )

mutual
  pub told_reads : (inherited : Option Source) (t : Tree) → Reads inherited → AlwaysReads t
      → BriefSourcesRead inherited t
  told_reads inherited (tree m own c r) i reads =
      let from_reads : Reads (effective own inherited) = effective_reads own inherited reads.0 i in (
        from_reads,
        causes_read (effective own inherited) c from_reads reads.1,
        all_read (effective own inherited) r from_reads reads.2,
      )

  all_read : (inherited : Option Source) (ts : Trees) → Reads inherited → AllAlwaysRead ts
      → AllBriefSourcesRead inherited ts
  all_read inherited no_trees i reads = tt
  all_read inherited (more_trees t ts) i reads =
      (told_reads inherited t i reads.0, all_read inherited ts i reads.1)
