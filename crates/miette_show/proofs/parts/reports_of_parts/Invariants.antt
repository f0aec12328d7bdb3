use Rattle.std.proofs.Common.{◌≡◌, All, false, map, take}
use Rattle.miette_protocol.specs.rules.Reading.{Source}
use Rattle.miette_protocol.specs.views.Diagnostic.{meaning_of}
use Rattle.miette_tree.specs.rules.Reads.{AlwaysReads}
use Rattle.miette_tree.specs.views.Report.{tree_of}
use Rattle.miette_show.proofs.Logging.{Gathering}
use Rattle.miette_show.proofs.parts.reports_of_parts.Given as goal

-- no call failed, and the parts that are passed have these reports
abbrev pub invariant-loop-part : goal.invariant-loop-part
invariant-loop-part g l = record {
  sound : l.faults.failed ≡ false;
  reads : All AlwaysReads (map (tree_of meaning_of (λ (it : Source). it)) l.list.items);
  gathering : Gathering l.held.from l.held.placed (g.F.Files.found l.files)
      (map (λ part. part.items) (take l.part-index l.part-items))
      (map (tree_of meaning_of (λ (it : Source). it)) l.list.items)
      (g.E.Write.contents l.initial.faults.inner) (g.E.Write.contents l.faults.inner) l.number l.seen l.verdict;
}
