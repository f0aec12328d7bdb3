use Rattle.miette_tree.specs.views.Owned.{ref_source}
use Rattle.miette_labels.specs.views.Reads.{AreContents}
use Rattle.miette_labels.proofs.KnownLabels.{read_known, read_last}
use Rattle.miette_brief.proofs.primary.read_near.Goals as goal

pub read_span_near-requires-clause-first : goal.read_span_near-requires-clause-first
read_span_near-requires-clause-first g c = c.requires.0

pub read_span_near-requires-clause-last : goal.read_span_near-requires-clause-last
read_span_near-requires-clause-last g c = c.requires.1

pub returns-in-Ok-clause-known : goal.returns-in-Ok-clause-known
returns-in-Ok-clause-known g c =
    let source = ref_source g.S.SourceCode.source c.args.source in
    let contents_are : AreContents 0 source c.args.span.now c.in-Ok.contents =
    record { accepted = c.in-Ok.ensures.0; is = c.in-Ok.ensures.1 } in (
      read_known 0 source c.args.span.now c.in-Ok.contents c.known-begin.result.first contents_are
          c.known-begin.ensures.offset c.known-begin.ensures.line,
      read_last 0 source c.args.span.now c.in-Ok.contents c.known-begin.result contents_are c.known-begin.ensures.offset
          c.known-begin.ensures.line c.known-begin.ensures.last,
    )
