use Rattle.miette_labels.specs.views.Reads.{AreContents}
use Rattle.miette_labels.proofs.GroupsOfReads.{all_read, none_read, read_more}
use Rattle.miette_labels.proofs.KnownLabels.{read_known, read_last, start_known}
use Rattle.miette_labels.proofs.groups.read_all.Goals as goal

pub loop-span-init : goal.loop-span-init
loop-span-init g c =
    let source = g.S.SourceCode.source c.args.source.now in
    record {
      reads = none_read source c.args.spans.now c.in_ok-groups.groups.items c.in_ok-groups.ensures.items;
      first = start_known source.bytes;
      last = start_known source.bytes;
    }

pub read_span_near-requires-clause-first : goal.read_span_near-requires-clause-first
read_span_near-requires-clause-first g c = c.loop-span.invariant.first

pub read_span_near-requires-clause-last : goal.read_span_near-requires-clause-last
read_span_near-requires-clause-last g c = c.loop-span.invariant.last

pub loop-span-preserved : goal.loop-span-preserved
loop-span-preserved g c =
    let source = g.S.SourceCode.source c.args.source.now in
    let contents_are : AreContents 0 source c.span-item.result c.in-Ok.contents =
    record { accepted = c.in-Ok.ensures.0; is = c.in-Ok.ensures.1 } in
    record {
      reads = read_more source c.args.spans.now c.loop-span.span-index c.loop-span.groups.items
          c.push.new.self.items c.span-item.result c.in-Ok.contents c.loop-span.invariant.reads c.loop-span-test.true
          c.span-item.is c.in-Ok.ensures.0 c.in-Ok.ensures.1 c.in_ok-push-in-Ok.ensures.items;
      first = read_known 0 source c.span-item.result c.in-Ok.contents c.known-known.result.first contents_are
          c.known-known.ensures.offset c.known-known.ensures.line;
      last = read_last 0 source c.span-item.result c.in-Ok.contents c.known-known.result contents_are
          c.known-known.ensures.offset c.known-known.ensures.line c.known-known.ensures.last;
    }

pub returns : goal.returns
returns g c = all_read (g.S.SourceCode.source c.args.source.now) c.args.spans.now c.loop-span.span-index
    c.loop-span.groups.items c.loop-span-test.false c.loop-span.invariant.reads
