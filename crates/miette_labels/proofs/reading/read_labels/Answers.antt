use Rattle.std.proofs.Common.{length, ◌<◌, refl, slice_index_or}
use Rattle.miette_labels.specs.views.Reads.{AreContents, IsRead}
use Rattle.miette_labels.proofs.KnownLabels.{read_known, read_last, start_known}
use Rattle.miette_labels.proofs.RefusedLabel.{all_read, none_read, own_read, read_more, refused_here}
use Rattle.miette_labels.proofs.reading.read_labels.Goals as goal

pub loop-turn-init : goal.loop-turn-init
loop-turn-init g c =
    let source = g.S.SourceCode.source c.args.source.now in
    record {
      reads = none_read c.args.context source c.args.labels.now c.args.order.now c.in_ok-reads.reads.items
          c.in_ok-reads.ensures.items;
      first = start_known source.bytes;
      last = start_known source.bytes;
    }

pub read_span_near-requires-clause-first : goal.read_span_near-requires-clause-first
read_span_near-requires-clause-first g c = c.loop-turn.invariant.first

pub read_span_near-requires-clause-last : goal.read_span_near-requires-clause-last
read_span_near-requires-clause-last g c = c.loop-turn.invariant.last

pub returns-in-Err : goal.returns-in-Err
returns-in-Err g c =
    let inside : (slice_index_or c.args.order.now c.loop-turn.turn-index (record { index = 0; offset = 0 })).index
    < length c.args.labels.now = c.requires c.loop-turn.turn-index (record { index = 0; offset = 0 })
    c.loop-turn-test.true in
    refused_here c.args.context (g.S.SourceCode.source c.args.source.now) c.args.labels.now c.args.order.now
    c.loop-turn.turn-index c.loop-turn.reads.items (record { index = 0; offset = 0 })
    c.index-labels-turn.result c.inner.result.now c.in-Err.error c.reason_of.result
    c.loop-turn.invariant.reads c.loop-turn-test.true inside c.index-labels-turn.is c.inner.ensures c.in-Err.ensures
    c.reason_of.ensures

pub loop-turn-preserved : goal.loop-turn-preserved
loop-turn-preserved g c =
    let inside : (slice_index_or c.args.order.now c.loop-turn.turn-index (record { index = 0; offset = 0 })).index
    < length c.args.labels.now = c.requires c.loop-turn.turn-index (record { index = 0; offset = 0 })
    c.loop-turn-test.true in
    let own : IsRead c.args.context (g.S.SourceCode.source c.args.source.now) c.args.labels.now
    (record {
      index = (slice_index_or c.args.order.now c.loop-turn.turn-index
          (record { index = 0; offset = 0 })).index;
      span = c.inner-in-Ok.result.now;
      primary =
          c.primary.result;
      contents = c.in-Ok.contents;
    }) =
    own_read c.args.context (g.S.SourceCode.source c.args.source.now) c.args.labels.now
    (slice_index_or c.args.order.now c.loop-turn.turn-index (record { index = 0; offset = 0 })).index
    c.index-labels-turn.result c.inner.result.now _ c.label_context-lines.result c.any_own_context-own.result
    inside c.index-labels-turn.is refl c.inner-in-Ok.ensures c.primary.ensures c.inner.ensures c.in-Ok.ensures.0
    c.in-Ok.ensures.1 c.label_context-lines.ensures c.any_own_context-own.ensures in
    let source = g.S.SourceCode.source c.args.source.now in
    let lines = c.label_context-lines.result in
    let contents_are : AreContents lines source c.inner.result.now c.in-Ok.contents =
    record { accepted = c.in-Ok.ensures.0; is = c.in-Ok.ensures.1 } in
    record {
      reads = read_more c.args.context source c.args.labels.now c.args.order.now c.loop-turn.turn-index
          c.loop-turn.reads.items c.push.new.self.items (record { index = 0; offset = 0 }) _
          c.loop-turn.invariant.reads c.loop-turn-test.true refl own c.in_ok-push-in-Ok.ensures.items;
      first = read_known lines source c.inner.result.now c.in-Ok.contents c.known-known.result.first contents_are
          c.known-known.ensures.offset c.known-known.ensures.line;
      last = read_last lines source c.inner.result.now c.in-Ok.contents c.known-known.result contents_are
          c.known-known.ensures.offset c.known-known.ensures.line c.known-known.ensures.last;
    }

pub returns : goal.returns
returns g c = all_read c.args.context (g.S.SourceCode.source c.args.source.now) c.args.labels.now c.args.order.now
    c.loop-turn.turn-index c.loop-turn.reads.items c.loop-turn-test.false c.loop-turn.invariant.reads
