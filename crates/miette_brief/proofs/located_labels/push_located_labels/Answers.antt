use Rattle.std.proofs.Common.{refl, rules, map, subst}
use Rattle.std.specs.Option.{option_map}
use Rattle.miette_protocol.specs.rules.Reading.{Span}
use Rattle.miette_tree.specs.views.Owned.{ref_source}
use Rattle.miette_labels.specs.views.ProgramLabels.{label_at}
use Rattle.miette_labels.specs.declared.order.OrderedLabel.{OrderedLabel}
use Rattle.miette_brief.specs.rules.LocatedLabels.{located_label}
use Rattle.miette_brief.specs.steps.CommandParts.{located_label_of}
use Rattle.miette_brief.specs.steps.Reads.{IsReadAt, IsRefusedRead}
use Rattle.miette_brief.proofs.KnownPlaces.{start_of}
use Rattle.miette_brief.proofs.Noting.{some_refused, accepted_more, accepted_end, no_turn}
use Rattle.miette_brief.proofs.PrimaryLabels.{marks_more, marks_end}
use Rattle.miette_brief.proofs.located_labels.push_located_labels.Goals as goal

pub loop-turn-init : goal.loop-turn-init
loop-turn-init g c = record {
  marks = refl;
  accepted = λ h. h;
  known = start_of (option_map (ref_source g.S.SourceCode.source) c.args.source);
}

pub loop-turn-preserved : goal.loop-turn-preserved
loop-turn-preserved g c =
    let is = g.S.SourceCode.source in
    let source = option_map (ref_source is) c.args.source in
    let label = λ (turn : OrderedLabel). label_at c.args.labels.now turn.index in
    record {
      marks = marks_more (located_label source) label c.args.order.now c.loop-turn.turn-index no_turn
          c.label_of-label.result.now (map (located_label_of is) c.loop-turn.marks.items)
          (map (located_label_of is) c.push_located_label.new.marks.items) _ c.loop-turn-test.true
          c.label_of-label.ensures
          c.in_ok-push_located_label.ensures c.loop-turn.invariant.marks;
      accepted = accepted_more label source c.args.order.now c.loop-turn.turn-index no_turn c.label_of-label.result.now
          (map label c.args.order.now) c.loop-turn-test.true c.label_of-label.ensures
          (subst (λ (span : Span). IsReadAt source span) c.inner.ensures c.in_ok-label_location.ensures.accepted)
          c.loop-turn.invariant.accepted;
      known = search rules;
    }

pub returns-in_err-label_location-clause-refused : goal.returns-in_err-label_location-clause-refused
returns-in_err-label_location-clause-refused g c = λ h.
    let source = option_map (ref_source g.S.SourceCode.source) c.args.source in
    let unread : IsRefusedRead source c.label_of-label.result.now.span =
    subst (λ (span : Span). IsRefusedRead source span) c.inner.ensures
    (c.in_err-label_location.ensures.refused (search rules)) in
    some_refused (λ turn. label_at c.args.labels.now turn.index) source c.args.order.now c.loop-turn.turn-index no_turn
    c.label_of-label.result.now c.loop-turn-test.true c.label_of-label.ensures unread

pub returns-clause-marks : goal.returns-clause-marks
returns-clause-marks g c =
    let is = g.S.SourceCode.source in
    marks_end (located_label (option_map (ref_source is) c.args.source))
    (λ (turn : OrderedLabel). label_at c.args.labels.now turn.index) c.args.order.now c.loop-turn.turn-index
    (map (located_label_of is) c.loop-turn.marks.items) _ c.loop-turn-test.false c.loop-turn.invariant.marks

pub returns-clause-accepted : goal.returns-clause-accepted
returns-clause-accepted g c =
    let source = option_map (ref_source g.S.SourceCode.source) c.args.source in
    let label = λ (turn : OrderedLabel). label_at c.args.labels.now turn.index in
    accepted_end label source c.args.order.now c.loop-turn.turn-index (map label c.args.order.now)
    c.loop-turn-test.false c.loop-turn.invariant.accepted
