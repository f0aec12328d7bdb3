use Rattle.std.proofs.Common.{refl, rules, map, string_bytes}
use Rattle.std.specs.Option.{option_map}
use Rattle.miette_tree.specs.views.Owned.{ref_source}
use Rattle.miette_labels.specs.views.ProgramLabels.{label_at}
use Rattle.miette_labels.specs.declared.order.OrderedLabel.{OrderedLabel}
use Rattle.miette_brief.specs.steps.Reads.{IsRefusedRead}
use Rattle.miette_brief.proofs.KnownPlaces.{start_of}
use Rattle.miette_brief.proofs.Noting.{some_refused, accepted_more, accepted_end, notes_more, no_turn}
use Rattle.miette_brief.proofs.report.push_notes.Goals as goal

pub loop-turn-init : goal.loop-turn-init
loop-turn-init g c = record {
  text = refl;
  accepted = λ h. h;
  known = start_of (option_map (ref_source g.S.SourceCode.source) c.args.source);
}

pub returns-in_err-push_note-clause-refused : goal.returns-in_err-push_note-clause-refused
returns-in_err-push_note-clause-refused g c = λ h.
    let source = option_map (ref_source g.S.SourceCode.source) c.args.source in
    let unread : IsRefusedRead source c.label_of-label.result.now.span
    = c.in_err-push_note.ensures.refused (search rules) in
    some_refused (λ turn. label_at c.args.labels.now turn.index) source c.args.order.now c.loop-turn.turn-index no_turn
    c.label_of-label.result.now c.loop-turn-test.true c.label_of-label.ensures unread

pub loop-turn-preserved : goal.loop-turn-preserved
loop-turn-preserved g c =
    let source = option_map (ref_source g.S.SourceCode.source) c.args.source in
    let label = λ (turn : OrderedLabel). label_at c.args.labels.now turn.index in
    record {
      text = notes_more label source c.args.order.now c.loop-turn.turn-index no_turn c.label_of-label.result.now
          (string_bytes c.loop-turn.out) (string_bytes c.push_note.new.out) _ c.loop-turn-test.true
          c.label_of-label.ensures
          c.in_ok-push_note.ensures.text c.loop-turn.invariant.text;
      accepted = accepted_more label source c.args.order.now c.loop-turn.turn-index no_turn c.label_of-label.result.now
          (map label c.args.order.now) c.loop-turn-test.true c.label_of-label.ensures
          c.in_ok-push_note.ensures.accepted c.loop-turn.invariant.accepted;
      known = search rules;
    }

pub returns-clause-accepted : goal.returns-clause-accepted
returns-clause-accepted g c =
    let source = option_map (ref_source g.S.SourceCode.source) c.args.source in
    let label = λ (turn : OrderedLabel). label_at c.args.labels.now turn.index in
    accepted_end label source c.args.order.now c.loop-turn.turn-index (map label c.args.order.now)
    c.loop-turn-test.false c.loop-turn.invariant.accepted
