use Rattle.std.proofs.Common.{◌≡◌, ◌++◌, map, drop}
use Rattle.std.specs.Option.{option_map}
use Rattle.miette_tree.specs.views.Owned.{ref_source}
use Rattle.miette_labels.specs.views.ProgramLabels.{label_at}
use Rattle.miette_brief.specs.rules.LocatedLabels.{located_label}
use Rattle.miette_brief.specs.rules.PossibleAnswers.{HasAccepted}
use Rattle.miette_brief.specs.steps.CommandParts.{located_label_of}
use Rattle.miette_brief.specs.steps.Reads.{AreKnown}
use Rattle.miette_brief.proofs.located_labels.push_located_labels.Given as goal

abbrev pub invariant-loop-turn : goal.invariant-loop-turn
invariant-loop-turn g l =
    let is = g.S.SourceCode.source in
    let source = option_map (ref_source is) l.source in
    record {
      marks : map (located_label_of is) l.marks.items
          ++ map (located_label source) (map (λ turn. label_at l.labels turn.index) (drop l.turn-index l.order))
          ≡ map (located_label_of is) l.fn.marks.items
          ++ map (located_label source) (map (λ turn. label_at l.labels turn.index) l.order);
      accepted : HasAccepted source (map (λ turn. label_at l.labels turn.index) (drop l.turn-index l.order))
          → HasAccepted source (map (λ turn. label_at l.labels turn.index) l.order);
      known : AreKnown source l.known;
    }
