use Rattle.std.proofs.Common.{◌≡◌, ◌++◌, string_bytes, map, drop}
use Rattle.std.specs.Option.{option_map}
use Rattle.miette_tree.specs.views.Owned.{ref_source}
use Rattle.miette_labels.specs.views.ProgramLabels.{label_at}
use Rattle.miette_brief.specs.rules.Rows.{brief_rows_text}
use Rattle.miette_brief.specs.rules.Report.{note_rows}
use Rattle.miette_brief.specs.rules.PossibleAnswers.{HasAccepted}
use Rattle.miette_brief.specs.steps.Reads.{AreKnown}
use Rattle.miette_brief.proofs.report.push_notes.Given as goal

abbrev pub invariant-loop-turn : goal.invariant-loop-turn
invariant-loop-turn g l =
    let source = option_map (ref_source g.S.SourceCode.source) l.source in
    record {
      text : string_bytes l.out ++ brief_rows_text (note_rows source
          (map (λ turn. label_at l.labels turn.index) (drop l.turn-index l.order)))
          ≡ string_bytes l.fn.out ++ brief_rows_text (note_rows source (map (λ turn. label_at l.labels turn.index)
          l.order));
      accepted : HasAccepted source (map (λ turn. label_at l.labels turn.index) (drop l.turn-index l.order))
          → HasAccepted source (map (λ turn. label_at l.labels turn.index) l.order);
      known : AreKnown source l.known;
    }
