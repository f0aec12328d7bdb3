use Rattle.std.proofs.Common.{◌≡◌, ◌++◌, string_bytes, map, drop}
use Rattle.miette_tree.specs.views.Attachments.{section_of}
use Rattle.miette_brief.specs.rules.Rows.{brief_rows_text}
use Rattle.miette_brief.specs.rules.Report.{further_notes}
use Rattle.miette_brief.specs.rules.PossibleAnswers.{FurtherAccepted}
use Rattle.miette_brief.proofs.report.push_further_notes.Given as goal

abbrev pub invariant-loop-section : goal.invariant-loop-section
invariant-loop-section g l =
    let value = section_of g.S.SourceCode.source in
    record {
      text : string_bytes l.out ++ brief_rows_text (further_notes (map value (drop l.section-index l.further)))
          ≡ string_bytes l.fn.out ++ brief_rows_text (further_notes (map value l.further));
      accepted : FurtherAccepted (map value (drop l.section-index l.further)) → FurtherAccepted (map value l.further);
    }
