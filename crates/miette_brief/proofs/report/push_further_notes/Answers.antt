use Rattle.std.proofs.Common.{map, rules, arith, string_bytes}
use Rattle.miette_tree.specs.views.Attachments.{section_of}
use Rattle.miette_brief.proofs.Further.{notes_told, notes_end, sections_accepted, accepted_all, section_refused}
use Rattle.miette_brief.proofs.report.push_further_notes.Goals as goal

pub loop-section-preserved : goal.loop-section-preserved
loop-section-preserved g c =
    let value = section_of g.S.SourceCode.source in
    record {
      text = notes_told value c.args.further.now c.loop-section.section-index c.section-item.result _ _
          (string_bytes c.loop-section.out) (string_bytes c.push_sorted_notes.new.out) _ c.loop-section-test.true
          c.section-item.is c.source.ensures c.labels.ensures c.in_ok-push_sorted_notes.ensures.text
          c.loop-section.invariant.text;
      accepted = sections_accepted value c.args.further.now c.loop-section.section-index c.section-item.result _ _
          (map value c.args.further.now) c.loop-section-test.true c.section-item.is c.source.ensures c.labels.ensures
          c.in_ok-push_sorted_notes.ensures.accepted c.loop-section.invariant.accepted;
    }

pub returns-clause-text : goal.returns-clause-text
returns-clause-text g c =
    notes_end (section_of g.S.SourceCode.source) c.args.further.now c.loop-section.section-index _ _ (omega arith)
    c.loop-section.invariant.text

pub returns-clause-accepted : goal.returns-clause-accepted
returns-clause-accepted g c =
    accepted_all (section_of g.S.SourceCode.source) c.args.further.now c.loop-section.section-index _ (omega arith)
    c.loop-section.invariant.accepted

pub returns-in_err-push_sorted_notes-clause-refused : goal.returns-in_err-push_sorted_notes-clause-refused
returns-in_err-push_sorted_notes-clause-refused g c = λ h.
    section_refused (section_of g.S.SourceCode.source) c.args.further.now c.loop-section.section-index
    c.section-item.result _ _ c.loop-section-test.true c.section-item.is c.source.ensures c.labels.ensures
    (c.in_err-push_sorted_notes.ensures.refused (search rules))
