use Rattle.std.proofs.Common.{map, rules, arith}
use Rattle.miette_tree.specs.views.Attachments.{section_of}
use Rattle.miette_brief.specs.steps.CommandParts.{located_label_of}
use Rattle.miette_brief.proofs.Further.{sections_accepted, accepted_all, section_refused}
use Rattle.miette_brief.proofs.PrimaryLabels.{sections_more, sections_end}
use Rattle.miette_brief.proofs.located_labels.push_further_labels.Goals as goal

pub loop-section-preserved : goal.loop-section-preserved
loop-section-preserved g c =
    let is = g.S.SourceCode.source in
    let value = section_of is in
    record {
      marks = sections_more value c.args.further.now c.loop-section.section-index c.section-item.result _ _
          (map (located_label_of is) c.loop-section.marks.items) (map (located_label_of is)
          c.push_sorted_labels.new.marks.items) _
          c.loop-section-test.true c.section-item.is c.source.ensures c.labels.ensures
          c.in_ok-push_sorted_labels.ensures.marks c.loop-section.invariant.marks;
      accepted = sections_accepted value c.args.further.now c.loop-section.section-index c.section-item.result _ _
          (map value c.args.further.now) c.loop-section-test.true c.section-item.is c.source.ensures c.labels.ensures
          c.in_ok-push_sorted_labels.ensures.accepted c.loop-section.invariant.accepted;
    }

pub returns-clause-marks : goal.returns-clause-marks
returns-clause-marks g c =
    let is = g.S.SourceCode.source in
    sections_end (section_of is) c.args.further.now c.loop-section.section-index
    (map (located_label_of is) c.loop-section.marks.items) _ (omega arith) c.loop-section.invariant.marks

pub returns-clause-accepted : goal.returns-clause-accepted
returns-clause-accepted g c =
    accepted_all (section_of g.S.SourceCode.source) c.args.further.now c.loop-section.section-index _ (omega arith)
    c.loop-section.invariant.accepted

pub returns-in_err-push_sorted_labels-clause-refused : goal.returns-in_err-push_sorted_labels-clause-refused
returns-in_err-push_sorted_labels-clause-refused g c = λ h.
    section_refused (section_of g.S.SourceCode.source) c.args.further.now c.loop-section.section-index
    c.section-item.result _ _ c.loop-section-test.true c.section-item.is c.source.ensures c.labels.ensures
    (c.in_err-push_sorted_labels.ensures.refused (search rules))
