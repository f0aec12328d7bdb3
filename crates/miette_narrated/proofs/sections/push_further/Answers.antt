use Rattle.std.proofs.Common.{rules, arith}
use Rattle.miette_tree.specs.views.Attachments.{section_of}
use Rattle.miette_narrated.proofs.Further.{none_told, next_told, further_told, section_refused}
use Rattle.miette_narrated.proofs.sections.push_further.Goals as goal

pub loop-section-init : goal.loop-section-init
loop-section-init g c = none_told _ _ _

pub loop-section-preserved : goal.loop-section-preserved
loop-section-preserved g c =
    next_told (section_of g.S.SourceCode.source) c.args.context c.args.sections.now c.loop-section.section-index
    c.section-item.result _ _ _ _ _ c.loop-section-test.true c.section-item.is c.source.ensures c.labels.ensures
    c.loop-section.invariant c.in_ok-push_snippets.ensures.text

pub returns-clause-text : goal.returns-clause-text
returns-clause-text g c =
    further_told (section_of g.S.SourceCode.source) c.args.context c.args.sections.now c.loop-section.section-index _ _
    (omega arith) c.loop-section.invariant

pub returns-in_err-push_snippets-clause-refused : goal.returns-in_err-push_snippets-clause-refused
returns-in_err-push_snippets-clause-refused g c = λ h.
    section_refused (section_of g.S.SourceCode.source) c.args.sections.now c.loop-section.section-index
    c.section-item.result _ _ c.loop-section-test.true c.section-item.is c.source.ensures c.labels.ensures
    (c.in_err-push_snippets.ensures.refused (search rules))
