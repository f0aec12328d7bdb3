use Rattle.std.proofs.Common.{arith}
use Rattle.std.proofs.lemmas.Result.{on_ok_weaker}
use Rattle.miette_tree.specs.views.Attachments.{section_of}
use Rattle.miette_json.proofs.JsonAttached.{no_section, next_section, all_sections}
use Rattle.miette_json.proofs.snippets_and_fixes.push_sections.Goals as goal

pub loop-section-init : goal.loop-section-init
loop-section-init g c = no_section _ _ _ c.in_ok-begin_list.ensures

pub loop-section-preserved : goal.loop-section-preserved
loop-section-preserved g c =
    let l = c.loop-section in
    next_section (section_of g.S.SourceCode.source) c.args.sections.now l.section-index c.section-item.result _ _
    _ _ _ c.loop-section-test.true c.section-item.is c.source.ensures c.labels.ensures l.invariant
    c.in_ok-push_section.ensures

pub returns : goal.returns
returns g c =
    let l = c.loop-section in
    on_ok_weaker c.end_list.result (all_sections (section_of g.S.SourceCode.source) c.args.sections.now l.section-index
    _ _ _ (omega arith) l.invariant) c.end_list.ensures
