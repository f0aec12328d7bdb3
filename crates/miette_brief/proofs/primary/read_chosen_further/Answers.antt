use Rattle.std.proofs.Common.{Option, arith, subst, sym}
use Rattle.miette_tree.specs.views.Attachments.{section_of}
use Rattle.miette_tree.specs.views.Owned.{ref_source}
use Rattle.miette_brief.specs.rules.Locations.{SpanInSource}
use Rattle.miette_brief.specs.steps.Conversions.{chosen_in}
use Rattle.miette_brief.specs.steps.Reads.{IsPrimaryRead}
use Rattle.miette_brief.proofs.Choosing.{further_found, further_later, further_none}
use Rattle.miette_brief.proofs.primary.read_chosen_further.Goals as goal

pub returns-in-Some : goal.returns-in-Some
returns-in-Some g c =
    subst (λ (o : Option SpanInSource). IsPrimaryRead o c.in_ok-found.found)
    (further_found (chosen_in c.args.choice) (section_of g.S.SourceCode.source) c.args.further.now
    c.loop-section.section-index c.section-item.result (ref_source g.S.SourceCode.source c.source.result)
    c.labels.result.now c.in_ok-span.field-0 c.in-Some.span _ c.loop-section-test.true c.section-item.is
    c.source.ensures c.labels.ensures c.in_ok-span.ensures c.in-Some.is c.loop-section.invariant)
    c.in_ok-found.ensures

pub loop-section-preserved : goal.loop-section-preserved
loop-section-preserved g c =
    further_later (chosen_in c.args.choice) (section_of g.S.SourceCode.source) c.args.further.now
    c.loop-section.section-index c.section-item.result c.labels.result.now c.in_ok-span.field-0 _
    c.loop-section-test.true c.section-item.is c.labels.ensures c.in_ok-span.ensures c.in_default.is
    c.loop-section.invariant

pub returns : goal.returns
returns g c =
    sym (further_none (chosen_in c.args.choice) (section_of g.S.SourceCode.source) c.args.further.now
    c.loop-section.section-index _ (omega arith) c.loop-section.invariant)
