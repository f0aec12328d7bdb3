use Rattle.std.proofs.Common.{ap, ap₂, ◌∙◌, arith, rules}
use Rattle.miette_positions.specs.declared.position.PositionEncoding.TheVariants.{Utf16}
use Rattle.miette_positions.specs.rules.Regions.{region_of}
use Rattle.miette_protocol.specs.rules.Reading.{Source, Contents}
use Rattle.miette_tree.specs.views.Owned.{ref_source}
use Rattle.miette_tree.proofs.WholeReads.{read_whole}
use Rattle.miette_brief.specs.rules.Github.{named_file_location}
use Rattle.miette_brief.proofs.file_locations.span_file_location.Goals as goal

pub returns-in-Ok-clause-site : goal.returns-in-Ok-clause-site
returns-in-Ok-clause-site g c =
    let source : Source = ref_source g.S.SourceCode.source c.args.source in
    let whole = read_whole source c.new-begin.result _ c.data.result.now (search rules) c.in-Ok.ensures.1 c.data.ensures
    (omega (arith, c.data.type_inv.1)) in
    c.named_file_location.ensures ∙ ap₂ named_file_location (c.name.ensures ∙ ap (λ (it : Contents). it.name)
    c.in-Ok.ensures.1)
    (c.whole_region-region.ensures ∙ ap (λ bs. region_of Utf16 bs c.args.span.now) whole)
