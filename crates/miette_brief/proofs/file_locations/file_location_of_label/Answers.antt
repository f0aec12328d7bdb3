use Rattle.std.proofs.Common.{Option, sym, subst}
use Rattle.std.proofs.lemmas.Result.{IfOk-weaker}
use Rattle.std.specs.Option.{option_map}
use Rattle.miette_protocol.specs.rules.Reading.{Source}
use Rattle.miette_tree.specs.views.Owned.{ref_source}
use Rattle.miette_brief.specs.steps.CommandParts.{located_label_of, file_location_of}
use Rattle.miette_brief.specs.steps.PrimaryLabels.{IsPrimaryFileLocation, span_of_label}
use Rattle.miette_brief.specs.steps.WholeSources.{IsWholeSource}
use Rattle.miette_brief.proofs.file_locations.file_location_of_label.Goals as goal

pub file_location_in_whole-requires : goal.file_location_in_whole-requires
file_location_in_whole-requires g c =
    let source = option_map (ref_source g.S.SourceCode.source) c.args.source in
    subst (λ (o : Option Source). IsWholeSource o c.args.whole.now) (sym (c.requires.own c.if-is_own.true))
    c.requires.whole

pub returns-then-is_own-clause-site : goal.returns-then-is_own-clause-site
returns-then-is_own-clause-site g c =
    let it = located_label_of g.S.SourceCode.source c.args.mark.now in
    IfOk-weaker c.file_location_in_whole.result _ _ (λ site h. subst (λ (o : Option Source). IsPrimaryFileLocation o
    (span_of_label it)
    (option_map file_location_of site)) (c.requires.own c.if-is_own.true) h) c.file_location_in_whole.ensures.site
