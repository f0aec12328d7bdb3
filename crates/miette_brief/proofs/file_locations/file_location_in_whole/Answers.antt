use Rattle.std.proofs.Common.{◌∙◌, sym, ap}
use Rattle.std.specs.Option.{option_map}
use Rattle.std.proofs.lemmas.Result.{IfOk-weaker}
use Rattle.miette_brief.specs.steps.CommandParts.{located_label_of, file_location_of}
use Rattle.miette_brief.specs.steps.WholeSources.{file_location_over}
use Rattle.miette_brief.proofs.WholeSources.{site_chosen, site_unread}
use Rattle.miette_brief.proofs.file_locations.file_location_in_whole.Goals as goal

pub returns-clause-site : goal.returns-clause-site
returns-clause-site g c =
    let it = located_label_of g.S.SourceCode.source c.args.mark.now in
    IfOk-weaker c.file_location_over.result _ _ (λ site is.
    site_chosen it.source it.label.span c.args.whole.now (option_map file_location_of site) c.requires
    (is ∙ ap (file_location_over c.args.whole.now) c.inner-span.ensures)) c.file_location_over.ensures.site

pub returns-clause-refused : goal.returns-clause-refused
returns-clause-refused g c = λ h.
    let it = located_label_of g.S.SourceCode.source c.args.mark.now in
    site_unread it.source it.label.span c.args.whole.now c.requires
    (sym (ap (file_location_over c.args.whole.now) c.inner-span.ensures) ∙ c.file_location_over.ensures.refused h)
