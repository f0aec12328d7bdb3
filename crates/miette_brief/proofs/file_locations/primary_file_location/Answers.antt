use Rattle.std.proofs.Common.{◌≡◌, ◌∙◌, Some, None, length, refl, sym, ap, subst}
use Rattle.std.proofs.lemmas.Option.{slice_get_past, slice_get_read}
use Rattle.std.proofs.lemmas.Result.{IfOk-weaker}
use Rattle.std.specs.Prelude.{slice_get}
use Rattle.std.specs.Option.{option_map}
use Rattle.miette_tree.specs.views.Owned.{ref_source}
use Rattle.miette_brief.specs.rules.Github.{primary_file_location}
use Rattle.miette_brief.specs.steps.CommandParts.{located_label_of, file_location_of}
use Rattle.miette_brief.specs.steps.PrimaryLabels.{IsPrimaryFileLocation}
use Rattle.miette_brief.specs.steps.Reads.{IsSpanUnread}
use Rattle.miette_brief.proofs.WholeSources.{label_over, spot_missing, spot_there}
use Rattle.miette_brief.proofs.file_locations.primary_file_location.Goals as goal

pub file_location_of_label-requires-clause-own : goal.file_location_of_label-requires-clause-own
file_location_of_label-requires-clause-own g c = λ t.
    let source = option_map (ref_source g.S.SourceCode.source) c.args.source in
    let got = c.in-Some-get.ensures.lookup in
    let there : slice_get c.args.marks.now c.in-Some.at ≡ Some c.in-Some-get.mark.now =
    slice_get_read c.args.marks.now (length c.args.marks.now) c.in-Some.at c.in-Some-get.mark.now refl got.3.0 got.1 in
    label_over (located_label_of g.S.SourceCode.source) source c.args.own c.args.marks.now c.in-Some.at
    c.in-Some-get.mark.now
    c.requires.own there t

pub returns-in-Some-get-clause-site : goal.returns-in-Some-get-clause-site
returns-in-Some-get-clause-site g c =
    let source = option_map (ref_source g.S.SourceCode.source) c.args.source in
    let f = located_label_of g.S.SourceCode.source in
    let got = c.in-Some-get.ensures.lookup in
    let there : slice_get c.args.marks.now c.in-Some.at ≡ Some c.in-Some-get.mark.now =
    slice_get_read c.args.marks.now (length c.args.marks.now) c.in-Some.at c.in-Some-get.mark.now refl got.3.0 got.1 in
    let spot = spot_there f c.args.at c.args.marks.now c.in-Some.at c.in-Some-get.mark.now c.in-Some.is there in
    IfOk-weaker c.file_location_of_label.result _ _ (λ site h. subst (λ o. IsPrimaryFileLocation source o
    (option_map file_location_of site))
    (sym spot) h) c.file_location_of_label.ensures.site

pub returns-in-Some-get-clause-refused : goal.returns-in-Some-get-clause-refused
returns-in-Some-get-clause-refused g c = λ h.
    let f = located_label_of g.S.SourceCode.source in
    let got = c.in-Some-get.ensures.lookup in
    let there : slice_get c.args.marks.now c.in-Some.at ≡ Some c.in-Some-get.mark.now =
    slice_get_read c.args.marks.now (length c.args.marks.now) c.in-Some.at c.in-Some-get.mark.now refl got.3.0 got.1 in
    let spot = spot_there f c.args.at c.args.marks.now c.in-Some.at c.in-Some-get.mark.now c.in-Some.is there in
    subst (λ o. IsSpanUnread o) (sym spot) (c.file_location_of_label.ensures.refused h)

pub returns-in-None-clause-site : goal.returns-in-None-clause-site
returns-in-None-clause-site g c =
    let source = option_map (ref_source g.S.SourceCode.source) c.args.source in
    let f = located_label_of g.S.SourceCode.source in
    let missing : slice_get c.args.marks.now c.in-Some.at ≡ None =
    slice_get_past c.args.marks.now c.in-Some.at c.in-None.ensures.lookup.3 in
    let spot = spot_missing f c.args.at c.args.marks.now c.in-Some.at c.in-Some.is missing in
    let it = c.source_file_location-in-None.ensures in
    record {
      fault = it.fault;
      possible = it.possible;
      is = it.is ∙ sym (ap (λ o. primary_file_location source it.fault o) spot);
    }
