use Rattle.std.proofs.Common.{◌++◌, [], ◌∷◌, List, Bor, map, take, ap, ◌∙◌}
use Rattle.std.proofs.lemmas.List.{map-append, take_all}
use Rattle.serde_json.specs.View.{view}
use Rattle.serde_json.specs.declared.value.Value.{Value}
use Rattle.miette_read.specs.views.Values.{values_behind}
use Rattle.miette_read_sarif.specs.rules.Results.{located_annotation}
use Rattle.miette_read_sarif.specs.views.RunContexts.{run_context}
use Rattle.miette_read_sarif.proofs.Steps.{more}
use Rattle.miette_read_sarif.proofs.context.RunContext.push_told.Goals as goal

pub loop-location-preserved : goal.loop-location-preserved
loop-location-preserved g c =
    let l = c.loop-location in
    let told = located_annotation (run_context g.F.Files.found c.args.self.now) c.args.primary c.args.own in
    let locations = c.args.locations.now in
    let location = view c.location-item.result.now in
    more (λ (v : Bor Value). view v.now) locations l.location-index c.location-item.result c.loop-location-test.true
    c.location-item.is (map told) (told location ∷ [])
    (map-append told (values_behind (take l.location-index locations)) (location ∷ [])) c.args.list.now.items
    l.list.items
    c.push_item.new.list.items
    (c.in_ok-push_item.ensures ∙ ap (λ t. l.list.items ++ t ∷ []) c.in_ok-spot.ensures) l.invariant

pub returns : goal.returns
returns g c =
    let told = located_annotation (run_context g.F.Files.found c.args.self.now) c.args.primary c.args.own in
    c.loop-location.invariant
    ∙ ap (λ (vs : List (Bor Value)). c.args.list.now.items ++ map told (values_behind vs))
    (take_all c.loop-location.location-index c.args.locations.now c.loop-location-test.false)
