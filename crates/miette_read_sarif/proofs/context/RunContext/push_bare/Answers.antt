use Rattle.std.proofs.Common.{[], ◌∷◌, ◌++◌, Bor, List, ap, map, string_bytes, take, ◌∙◌}
use Rattle.std.specs.List.{cons_option, filter_map}
use Rattle.std.proofs.lemmas.List.{take_all}
use Rattle.std.proofs.lemmas.List.Elements.{filter_map-append}
use Rattle.serde_json.specs.View.{view}
use Rattle.serde_json.specs.declared.value.Value.{Value}
use Rattle.miette_read.specs.views.Values.{values_behind}
use Rattle.miette_read_sarif.specs.rules.Wholes.{bare_file}
use Rattle.miette_read_sarif.specs.views.RunContexts.{run_context}
use Rattle.miette_read_sarif.proofs.Steps.{more}
use Rattle.miette_read_sarif.proofs.context.RunContext.push_bare.Goals as goal

pub loop-location-preserved : goal.loop-location-preserved
loop-location-preserved g c =
    let l = c.loop-location in
    let bare = bare_file (run_context g.F.Files.found c.args.self.now) in
    let locations = c.args.locations.now in
    let location = view c.location-item.result.now in
    let before = map string_bytes l.list.items in
    more (λ (v : Bor Value). view v.now) locations l.location-index c.location-item.result c.loop-location-test.true
    c.location-item.is (filter_map bare) (cons_option (bare location) [])
    (filter_map-append bare (values_behind (take l.location-index locations)) (location ∷ []))
    (map string_bytes c.args.list.now.items) before (map string_bytes c.push_name.new.list.items)
    (c.in_ok-push_name.ensures ∙ ap (λ o. before ++ cons_option o []) c.in_ok-name.ensures) l.invariant

pub returns : goal.returns
returns g c =
    c.loop-location.invariant
    ∙ ap (λ (vs : List (Bor Value)). map string_bytes c.args.list.now.items
    ++ filter_map (bare_file (run_context g.F.Files.found c.args.self.now)) (values_behind vs))
    (take_all c.loop-location.location-index c.args.locations.now c.loop-location-test.false)
