use Rattle.std.proofs.Common.{[], ◌++◌, Bor, List, ap, map, string_bytes, ◌∙◌}
use Rattle.std.specs.List.{cons_option, filter_map}
use Rattle.std.proofs.lemmas.List.{take_all}
use Rattle.serde_json.specs.View.{view}
use Rattle.serde_json.specs.declared.value.Value.{Value}
use Rattle.miette_read.specs.views.Values.{values_behind}
use Rattle.miette_read_sarif.specs.rules.Wholes.{whole_file}
use Rattle.miette_read_sarif.specs.views.RunContexts.{run_context}
use Rattle.miette_read_sarif.proofs.NewlineSteps.{sequence_more}
use Rattle.miette_read_sarif.proofs.context.RunContext.whole_files.Goals as goal

pub loop-location-preserved : goal.loop-location-preserved
loop-location-preserved g c =
    let l = c.loop-location in
    let before = map string_bytes l.list.items in
    sequence_more (λ (v : Bor Value). view v.now) (whole_file (run_context g.F.Files.found c.args.self.now))
    c.args.locations.now l.location-index c.location-item.result c.loop-location-test.true c.location-item.is before
    (map string_bytes c.push_name.new.list.items)
    (c.in_ok-push_name.ensures ∙ ap (λ o. before ++ cons_option o []) c.in_ok-name.ensures) l.invariant

pub returns : goal.returns
returns g c =
    c.loop-location.invariant
    ∙ ap (λ (vs : List (Bor Value)). filter_map (whole_file (run_context g.F.Files.found c.args.self.now))
    (values_behind vs))
    (take_all c.loop-location.location-index c.args.locations.now c.loop-location-test.false)
