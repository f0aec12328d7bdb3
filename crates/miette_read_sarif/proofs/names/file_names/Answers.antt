use Rattle.std.proofs.Common.{◌++◌, [], ◌∷◌, List, Bor, map, string_bytes, take, ap, append-nil, ◌∙◌}
use Rattle.std.specs.List.{flat_map}
use Rattle.std.proofs.lemmas.Grind.{flat_map-append}
use Rattle.std.proofs.lemmas.List.{take_all}
use Rattle.serde_json.specs.View.{view}
use Rattle.serde_json.specs.declared.value.Value.{Value}
use Rattle.miette_read.specs.views.Values.{values_behind}
use Rattle.miette_read_sarif.specs.rules.Names.{run_names}
use Rattle.miette_read_sarif.proofs.Steps.{more}
use Rattle.miette_read_sarif.proofs.names.file_names.Goals as goal

pub loop-run-preserved : goal.loop-run-preserved
loop-run-preserved c =
    let l = c.loop-run in
    let runs = c.as_slice-run-items.result.now in
    let before = values_behind (take l.run-index runs) in
    let run = view c.run-item.result.now in
    more (λ (v : Bor Value). view v.now) runs l.run-index c.run-item.result c.loop-run-test.true c.run-item.is
    (flat_map run_names) (run_names run)
    (flat_map-append run_names before (run ∷ [])
    ∙ ap (λ m. flat_map run_names before ++ m) (append-nil (run_names run))) []
    (map string_bytes l.list.items) (map string_bytes c.push_run.new.list.items) c.in_ok-push_run.ensures l.invariant

pub returns : goal.returns
returns c =
    c.loop-run.invariant
    ∙ ap (λ (vs : List (Bor Value)). flat_map run_names (values_behind vs))
    (take_all c.loop-run.run-index c.as_slice-run-items.result.now c.loop-run-test.false
    ∙ c.as_slice-run-items.ensures.value)
    ∙ ap (flat_map run_names) c.in_ok-runs.ensures
