use Rattle.std.proofs.Common.{◌++◌, [], ◌∷◌, List, Bor, map, take, ap, append-nil, ◌∙◌}
use Rattle.std.specs.List.{flat_map}
use Rattle.std.proofs.lemmas.Grind.{flat_map-append}
use Rattle.std.proofs.lemmas.List.{take_all}
use Rattle.serde_json.specs.View.{view}
use Rattle.serde_json.specs.declared.value.Value.{Value}
use Rattle.miette_protocol.specs.rules.Reading.{Source}
use Rattle.miette_read.specs.views.Values.{values_behind}
use Rattle.miette_tree.specs.views.Report.{tree_of}
use Rattle.miette_read_sarif.specs.rules.Logs.{run_trees}
use Rattle.miette_read_sarif.proofs.Steps.{more}
use Rattle.miette_read_sarif.proofs.sarif.runs_reports.Goals as goal

pub loop-run-preserved : goal.loop-run-preserved
loop-run-preserved g c =
    let l = c.loop-run in
    let value = tree_of g.D.Diagnostic.meaning (λ (it : Source). it) in
    let all = run_trees (g.F.Files.found c.args.files.now) in
    let runs = c.as_slice-run-items.result.now in
    let before = values_behind (take l.run-index runs) in
    let run = view c.run-item.result.now in
    more (λ (v : Bor Value). view v.now) runs l.run-index c.run-item.result c.loop-run-test.true c.run-item.is
    (flat_map all) (all run)
    (flat_map-append all before (run ∷ []) ∙ ap (λ m. flat_map all before ++ m) (append-nil (all run))) []
    (map value l.list.items) (map value c.push_run.new.list.items) c.in_ok-push_run.ensures l.invariant

pub returns : goal.returns
returns g c =
    let all = run_trees (g.F.Files.found c.args.files.now) in
    c.loop-run.invariant
    ∙ ap (λ (vs : List (Bor Value)). flat_map all (values_behind vs))
    (take_all c.loop-run.run-index c.as_slice-run-items.result.now c.loop-run-test.false
    ∙ c.as_slice-run-items.ensures.value)
    ∙ ap (flat_map all) c.in_ok-runs.ensures
