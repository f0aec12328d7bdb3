use Rattle.std.proofs.Common.{◌++◌, [], ◌∷◌, List, Bor, map, take, ap, ◌∙◌}
use Rattle.std.proofs.lemmas.List.{map-append, take_all}
use Rattle.serde_json.specs.View.{view}
use Rattle.serde_json.specs.declared.value.Value.{Value}
use Rattle.miette_protocol.specs.rules.Reading.{Source}
use Rattle.miette_read.specs.views.Values.{values_behind}
use Rattle.miette_tree.specs.views.Report.{tree_of}
use Rattle.miette_read_sarif.specs.rules.Logs.{result_in, result_tree}
use Rattle.miette_read_sarif.specs.views.RunContexts.{run_context}
use Rattle.miette_read_sarif.proofs.Steps.{more}
use Rattle.miette_read_sarif.proofs.sarif.push_reports.Goals as goal

pub loop-finding-preserved : goal.loop-finding-preserved
loop-finding-preserved g c =
    let l = c.loop-finding in
    let value = tree_of g.D.Diagnostic.meaning (λ (it : Source). it) in
    let tree = result_tree (run_context g.F.Files.found c.args.context.now) in
    let all = c.args.findings.now in
    let next = view c.finding-item.result.now in
    more (λ (v : Bor Value). view v.now) all l.finding-index c.finding-item.result c.loop-finding-test.true
    c.finding-item.is (map tree) (tree next ∷ []) (map-append tree (values_behind (take l.finding-index all))
    (next ∷ []))
    (map value c.args.list.now.items) (map value l.list.items) (map value c.push_item.new.list.items)
    (ap (map value) c.in_ok-push_item.ensures ∙ map-append value l.list.items (c.in_ok-report.report ∷ [])
    ∙ ap (λ t. map value l.list.items ++ t ∷ [])
    (c.in_ok-report.ensures ∙ ap (λ context. result_in context next) c.result_context.ensures)) l.invariant

pub returns : goal.returns
returns g c =
    let value = tree_of g.D.Diagnostic.meaning (λ (it : Source). it) in
    let tree = result_tree (run_context g.F.Files.found c.args.context.now) in
    c.loop-finding.invariant
    ∙ ap (λ (vs : List (Bor Value)). map value c.args.list.now.items ++ map tree (values_behind vs))
    (take_all c.loop-finding.finding-index c.args.findings.now c.loop-finding-test.false)
