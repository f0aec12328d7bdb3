use Rattle.std.proofs.Common.{◌++◌, [], ◌∷◌, List, Bor, map, take, ap, ◌∙◌}
use Rattle.std.proofs.lemmas.List.{map-append, take_all}
use Rattle.serde_json.specs.View.{view}
use Rattle.serde_json.specs.declared.value.Value.{Value}
use Rattle.miette_protocol.specs.rules.Reading.{Source}
use Rattle.miette_read.specs.views.Values.{values_behind}
use Rattle.miette_tree.specs.views.Report.{tree_of}
use Rattle.miette_read_sarif.specs.rules.Logs.{notification_tree}
use Rattle.miette_read_sarif.specs.views.RunContexts.{run_context}
use Rattle.miette_read_sarif.proofs.Steps.{more}
use Rattle.miette_read_sarif.proofs.sarif.push_notices.Goals as goal

pub loop-notice-preserved : goal.loop-notice-preserved
loop-notice-preserved g c =
    let l = c.loop-notice in
    let value = tree_of g.D.Diagnostic.meaning (λ (it : Source). it) in
    let tree = notification_tree (run_context g.F.Files.found c.args.context.now) in
    let all = c.args.notices.now in
    let next = view c.notice-item.result.now in
    more (λ (v : Bor Value). view v.now) all l.notice-index c.notice-item.result c.loop-notice-test.true
    c.notice-item.is (map tree) (tree next ∷ []) (map-append tree (values_behind (take l.notice-index all)) (next ∷ []))
    (map value c.args.list.now.items) (map value l.list.items) (map value c.push_item.new.list.items)
    (ap (map value) c.in_ok-push_item.ensures ∙ map-append value l.list.items (c.in_ok-report.report ∷ [])
    ∙ ap (λ t. map value l.list.items ++ t ∷ []) c.in_ok-report.ensures) l.invariant

pub returns : goal.returns
returns g c =
    let value = tree_of g.D.Diagnostic.meaning (λ (it : Source). it) in
    let tree = notification_tree (run_context g.F.Files.found c.args.context.now) in
    c.loop-notice.invariant
    ∙ ap (λ (vs : List (Bor Value)). map value c.args.list.now.items ++ map tree (values_behind vs))
    (take_all c.loop-notice.notice-index c.args.notices.now c.loop-notice-test.false)
