use Rattle.std.proofs.Common.{ap, arith, drop, map, ◌+◌, ◌∙◌}
use Rattle.std.proofs.lemmas.Result.{on_ok_weaker}
use Rattle.miette_json.proofs.WrittenSteps.{item_put, list_put}
use Rattle.miette_json.specs.rules.Writing.{with_items}
use Rattle.miette_sarif.proofs.Gathers.{next_at, none_in}
use Rattle.miette_sarif.specs.rules.Objects.{items_of}
use Rattle.miette_sarif.specs.rules.Places.{related_from}
use Rattle.miette_sarif.specs.views.Artifacts.{artifacts_view}
use Rattle.miette_sarif.specs.views.Findings.{mark_of}
use Rattle.miette_sarif.proofs.results.push_related.Goals as goal

pub loop-mark-preserved : goal.loop-mark-preserved
loop-mark-preserved c =
    let l = c.loop-mark in
    let a = artifacts_view c.args.artifacts.now in
    let locations = c.args.locations.now in
    let left = map mark_of (drop (l.mark-index + 1) locations) in
    ap (λ n. with_items (items_of (related_from a n left)) c.push_numbered.new.json) c.in_ok-id.ensures
    ∙ item_put (items_of (related_from a l.id (map mark_of (drop l.mark-index locations))))
    (items_of (related_from a (l.id + 1) left)) _ l.json c.push_numbered.new.json _
    (ap (λ ms. items_of (related_from a l.id ms)) (next_at mark_of locations l.mark-index _ c.loop-mark-test.true))
    c.in_ok-push_numbered.ensures l.invariant

pub returns : goal.returns
returns c =
    let l = c.loop-mark in
    let a = artifacts_view c.args.artifacts.now in
    let locations = c.args.locations.now in
    on_ok_weaker c.end_list.result (list_put
    (items_of (related_from a l.id (map mark_of (drop l.mark-index locations))))
    (items_of (related_from a 1 (map mark_of locations))) c.args.json.now l.json _
    (ap (λ ms. items_of (related_from a l.id ms)) (none_in mark_of locations l.mark-index (omega arith))) l.invariant)
    c.end_list.ensures
