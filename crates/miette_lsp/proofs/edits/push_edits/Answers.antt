use Rattle.std.proofs.Common.{ap, arith, drop, map, ◌+◌}
use Rattle.std.proofs.lemmas.Result.{on_ok_weaker}
use Rattle.miette_json.proofs.WrittenSteps.{item_put, list_put}
use Rattle.miette_lsp.specs.rules.Diagnostics.{text_edit}
use Rattle.miette_sarif.proofs.Gathers.{next_in, none_in}
use Rattle.miette_sarif.specs.rules.Objects.{items_of}
use Rattle.miette_sarif.specs.views.Findings.{replacement_value_of}
use Rattle.miette_lsp.proofs.edits.push_edits.Goals as goal

pub loop-item-preserved : goal.loop-item-preserved
loop-item-preserved c =
    let l = c.loop-item in
    let list = c.args.list.now in
    item_put (items_of (map text_edit (map replacement_value_of (drop l.item-index list))))
    (items_of (map text_edit (map replacement_value_of (drop (l.item-index + 1) list))))
    (text_edit (replacement_value_of c.item-item.result)) l.json c.push_edit.new.json _
    (ap (λ rs. items_of (map text_edit rs)) (next_in replacement_value_of list l.item-index c.item-item.result
    c.loop-item-test.true c.item-item.is)) c.in_ok-push_edit.ensures l.invariant

pub returns : goal.returns
returns c =
    let l = c.loop-item in
    let list = c.args.list.now in
    on_ok_weaker c.end_list.result (list_put (items_of (map text_edit (map replacement_value_of
    (drop l.item-index list)))) (items_of (map text_edit (map replacement_value_of list))) c.args.json.now l.json _
    (ap (λ rs. items_of (map text_edit rs)) (none_in replacement_value_of list l.item-index (omega arith)))
    l.invariant) c.end_list.ensures
