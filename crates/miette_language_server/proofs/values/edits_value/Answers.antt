use Rattle.std.proofs.Common.{◌≡◌, ◌∙◌, ap, map}
use Rattle.serde_json.specs.View.{view}
use Rattle.miette_language_server.specs.rules.Values.{edit_value, list_value}
use Rattle.miette_language_server.proofs.Lists.{value_more, values_all}
use Rattle.miette_language_server.proofs.values.edits_value.Goals as goal

pub loop-edit-preserved : goal.loop-edit-preserved
loop-edit-preserved c =
    let l = c.loop-edit in
    value_more (edit_value c.args.source.now) c.args.edits.now l.edit-index c.edit-item.result l.values.items
    c.push.new.list.items c.in_ok-value.value c.loop-edit-test.true c.edit-item.is c.in_ok-push.ensures.ok
    c.in_ok-value.ensures l.invariant

pub returns : goal.returns
returns c =
    let l = c.loop-edit in
    let all : map view l.values.items ≡ map (edit_value c.args.source.now) c.args.edits.now =
    values_all (edit_value c.args.source.now) c.args.edits.now l.edit-index l.values.items c.loop-edit-test.false
    l.invariant in
    c.list_value.ensures ∙ ap list_value all
