use Rattle.std.proofs.Common.{[], Bor, Global, List, Vec, ap, codes, map, ◌∙◌}
use Rattle.std.proofs.lemmas.List.{take_all}
use Rattle.serde_json.specs.View.{view}
use Rattle.serde_json.specs.declared.value.Value.{Value}
use Rattle.miette_read.specs.rules.Members.{member_objects}
use Rattle.miette_read.specs.views.Values.{values_behind}
use Rattle.miette_read.proofs.Steps.{map_more}
use Rattle.miette_read_sarif.proofs.context.rules_of_each.Goals as goal

pub loop-extension-preserved : goal.loop-extension-preserved
loop-extension-preserved c =
    let l = c.loop-extension in
    map_more (λ (v : Bor Value). view v.now) c.args.extensions.now l.extension-index c.extension-item.result
    c.loop-extension-test.true c.extension-item.is (λ (list : Vec (Bor Value) Global). values_behind list.items)
    (member_objects (codes "rules")) [] l.lists.items c.push_item.new.list.items c.in_ok-rules.rules
    c.in_ok-rules.ensures
    c.in_ok-push_item.ensures l.invariant

pub returns : goal.returns
returns c =
    c.loop-extension.invariant
    ∙ ap (λ (vs : List (Bor Value)). map (member_objects (codes "rules")) (values_behind vs))
    (take_all c.loop-extension.extension-index c.args.extensions.now c.loop-extension-test.false)
