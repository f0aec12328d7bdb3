use Rattle.std.proofs.Common.{Bor, Global, List, Vec, ap, option_map, ◌∙◌}
use Rattle.std.specs.List.{fold}
use Rattle.std.proofs.lemmas.List.{take_all}
use Rattle.serde_json.specs.View.{view}
use Rattle.serde_json.specs.declared.value.Value.{Value}
use Rattle.miette_read.specs.views.Values.{values_behind}
use Rattle.miette_read.proofs.Steps.{fold_more}
use Rattle.miette_read_sarif.specs.rules.Descriptors.{closest}
use Rattle.miette_read_sarif.specs.views.Seen.{value_lists_behind}
use Rattle.miette_read_sarif.proofs.descriptors.closest_of_all.Goals as goal

pub loop-rules-preserved : goal.loop-rules-preserved
loop-rules-preserved c =
    let l = c.loop-rules in
    let look = λ (v : Bor Value). view v.now in
    fold_more (λ (list : Vec (Bor Value) Global). values_behind list.items) c.args.extensions.now l.rules-index
    c.rules-item.result c.loop-rules-test.true c.rules-item.is (closest c.args.id.now) (option_map look c.args.found)
    (option_map look l.best) (option_map look c.closest-best.result)
    (c.closest-best.ensures
    ∙ ap (λ (vs : List (Bor Value)). closest c.args.id.now (option_map look l.best) (values_behind vs))
    c.as_slice.ensures.value)
    l.invariant

pub returns : goal.returns
returns c =
    let look = λ (v : Bor Value). view v.now in
    c.loop-rules.invariant
    ∙ ap (λ (vs : List (Vec (Bor Value) Global)). fold (closest c.args.id.now) (option_map look c.args.found)
    (value_lists_behind vs)) (take_all c.loop-rules.rules-index c.args.extensions.now c.loop-rules-test.false)
