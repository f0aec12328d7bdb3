use Rattle.std.proofs.Common.{Bor, List, ap, option_map, ◌∙◌}
use Rattle.std.specs.List.{fold}
use Rattle.std.proofs.lemmas.List.{take_all}
use Rattle.serde_json.specs.View.{view}
use Rattle.serde_json.specs.declared.value.Value.{Value}
use Rattle.miette_read.specs.views.Values.{values_behind}
use Rattle.miette_read.proofs.Steps.{fold_more}
use Rattle.miette_read_sarif.specs.rules.Descriptors.{closer}
use Rattle.miette_read_sarif.proofs.descriptors.closest.Goals as goal

pub loop-rule-preserved : goal.loop-rule-preserved
loop-rule-preserved c =
    let l = c.loop-rule in
    let look = λ (v : Bor Value). view v.now in
    fold_more look c.args.rules.now l.rule-index c.rule-item.result c.loop-rule-test.true c.rule-item.is
    (closer c.args.id.now) (option_map look c.args.found) (option_map look l.best)
    (option_map look c.closer-best.result)
    c.closer-best.ensures l.invariant

pub returns : goal.returns
returns c =
    let look = λ (v : Bor Value). view v.now in
    c.loop-rule.invariant
    ∙ ap (λ (vs : List (Bor Value)). fold (closer c.args.id.now) (option_map look c.args.found) (values_behind vs))
    (take_all c.loop-rule.rule-index c.args.rules.now c.loop-rule-test.false)
