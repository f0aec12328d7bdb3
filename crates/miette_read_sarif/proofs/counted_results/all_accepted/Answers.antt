use Rattle.std.proofs.Common.{◌≡◌, Bor, List, ap, false, rules, sym, true, ◌∙◌}
use Rattle.std.specs.List.{list_all}
use Rattle.std.proofs.lemmas.List.{take_all}
use Rattle.serde_json.specs.View.{view}
use Rattle.serde_json.specs.declared.value.Value.{Value}
use Rattle.miette_read.specs.views.Values.{values_behind}
use Rattle.miette_read.proofs.Steps.{all_more, not_all}
use Rattle.miette_read_sarif.specs.rules.Counting.{is_accepted}
use Rattle.miette_read_sarif.proofs.counted_results.all_accepted.Goals as goal

pub returns-then-not-is_accepted : goal.returns-then-not-is_accepted
returns-then-not-is_accepted c =
    let l = c.loop-suppression in
    let x = c.suppression-item.result in
    let miss : is_accepted (view x.now) ≡ false = search rules in
    sym (not_all (λ (v : Bor Value). view v.now) is_accepted c.args.suppressions.now l.suppression-index x
    c.loop-suppression-test.true c.suppression-item.is miss)

pub loop-suppression-preserved : goal.loop-suppression-preserved
loop-suppression-preserved c =
    let l = c.loop-suppression in
    let x = c.suppression-item.result in
    let hit : is_accepted (view x.now) ≡ true = search rules in
    all_more (λ (v : Bor Value). view v.now) c.args.suppressions.now l.suppression-index x
    c.loop-suppression-test.true c.suppression-item.is is_accepted l.invariant hit

pub returns : goal.returns
returns c =
    sym c.loop-suppression.invariant
    ∙ ap (λ (vs : List (Bor Value)). list_all is_accepted (values_behind vs))
    (take_all c.loop-suppression.suppression-index c.args.suppressions.now c.loop-suppression-test.false)
