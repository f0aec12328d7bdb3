use Rattle.std.proofs.Common.{[], Bor, filter, ap, sym, ◌∙◌}
use Rattle.std.proofs.lemmas.List.{map-append}
use Rattle.serde_json.specs.View.{view}
use Rattle.serde_json.specs.declared.value.Value.{Value}
use Rattle.miette_read.specs.views.Values.{values_behind}
use Rattle.miette_read.proofs.Steps.{kept_more, kept_no_more}
use Rattle.miette_read_sarif.specs.rules.Counting.{is_counted}
use Rattle.miette_read_sarif.proofs.Steps.{made_of_all}
use Rattle.miette_read_sarif.proofs.counted_results.results_of.Goals.{then-counted+in_ok-push_item, else-counted}
use Rattle.miette_read_sarif.proofs.counted_results.results_of.Goals as goal

pub loop-finding-preserved : goal.loop-finding-preserved
loop-finding-preserved c =
    let l = c.loop-finding in
    let look = λ (v : Bor Value). view v.now in
    let items = c.as_slice-finding-items.result.now in
    elim c.if-counted.branch [
      | then-counted+in_ok-push_item w ↦
          kept_more look items l.finding-index c.finding-item.result c.loop-finding-test.true c.finding-item.is
          is_counted [] (values_behind l.list.items) (values_behind c.if-counted.list.items)
          (sym c.in_ok-counted.ensures ∙ w.if-counted.true)
          (ap (λ v. values_behind v.items) w.list-is ∙ ap values_behind w.in_ok-push_item.ensures
          ∙ map-append look l.list.items _)
          l.invariant
      | else-counted w ↦
          kept_no_more look items l.finding-index c.finding-item.result c.loop-finding-test.true c.finding-item.is
          is_counted [] (values_behind c.if-counted.list.items) (sym c.in_ok-counted.ensures ∙ w.if-counted.false)
          (ap (λ v. values_behind v.items) w.list-is ∙ l.invariant)
    ]

pub returns : goal.returns
returns c =
    made_of_all (λ (v : Bor Value). view v.now) (filter is_counted) c.as_slice-finding-items.result.now _
    c.loop-finding.finding-index _ _ c.loop-finding-test.false c.as_slice-finding-items.ensures.value
    c.in_ok-findings.ensures c.loop-finding.invariant
