use Rattle.std.proofs.Common.{List, ap, ◌∙◌}
use Rattle.std.specs.List.{filter_map}
use Rattle.std.proofs.lemmas.List.{take_all}
use Rattle.serde_json.specs.View.{view}
use Rattle.serde_json.specs.declared.value.Value.{Value}
use Rattle.miette_read.specs.views.Values.{texts, viewed}
use Rattle.miette_read_sarif.specs.rules.Newlines.{sequence_in}
use Rattle.miette_read_sarif.proofs.NewlineSteps.{sequence_more}
use Rattle.miette_read_sarif.proofs.newlines.sequences_in.Goals as goal

pub loop-item-preserved : goal.loop-item-preserved
loop-item-preserved c =
    let l = c.loop-item in
    sequence_more view sequence_in c.args.items.now l.item-index c.item-item.result c.loop-item-test.true c.item-item.is
    (texts l.list.items) (texts c.push_sequence.new.list.items) c.in_ok-push_sequence.ensures l.invariant

pub returns : goal.returns
returns c =
    c.loop-item.invariant
    ∙ ap (λ (vs : List Value). filter_map sequence_in (viewed vs))
    (take_all c.loop-item.item-index c.args.items.now c.loop-item-test.false)
