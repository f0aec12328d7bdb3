use Rattle.std.proofs.Common.{◌++◌, [], ◌∷◌, ap₂, sym, ◌∙◌}
use Rattle.std.proofs.lemmas.List.{take_all}
use Rattle.miette_read.proofs.Steps.{next_taken}
use Rattle.miette_read_sarif.proofs.file_annotations.borrowed.Goals as goal

pub loop-spot-preserved : goal.loop-spot-preserved
loop-spot-preserved c =
    let l = c.loop-spot in
    c.in_ok-push_item.ensures ∙ ap₂ (λ a b. a ++ b ∷ []) l.invariant c.in_ok-told.ensures
    ∙ sym (next_taken c.args.spots.now l.spot-index c.spot-item.result c.loop-spot-test.true c.spot-item.is)

pub returns : goal.returns
returns c = c.loop-spot.invariant ∙ take_all c.loop-spot.spot-index c.args.spots.now c.loop-spot-test.false
