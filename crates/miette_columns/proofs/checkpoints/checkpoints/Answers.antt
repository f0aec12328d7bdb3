use Rattle.std.proofs.Common.{◌<◌, subst}
use Rattle.std.specs.Prelude.{IfSome}
use Rattle.std.proofs.lemmas.List.Elements.{All-push, All-same}
use Rattle.miette_columns.specs.declared.checkpoints.Checkpoint.{Checkpoint}
use Rattle.miette_columns.specs.steps.Checkpoints.{IsCheckpoint}
use Rattle.miette_columns.proofs.checkpoints.checkpoints.Goals as goal

pub loop-checkpoints-preserved : goal.loop-checkpoints-preserved
loop-checkpoints-preserved c =
    let P = IsCheckpoint c.args.text.now in
    let l = c.loop-checkpoints in
    let next = subst (λ o. IfSome o (λ (place : Checkpoint). P place × (l.from.bytes < place.bytes))) c.in-Some.is
    c.in_ok-place.ensures in (
      next.0,
      All-same P _ _ c.in_ok-push.ensures.items (All-push P l.checkpoints.items c.in-Some.place l.invariant.1
          next.0),
    )
