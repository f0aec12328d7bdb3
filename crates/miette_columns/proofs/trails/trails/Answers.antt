use Rattle.std.proofs.Common.{ap}
use Rattle.std.proofs.lemmas.List.Elements.{All-get_or, All-same}
use Rattle.miette_columns.specs.steps.Checkpoints.{IsCheckpoint}
use Rattle.miette_columns.specs.steps.ZeroWidthRuns.{IsZeroWidthRun}
use Rattle.miette_columns.proofs.trails.trails.Goals.{then-saturating_sub-ge-FAR+in_ok-push_trails}
use Rattle.miette_columns.proofs.trails.trails.Goals.{else-saturating_sub-ge-FAR}
use Rattle.miette_columns.proofs.trails.trails.Goals.{then-saturating_sub-ge-FAR-2+in_ok-push_trails-2}
use Rattle.miette_columns.proofs.trails.trails.Goals.{else-saturating_sub-ge-FAR-2}
use Rattle.miette_columns.proofs.trails.trails.Goals as goal

pub loop-place-preserved : goal.loop-place-preserved
loop-place-preserved c =
    let P = IsZeroWidthRun c.args.text.now in
    let l = c.loop-place in (
      All-get_or (IsCheckpoint c.args.text.now) c.args.checkpoints.now l.place-index _ c.loop-place-test.true
          c.requires,
      elim c.if-saturating_sub-ge-FAR.branch [
        | then-saturating_sub-ge-FAR+in_ok-push_trails w ↦ All-same P _ _ (ap (λ v. v.items) w.trails-is)
            w.in_ok-push_trails.ensures
        | else-saturating_sub-ge-FAR w ↦ All-same P _ _ (ap (λ v. v.items) w.trails-is) l.invariant.1
      ],
    )

pub returns : goal.returns
returns c =
    let P = IsZeroWidthRun c.args.text.now in
    elim c.if-saturating_sub-ge-FAR-2.branch [
      | then-saturating_sub-ge-FAR-2+in_ok-push_trails-2 w ↦
          All-same P _ _ (ap (λ v. v.items) w.trails-is) w.in_ok-push_trails-2.ensures
      | else-saturating_sub-ge-FAR-2 w ↦ All-same P _ _ (ap (λ v. v.items) w.trails-is) c.loop-place.invariant.1
    ]
