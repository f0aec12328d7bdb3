use Rattle.std.proofs.Common.{ap, ◌∙◌}
use Rattle.std.proofs.lemmas.List.Elements.{All-push, All-same}
use Rattle.miette_columns.specs.steps.ZeroWidthRuns.{IsZeroWidthRun}
use Rattle.miette_columns.proofs.trails.push_parts.Goals.{then-trail-next+in_ok-push, else-trail-next}
use Rattle.miette_columns.proofs.trails.push_parts.Goals as goal

pub loop-trail-preserved : goal.loop-trail-preserved
loop-trail-preserved c =
    let P = IsZeroWidthRun c.args.text.now in
    let l = c.loop-trail in (
      c.after_first-trail.ensures.trail,
      elim c.if-trail-next.branch [
        | then-trail-next+in_ok-push w ↦ All-same P _ _ (ap (λ v. v.items) w.trails-is ∙ w.in_ok-push.ensures.items)
            (All-push P l.trails.items l.trail l.invariant.1 l.invariant.0)
        | else-trail-next w ↦ All-same P _ _ (ap (λ v. v.items) w.trails-is) l.invariant.1
      ],
    )
