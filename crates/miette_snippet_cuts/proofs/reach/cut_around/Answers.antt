use Rattle.std.proofs.Common.{◌∙◌, ap, map}
use Rattle.std.proofs.lemmas.Result.{IfOk-weaker}
use Rattle.miette_snippet_rules.specs.views.Cuts.{measure}
use Rattle.miette_snippet_cuts.proofs.Reaching.{cut_by_room, reach_some}
use Rattle.miette_snippet_cuts.proofs.reach.cut_around.Goals as goal

pub returns : goal.returns
returns c =
    IfOk-weaker c.cut_in.result _ _ (λ made h. h ∙ ap (map measure)
    (cut_by_room c.in_ok-room.room c.args.limit c.args.dots c.args.ends.now c.args.walk c.in_ok-room.ensures.limit
    c.in_ok-room.ensures.dots (λ some. c.in_ok-room.ensures.reach
    ∙ reach_some c.args.limit c.args.dots c.args.ends.now c.args.walk some))) c.cut_in.ensures
