use Rattle.std.proofs.Common.{false}
use Rattle.std.proofs.lemmas.Result.{IfOk-weaker}
use Rattle.miette_snippet_rules.specs.rules.CutLines.{line_parts}
use Rattle.miette_snippet_cuts.specs.steps.Nearness.{near_by}
use Rattle.miette_snippet_cuts.proofs.Reaching.{joined}
use Rattle.miette_snippet_cuts.proofs.reach.cut_in.Goals as goal

pub returns : goal.returns
returns c =
    IfOk-weaker c.join_short.result _ _ (λ made h. joined c.args.room.now.dots
    (line_parts (near_by c.args.room.now c.args.ends.now) false c.args.walk) c.in_ok-near.near.items
    c.deref.result.now made.items c.in_ok-near.ensures c.deref.ensures.value h) c.join_short.ensures
