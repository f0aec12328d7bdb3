use Rattle.std.proofs.Common.{refl}
use Rattle.miette_snippet_cuts.proofs.CutStretches.{put_other, put_same}
use Rattle.miette_snippet_cuts.proofs.line_part.push_line_part.Goals as goal

pub returns-then-same-clause-put : goal.returns-then-same-clause-put
returns-then-same-clause-put c = λ rest. put_same _ _ c.args.reached.now c.args.next _ rest c.if-same.true
    c.in_ok-reached.ensures refl

pub returns-clause-put : goal.returns-clause-put
returns-clause-put c = λ rest. put_other _ _ c.args.reached.now c.args.next rest c.if-same.false
    c.in_ok-push.ensures.items
