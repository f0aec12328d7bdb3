use Rattle.miette_fixes.proofs.Begun.{meets_by_length, meets_none, meets_there}
use Rattle.miette_fixes.proofs.edit_starts.meets_before.Goals as goal

pub returns-then-offset-at : goal.returns-then-offset-at
returns-then-offset-at c = λ lists h free.
    let range = c.range.ensures.in_range tt in
    let entry = range.3 _ _ c.in-Some.ensures.steps in
    meets_there c.args.begun.now lists c.args.edit.now c.offset-at.result c.in-Some.offset.now c.in-Some.before.now h
    free c.offset-at.ensures entry.1 entry.0.1 (λ q le some. range.4 _ _ c.in-Some.ensures.steps q (tt, le) some)
    c.if-offset-at.true

pub returns-else-offset-at : goal.returns-else-offset-at
returns-else-offset-at c = λ lists h free.
    let range = c.range.ensures.in_range tt in
    let entry = range.3 _ _ c.in-Some.ensures.steps in
    meets_by_length c.args.begun.now lists c.args.edit.now c.offset-at.result c.in-Some.offset.now
    c.in-Some.before.now h free c.offset-at.ensures entry.1 entry.0.1
    (λ q le some. range.4 _ _ c.in-Some.ensures.steps q (tt, le) some) c.if-offset-at.false

pub returns-in-None : goal.returns-in-None
returns-in-None c = λ lists h free.
    meets_none c.args.begun.now lists c.args.edit.now c.offset-at.result h c.offset-at.ensures
    (λ q le. (c.range.ensures.in_range tt).5 c.in-None.ensures.steps.0 q (tt, le))
