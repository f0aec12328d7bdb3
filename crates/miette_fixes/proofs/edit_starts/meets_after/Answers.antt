use Rattle.miette_fixes.proofs.Begun.{first_entry, inside_by, inside_none}
use Rattle.miette_fixes.proofs.edit_starts.meets_after.Goals as goal

pub returns-in-Some : goal.returns-in-Some
returns-in-Some c = λ lists h.
    let range = c.range.ensures.in_range tt in
    let entry = first_entry _ _ _ _ c.in-Some.ensures.steps range.1 in
    inside_by c.args.begun.now lists c.args.edit.now c.offset-at.result c.in-Some.offset.now c.len.result
    c.in-Some.field-0-1.now h c.offset-at.ensures c.len.ensures entry.1 entry.0.0
    (λ q le some. first_entry _ _ _ _ c.in-Some.ensures.steps (range.2 q (le, tt) some))

pub returns-in-None : goal.returns-in-None
returns-in-None c = λ lists h.
    inside_none c.args.begun.now lists c.args.edit.now c.offset-at.result h c.offset-at.ensures
    (λ q le. (c.range.ensures.in_range tt).5 c.in-None.ensures.steps.0 q (le, tt))
