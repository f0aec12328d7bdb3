use Rattle.std.proofs.Common.{◌∙◌, ◌+◌, None, Some, ap, arith, chars, length, refl, sym}
use Rattle.std.proofs.lemmas.Iterator.{YieldsList-from_chars}
use Rattle.std.proofs.lemmas.Iterator.Consumers.{YieldsList-turn, YieldsList-end}
use Rattle.std.proofs.lemmas.List.{length_push}
use Rattle.miette_text.proofs.PassedLines.{is_outside, passed-end, passed-next, not-outside}
use Rattle.miette_text.proofs.wrapping.blank_lines.walk_passes.Goals as goal

pub returns-in_default : goal.returns-in_default
returns-in_default c =
    let x = c.in-Some.c in
    let t = YieldsList-turn (YieldsList-from_chars c.args.text.now c.utf8.text cc) c.loop-c.yielded _
    c.loop-c.yielded_by _ _ x c.in-Some.is c.next.ensures.steps in
    let n = length c.loop-c.yielded in
    sym (c.loop-c.invariant ∙ passed-next c.loop-c.place c.args.blanks (chars c.args.text.now) n x (n + 1) None t
    c.in_default.ensures refl)

pub loop-c-preserved : goal.loop-c-preserved
loop-c-preserved c =
    let x = c.in-Some.c in
    let t = YieldsList-turn (YieldsList-from_chars c.args.text.now c.utf8.text cc) c.loop-c.yielded _
    c.loop-c.yielded_by _ _ x c.in-Some.is c.next.ensures.steps in
    c.loop-c.invariant
    ∙ passed-next c.loop-c.place c.args.blanks (chars c.args.text.now) (length c.loop-c.yielded) x _
    (Some c.in-Some-next_place.next) t c.in-Some-next_place.ensures (length_push c.loop-c.yielded x)

pub returns-in-Outside : goal.returns-in-Outside
returns-in-Outside c =
    let end = YieldsList-end (YieldsList-from_chars c.args.text.now c.utf8.text cc) c.loop-c.yielded _
    c.loop-c.yielded_by _ _ c.in-None.is c.next.ensures.steps in
    sym (c.loop-c.invariant ∙ passed-end c.loop-c.place c.args.blanks (chars c.args.text.now)
    (length c.loop-c.yielded) (omega (arith, end.1)) ∙ ap is_outside c.in-Outside.is)

pub returns-in_default-matches : goal.returns-in_default-matches
returns-in_default-matches c =
    let end = YieldsList-end (YieldsList-from_chars c.args.text.now c.utf8.text cc) c.loop-c.yielded _
    c.loop-c.yielded_by _ _ c.in-None.is c.next.ensures.steps in
    sym (c.loop-c.invariant ∙ passed-end c.loop-c.place c.args.blanks (chars c.args.text.now)
    (length c.loop-c.yielded) (omega (arith, end.1)) ∙ not-outside c.loop-c.place c.in_default-matches.not-Outside)
