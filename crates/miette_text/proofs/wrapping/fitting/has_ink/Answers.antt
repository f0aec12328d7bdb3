use Rattle.std.proofs.Common.{◌∙◌, arith, chars, length, sym}
use Rattle.std.proofs.lemmas.Iterator.{YieldsList-from_chars}
use Rattle.std.proofs.lemmas.Iterator.Consumers.{YieldsList-turn, YieldsList-end}
use Rattle.std.proofs.lemmas.List.{length_push}
use Rattle.miette_text.proofs.Fitting.{end-white, ink_at, white_at}
use Rattle.miette_text.proofs.wrapping.fitting.has_ink.Goals as goal

pub returns-then-not-is_whitespace : goal.returns-then-not-is_whitespace
returns-then-not-is_whitespace c =
    let x = c.in-Some.c in
    let t = YieldsList-turn (YieldsList-from_chars c.args.text.now c.utf8.text cc) c.loop-c.yielded _
    c.loop-c.yielded_by _ _ x c.in-Some.is c.next.ensures.steps in
    sym (c.loop-c.invariant ∙ ink_at (chars c.args.text.now) (length c.loop-c.yielded) x t
    (sym c.is_whitespace.ensures ∙ c.if-not-is_whitespace.true))

pub loop-c-preserved : goal.loop-c-preserved
loop-c-preserved c =
    let x = c.in-Some.c in
    let t = YieldsList-turn (YieldsList-from_chars c.args.text.now c.utf8.text cc) c.loop-c.yielded _
    c.loop-c.yielded_by _ _ x c.in-Some.is c.next.ensures.steps in
    c.loop-c.invariant
    ∙ white_at (chars c.args.text.now) (length c.loop-c.yielded) x _ t
    (sym c.is_whitespace.ensures ∙ c.if-not-is_whitespace.false) (length_push c.loop-c.yielded x)

pub returns : goal.returns
returns c =
    let end = YieldsList-end (YieldsList-from_chars c.args.text.now c.utf8.text cc) c.loop-c.yielded _
    c.loop-c.yielded_by _ _ c.in-None.is c.next.ensures.steps in
    sym (c.loop-c.invariant ∙ end-white (chars c.args.text.now) (length c.loop-c.yielded) (omega (arith, end.1)))
