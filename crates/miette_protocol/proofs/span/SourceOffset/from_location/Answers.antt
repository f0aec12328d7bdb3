-- Each turn of the walk goes one character further, and stops at the first that reaches what is asked for.
use Rattle.std.proofs.Common.{arith, sym, ◌∙◌}
use Rattle.std.proofs.lemmas.Iterator.{YieldsList-from_chars}
use Rattle.std.proofs.lemmas.Iterator.Consumers.{YieldsList-so_far, YieldsList-turn, YieldsList-end}
use Rattle.miette_protocol.proofs.Locations.{so_far, room, short, line_break, column_break, line_on, column_on}
use Rattle.miette_protocol.proofs.Locations.{encoded_more, missed, none_more, found}
use Rattle.miette_protocol.proofs.span.SourceOffset.from_location.Goals as goal

pub overflow_add-at : goal.overflow_add-at
overflow_add-at c =
    let road = YieldsList-from_chars c.args.source.now c.utf8.source cc in
    let so = so_far _ _ (YieldsList-so_far road c.loop-c.yielded _ c.loop-c.yielded_by) in
    let at = YieldsList-turn road c.loop-c.yielded _ c.loop-c.yielded_by _ _ c.in-Some.c c.in-Some.is
    c.next.ensures.steps in
    omega (
      arith,
      room c.args.source.now c.loop-c.yielded c.in-Some.c c.utf8.source so at,
      c.loop-c.invariant.2,
      c.len_utf8-at.ensures.len,
    )

pub overflow_add-column_at : goal.overflow_add-column_at
overflow_add-column_at c =
    let road = YieldsList-from_chars c.args.source.now c.utf8.source cc in
    let at = YieldsList-turn road c.loop-c.yielded _ c.loop-c.yielded_by _ _ c.in-Some.c c.in-Some.is
    c.next.ensures.steps in
    let r = short c.args.source.now c.loop-c.yielded c.utf8.source at.0 in
    omega (arith, r.0, c.loop-c.invariant.1)

pub loop-c-preserved-then-c-eq10 : goal.loop-c-preserved-then-c-eq10
loop-c-preserved-then-c-eq10 c =
    let road = YieldsList-from_chars c.args.source.now c.utf8.source cc in
    let so = so_far _ _ (YieldsList-so_far road c.loop-c.yielded _ c.loop-c.yielded_by) in
    let was = c.loop-c.invariant in (
      omega (arith, was.0, line_break c.loop-c.yielded c.in-Some.c c.if-c-eq10.true),
      sym (column_break c.loop-c.yielded c.in-Some.c c.if-c-eq10.true),
      omega (arith, was.2, encoded_more c.loop-c.yielded c.in-Some.c, c.len_utf8-at.ensures.len),
      none_more _ c.loop-c.yielded _ _ c.in-Some.c so was.3
          (missed c.loop-c.yielded _ _ _ _ was.0 was.1 c.else-line-line_at.either),
    )

pub loop-c-preserved : goal.loop-c-preserved
loop-c-preserved c =
    let road = YieldsList-from_chars c.args.source.now c.utf8.source cc in
    let so = so_far _ _ (YieldsList-so_far road c.loop-c.yielded _ c.loop-c.yielded_by) in
    let was = c.loop-c.invariant in (
      was.0 ∙ sym (line_on c.loop-c.yielded c.in-Some.c c.if-c-eq10.false),
      omega (arith, was.1, column_on c.loop-c.yielded c.in-Some.c c.if-c-eq10.false),
      omega (arith, was.2, encoded_more c.loop-c.yielded c.in-Some.c, c.len_utf8-at.ensures.len),
      none_more _ c.loop-c.yielded _ _ c.in-Some.c so was.3
          (missed c.loop-c.yielded _ _ _ _ was.0 was.1 c.else-line-line_at.either),
    )

pub returns : goal.returns
returns c =
    let road = YieldsList-from_chars c.args.source.now c.utf8.source cc in
    let so = so_far _ _ (YieldsList-so_far road c.loop-c.yielded _ c.loop-c.yielded_by) in
    let end = YieldsList-end road c.loop-c.yielded _ c.loop-c.yielded_by _ _ c.in-None.is c.next.ensures.steps in
    let was = c.loop-c.invariant in
    found _ c.loop-c.yielded _ _ _ so (omega (arith, end.1)) was.3 (λ h. absurd (omega (arith, end.1, h))) was.2

pub returns-then-column-column_at : goal.returns-then-column-column_at
returns-then-column-column_at c =
    let road = YieldsList-from_chars c.args.source.now c.utf8.source cc in
    let so = so_far _ _ (YieldsList-so_far road c.loop-c.yielded _ c.loop-c.yielded_by) in
    let at = YieldsList-turn road c.loop-c.yielded _ c.loop-c.yielded_by _ _ c.in-Some.c c.in-Some.is
    c.next.ensures.steps in
    let was = c.loop-c.invariant in
    found _ c.loop-c.yielded _ _ _ so (omega (arith, at.0)) was.3
    (λ h. (omega (arith, was.0, c.if-line-line_at.true), omega (arith, was.1, c.if-column-column_at.true))) was.2
