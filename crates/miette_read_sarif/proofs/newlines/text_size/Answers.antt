use Rattle.std.proofs.Common.{◌≡◌, ◌<◌, ◌∙◌, ap, arith, drop, subst, sym}
use Rattle.std.proofs.lemmas.List.{drop_all}
use Rattle.miette_read.specs.views.Values.{texts}
use Rattle.miette_read_sarif.specs.rules.Newlines.{end_size, text_size}
use Rattle.miette_read_sarif.proofs.NewlineSteps.{text_goes_on, text_stops}
use Rattle.miette_read_sarif.proofs.newlines.text_size.Goals as goal

pub returns-then-next-bytes-clause-value : goal.returns-then-next-bytes-clause-value
returns-then-next-bytes-clause-value c =
    let l = c.loop-at in
    let newlines = texts c.args.ends.now.newlines.items in
    let next = c.next_begin-next in
    let none : text_size newlines (drop next.result c.args.bytes.now) ≡ 0 =
    ap (text_size newlines) (drop_all next.result c.args.bytes.now (omega (arith, c.if-next-bytes.true)))
    in
    omega (arith, l.invariant.same, next.ensures.value, next.ensures.order, none)

pub returns-else-end-eq0-clause-value : goal.returns-else-end-eq0-clause-value
returns-else-end-eq0-clause-value c =
    let l = c.loop-at in
    let newlines = texts c.args.ends.now.newlines.items in
    let next = c.next_begin-next in
    let here = drop next.result c.args.bytes.now in
    let is = c.end_size-end.ensures.value ∙ ap (end_size newlines) c.rest_from.ensures in
    let ends : 0 < end_size newlines here = subst (λ n. 0 < n) is (omega (arith, c.if-end-eq0.false)) in
    let none : text_size newlines here ≡ 0 = text_stops newlines here ends in
    omega (arith, l.invariant.same, next.ensures.value, next.ensures.order, none)

pub loop-at-preserved : goal.loop-at-preserved
loop-at-preserved c =
    let l = c.loop-at in
    let newlines = texts c.args.ends.now.newlines.items in
    let next = c.next_begin-next in
    let none : end_size newlines (drop next.result c.args.bytes.now) ≡ 0 =
    sym (c.end_size-end.ensures.value ∙ ap (end_size newlines) c.rest_from.ensures) ∙ c.if-end-eq0.true
    in
    let more = text_goes_on newlines c.args.bytes.now next.result (omega (arith, c.if-next-bytes.false)) none in
    record {
      within = omega (arith, c.if-next-bytes.false);
      same = omega (arith, l.invariant.same, next.ensures.value, next.ensures.order, more);
    }

pub returns-clause-value : goal.returns-clause-value
returns-clause-value c =
    let l = c.loop-at in
    let newlines = texts c.args.ends.now.newlines.items in
    let none : text_size newlines (drop l.at c.args.bytes.now) ≡ 0 =
    ap (text_size newlines) (drop_all l.at c.args.bytes.now c.loop-at-test.false)
    in
    omega (arith, l.invariant.same, none)
