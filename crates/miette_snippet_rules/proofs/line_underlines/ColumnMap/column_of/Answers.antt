use Rattle.std.proofs.Common.{◌≡◌, ◌<◌, ◌≤◌, ◌+◌, ◌-◌, ◌∙◌, [], MatchOption, ap, subst, arith}
use Rattle.std.specs.Result.{IfOk}
use Rattle.miette_snippet_rules.specs.declared.line_underlines.ColumnStop.{ColumnStop}
use Rattle.miette_snippet_rules.specs.steps.ColumnStops.{column_in}
use Rattle.miette_snippet_rules.proofs.StopColumns.{after_plain, at_end, in_plain, plain_end, plain_in}
use Rattle.miette_snippet_rules.proofs.line_underlines.ColumnMap.column_of.Goals as goal

pub returns-then-at-self : goal.returns-then-at-self
returns-then-at-self c =
    let r = c.args.rounding in
    let same : c.saturating_sub-at.result ≡ 0 + (c.args.offset - c.self.inside.start) =
    omega (arith, c.saturating_sub-at.ensures) in
    same
    ∙ plain_in r c.self.inside.start 0 c.self.inside.plain.now c.self.inside.whole c.self.inside.text_end
    c.self.inside.width c.args.offset (omega arith)
    ∙ ap (λ t. column_in r t.cells t.text_end t.width c.args.offset) c.self.view_is

pub returns-in-Some : goal.returns-in-Some
returns-in-Some c =
    let r = c.args.rounding in
    let stop : ColumnStop = c.stop_to-stop.result in
    let past : stop.plain.many ≤ c.args.offset - stop.plain.start =
    omega (arith, c.saturating_sub-away.ensures, c.if-away-stop.false) in
    let met : c.in-Some.column ≡ column_in r stop.walk c.self.inside.text_end c.self.inside.width c.args.offset =
    subst (λ found. MatchOption found (column_in r [] c.self.inside.text_end c.self.inside.width c.args.offset
    ≡ column_in r stop.walk c.self.inside.text_end c.self.inside.width c.args.offset)
    (λ column. column ≡ column_in r stop.walk c.self.inside.text_end c.self.inside.width c.args.offset))
    c.in-Some.is (c.in_ok-column.ensures c.self.inside.text_end c.self.inside.width) in
    met
    ∙ after_plain r stop c.self.inside.text_end c.self.inside.width c.args.offset past
    ∙ c.stop_to-stop.ensures r c.self.inside.text_end c.self.inside.width
    ∙ plain_end r c.self.inside.start 0 c.self.inside.plain.now c.self.inside.whole c.self.inside.text_end
    c.self.inside.width c.args.offset (omega arith)
    ∙ ap (λ t. column_in r t.cells t.text_end t.width c.args.offset) c.self.view_is

pub returns-in-None : goal.returns-in-None
returns-in-None c =
    let r = c.args.rounding in
    let stop : ColumnStop = c.stop_to-stop.result in
    let its = c.args.self.now in
    let past : stop.plain.many ≤ c.args.offset - stop.plain.start =
    omega (arith, c.saturating_sub-away.ensures, c.if-away-stop.false) in
    let end : column_in r [] its.text_end its.width c.args.offset
    ≡ column_in r stop.walk its.text_end its.width c.args.offset =
    subst (λ found. MatchOption found (column_in r [] its.text_end its.width c.args.offset
    ≡ column_in r stop.walk its.text_end its.width c.args.offset)
    (λ column. column ≡ column_in r stop.walk its.text_end its.width c.args.offset))
    c.in-None.is (c.in_ok-column.ensures its.text_end its.width) in
    subst (λ n. IfOk c.column_at_end.result (λ column. column ≡ n))
    (at_end r its.text_end its.width c.args.offset
    ∙ end
    ∙ after_plain r stop its.text_end its.width c.args.offset past
    ∙ c.stop_to-stop.ensures r its.text_end its.width
    ∙ plain_end r c.self.inside.start 0 c.self.inside.plain.now c.self.inside.whole its.text_end its.width c.args.offset
    (omega arith)
    ∙ ap (λ t. column_in r t.cells its.text_end its.width c.args.offset) c.self.view_is)
    c.column_at_end.ensures

pub returns-then-away-stop : goal.returns-then-away-stop
returns-then-away-stop c =
    let r = c.args.rounding in
    let stop : ColumnStop = c.stop_to-stop.result in
    let lt : c.args.offset - stop.plain.start < stop.plain.many =
    omega (arith, c.saturating_sub-away.ensures, c.if-away-stop.true) in
    subst (λ n. IfOk c.sum.result (λ column. column ≡ n))
    (ap (λ k. stop.plain.from + k) c.saturating_sub-away.ensures
    ∙ in_plain r stop c.self.inside.text_end c.self.inside.width c.args.offset lt
    ∙ c.stop_to-stop.ensures r c.self.inside.text_end c.self.inside.width
    ∙ plain_end r c.self.inside.start 0 c.self.inside.plain.now c.self.inside.whole c.self.inside.text_end
    c.self.inside.width c.args.offset (omega arith)
    ∙ ap (λ t. column_in r t.cells t.text_end t.width c.args.offset) c.self.view_is)
    c.sum.ensures
