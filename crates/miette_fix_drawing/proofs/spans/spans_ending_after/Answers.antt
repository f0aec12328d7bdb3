use Rattle.std.proofs.Common.{◌∙◌, ap, List, subst, sym}
use Rattle.std.specs.List.{list_any}
use Rattle.std.proofs.lemmas.List.{take_rest}
use Rattle.miette_protocol.specs.rules.Reading.{Span}
use Rattle.miette_fix_rows.specs.rules.DiffTexts.{holds_byte}
use Rattle.miette_fix_drawing.specs.steps.Spans.{AreApart}
use Rattle.miette_fix_drawing.proofs.Apart.{any_at, apart_drop, ended, none_at}
use Rattle.miette_fix_drawing.proofs.spans.spans_ending_after.Goals as goal

pub loop-i-preserved : goal.loop-i-preserved
loop-i-preserved c = λ cell le.
    any_at (holds_byte cell) c.args.spans.now c.loop-i.i c.index-spans-i.result c.loop-i-test.true
    (ap (holds_byte cell) (sym c.index-spans-i.is)
    ∙ ended cell c.index-spans-i.result c.args.offset (sym c.ends_by.ensures ∙ c.if-not-ends_by.false) le) ∙
    c.loop-i.invariant cell le

pub returns-then-not-ends_by-clause-apart : goal.returns-then-not-ends_by-clause-apart
returns-then-not-ends_by-clause-apart c =
    subst (λ (ss : List Span). AreApart ss) (sym (take_rest c.args.spans.now c.loop-i.i))
    (apart_drop c.loop-i.i c.args.spans.now c.requires)

pub returns-then-not-ends_by-clause-same : goal.returns-then-not-ends_by-clause-same
returns-then-not-ends_by-clause-same c = λ cell le.
    ap (list_any (holds_byte cell)) (take_rest c.args.spans.now c.loop-i.i) ∙ c.loop-i.invariant cell le

pub returns-clause-same : goal.returns-clause-same
returns-clause-same c = λ cell le.
    sym (none_at (holds_byte cell) c.args.spans.now c.loop-i.i c.loop-i-test.false) ∙ c.loop-i.invariant cell le
