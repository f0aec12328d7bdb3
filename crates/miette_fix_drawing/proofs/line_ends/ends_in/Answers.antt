use Rattle.std.proofs.Common.{ℕ, ◌+◌, ◌++◌, ◌<◌, ◌∙◌, [], List, cond, ap, length, refl, subst}
use Rattle.std.specs.List.{filter}
use Rattle.std.proofs.lemmas.List.{at_drop_all}
use Rattle.miette_protocol.specs.rules.Reading.{Span}
use Rattle.miette_fix_rows.specs.rules.DiffTexts.{is_on}
use Rattle.miette_fix_drawing.specs.steps.Ends.{all_ends, span_ends}
use Rattle.miette_fix_drawing.proofs.Apart.{nothing_after, on_before}
use Rattle.miette_fix_drawing.proofs.LineEnds.{ends_end, ends_more}
use Rattle.miette_fix_drawing.proofs.line_ends.ends_in.Goals as goal

pub loop-span-preserved : goal.loop-span-preserved
loop-span-preserved c =
    let start : ℕ = c.args.line.now.start in
    let line : List ℕ = c.args.line.now.text.now in
    ends_more c.args.columns.now start (length line) (is_on start line) c.args.line.now.spans.now
    c.loop-span.span-index c.span-item.result c.loop-span.ends.items c.push_ends_on.new.ends.items _
    c.loop-span-test.true
    (c.in_ok-push_ends_on.ensures ∙ ap (λ (s : Span). c.loop-span.ends.items
    ++ cond (is_on start line s) (span_ends c.args.columns.now start (length line) s) []) c.span-item.is)
    c.loop-span.invariant

pub returns-then-end-offset : goal.returns-then-end-offset
returns-then-end-offset c =
    let start : ℕ = c.args.line.now.start in
    let line : List ℕ = c.args.line.now.text.now in
    let own : List Span → List ℕ = λ ss. all_ends c.args.columns.now start (length line) (filter (is_on start line) ss)
    in
    ends_end c.loop-span.ends.items _ _
    (nothing_after own (start + length line) refl
    (λ s ss lt. ap (all_ends c.args.columns.now start (length line)) (on_before start line s ss lt))
    c.args.line.now.spans.now c.loop-span.span-index c.span-item.result c.requires.apart c.loop-span-test.true
    (subst (λ (n : ℕ). start + length line < n) (c.offset.ensures ∙ ap (λ (s : Span). s.offset) c.span-item.is)
    c.if-end-offset.true))
    c.loop-span.invariant

pub returns : goal.returns
returns c =
    let start : ℕ = c.args.line.now.start in
    let line : List ℕ = c.args.line.now.text.now in
    ends_end c.loop-span.ends.items _ _
    (at_drop_all (λ ss. all_ends c.args.columns.now start (length line) (filter (is_on start line) ss))
    c.args.line.now.spans.now c.loop-span.span-index c.loop-span-test.false) c.loop-span.invariant
