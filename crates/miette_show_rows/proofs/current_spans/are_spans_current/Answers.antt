use Rattle.std.proofs.Common.{◌≡◌, Bor, false, sym, rules}
use Rattle.serde_json.specs.View.{view}
use Rattle.serde_json.specs.declared.value.Value.{Value}
use Rattle.miette_read.proofs.Steps.{all_more, not_all}
use Rattle.miette_show_rows.specs.rules.CurrentSpans.{is_span_current}
use Rattle.miette_show_rows.proofs.current_spans.are_spans_current.Goals as goal

pub loop-span-preserved : goal.loop-span-preserved
loop-span-preserved g c =
    let l = c.loop-span in
    all_more (λ (v : Bor Value). view v.now) c.args.spans.now l.span-index c.span-item.result c.loop-span-test.true
    c.span-item.is (is_span_current (g.F.Files.found c.args.files.now)) l.invariant (search rules)

pub returns-then-not-branch : goal.returns-then-not-branch
returns-then-not-branch g c =
    let fresh = is_span_current (g.F.Files.found c.args.files.now) in
    let not : fresh (view c.span-item.result.now) ≡ false = search rules in
    sym (not_all (λ (v : Bor Value). view v.now) fresh c.args.spans.now c.loop-span.span-index c.span-item.result
    c.loop-span-test.true c.span-item.is not)
