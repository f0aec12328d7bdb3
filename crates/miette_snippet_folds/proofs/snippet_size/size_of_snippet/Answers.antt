use Rattle.std.proofs.Common.{◌≡◌, ◌+◌, ◌≤◌, ◌<◌, ◌∙◌, ℕ, length, arith, refl, sym, ap, subst, rules}
use Rattle.miette_lines.specs.views.Walking.{line_of_text}
use Rattle.miette_labels.specs.views.Sweeping.{IsAt}
use Rattle.miette_labels.proofs.Swept.{left_at}
use Rattle.miette_snippet_folds.specs.declared.folds.LineStart.{LineStart}
use Rattle.miette_snippet_folds.specs.steps.Counting.{begins_before, next_counted, some_go_on}
use Rattle.miette_snippet_folds.proofs.Starts.{begins_few}
use Rattle.miette_snippet_folds.proofs.LineExtent.{counted_first, counted_more, counted_rest, all_counted}
use Rattle.miette_snippet_folds.proofs.snippet_size.size_of_snippet.Goals.{then-counts_rest, else-counts_rest}
use Rattle.miette_snippet_folds.proofs.snippet_size.size_of_snippet.Goals as goal

pub loop-at-init : goal.loop-at-init
loop-at-init c = counted_first c.args.labels.now c.args.start c.args.bytes.now c.args.sweep.now.next
    c.args.sweep.now.running.items c.requires.at

pub enter-requires-clause-at : goal.enter-requires-clause-at
enter-requires-clause-at c =
    subst (λ (n : ℕ). IsAt c.args.labels.now n c.loop-at.sweep.next c.loop-at.sweep.running.items)
    (sym c.line_at-line.ensures.from) c.loop-at.invariant.state

pub next_counted-next-requires : goal.next_counted-next-requires
next_counted-next-requires c =
    let few : c.args.start + c.loop-at.place ≤ c.args.start + c.loop-at.at =
    begins_few c.args.start c.args.bytes.now (c.args.start + c.loop-at.at) c.loop-at.place c.loop-at.invariant.begun
    in
    omega (arith, few, c.loop-at-test.true, c.requires.small)

pub skip_lines-requires-clause-at : goal.skip_lines-requires-clause-at
skip_lines-requires-clause-at c =
    rw c.leave.ensures.next
    (left_at c.args.labels.now (line_of_text c.line_at-line.result)
    c.enter.new.self.next c.enter.new.self.running.items c.leave.new.self.running.items
    c.requires.sorted c.line_at-line.ensures.some c.in_ok-enter.ensures.on c.leave.ensures.running)

pub counted_end-next-requires-clause-place : goal.counted_end-next-requires-clause-place
counted_end-next-requires-clause-place c =
    let few : c.args.start + c.loop-at.place ≤ c.args.start + c.loop-at.at =
    begins_few c.args.start c.args.bytes.now (c.args.start + c.loop-at.at) c.loop-at.place c.loop-at.invariant.begun
    in
    omega (arith, few, c.line_at-line.ensures.from, c.line_at-line.ensures.some)

pub loop-at-preserved : goal.loop-at-preserved
loop-at-preserved c =
    let from : c.line_at-line.result.start ≡ c.args.start + c.loop-at.at = c.line_at-line.ensures.from in
    let some : c.line_at-line.result.start < c.line_at-line.result.end = c.line_at-line.ensures.some in
    elim c.if-counts_rest.branch [
      | then-counts_rest w ↦
          counted_rest c.args.labels.now c.args.start c.args.bytes.now c.loop-at.at c.loop-at.place c.loop-at.most _
          c.loop-at.sweep.next c.skip_lines.new.sweep.next
          c.loop-at.sweep.running.items c.enter.new.self.running.items c.skip_lines.new.sweep.running.items
          c.line_at-line.result c.enter.new.self.next c.if-counts_rest.next
          c.requires.sorted c.loop-at.invariant c.line_at-line.ensures.parted (omega (arith, from, some)) some
          c.line_at-line.ensures.to c.in_ok-enter.ensures.on (search rules)
          (ap (λ n. begins_before c.args.labels.now n (c.args.start + length c.args.bytes.now))
          (sym c.leave.ensures.next) ∙ w.if-counts_rest.ensures refl)
          (ap (λ (x : LineStart). x.offset) w.next-is ∙ w.counted_end-next.ensures.offset)
          (ap (λ (x : LineStart). x.place) w.next-is ∙ w.counted_end-next.ensures.place)
          c.in_ok-skip_lines.ensures
      | else-counts_rest w ↦
          counted_more c.args.labels.now c.args.start c.args.bytes.now c.args.folds.now c.loop-at.at c.loop-at.place
          c.loop-at.most _ c.loop-at.sweep.next c.skip_lines.new.sweep.next
          c.loop-at.sweep.running.items c.enter.new.self.running.items c.skip_lines.new.sweep.running.items
          c.line_at-line.result c.enter.new.self.next (some_go_on c.leave.new.self.running.items)
          c.if-counts_rest.next
          c.requires.sorted c.requires.folds c.loop-at.invariant c.line_at-line.ensures.parted
          (omega (arith, from, some)) some c.line_at-line.ensures.to c.in_ok-enter.ensures.on (search rules)
          (w.next-is ∙ w.next_counted-next.ensures ∙ ap (λ n. next_counted c.args.labels.now n
          (some_go_on c.leave.new.self.running.items) c.args.folds.now c.loop-at.place
          (line_of_text c.line_at-line.result))
          c.leave.ensures.next)
          c.in_ok-skip_lines.ensures
    ]

pub returns-clause-lines : goal.returns-clause-lines
returns-clause-lines c = (all_counted c.args.labels.now c.args.start c.args.bytes.now c.loop-at.at c.loop-at.place
    c.loop-at.most c.loop-at.sweep.next c.loop-at.sweep.running.items c.loop-at.invariant c.loop-at-test.false).0

pub returns-clause-most : goal.returns-clause-most
returns-clause-most c = (all_counted c.args.labels.now c.args.start c.args.bytes.now c.loop-at.at c.loop-at.place
    c.loop-at.most c.loop-at.sweep.next c.loop-at.sweep.running.items c.loop-at.invariant c.loop-at-test.false).1
