use Rattle.std.proofs.Common.{ℕ, ◌≤◌, ◌∙◌, ap, subst, sym}
use Rattle.miette_protocol.specs.rules.Reading.{Span}
use Rattle.miette_columns.specs.views.Walking.{cell_of}
use Rattle.miette_fix_drawing.proofs.Apart.{after_at}
use Rattle.miette_fix_drawing.proofs.spans.some_holds_byte.Goals as goal

pub returns-then-cell-offset : goal.returns-then-cell-offset
returns-then-cell-offset c =
    sym (sym c.loop-span.invariant ∙ after_at (cell_of c.args.cell.now) c.args.spans.now c.loop-span.span-index
    c.span-item.result c.requires c.loop-span-test.true
    (subst (λ (n : ℕ). c.args.cell.now.after ≤ n) (c.offset.ensures ∙ ap (λ (s : Span). s.offset) c.span-item.is)
    c.if-cell-offset.true))
