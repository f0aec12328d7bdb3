use Rattle.std.proofs.Common.{ap, ◌∙◌}
use Rattle.miette_snippet_folds.proofs.LineNumbers.{label_lines}
use Rattle.miette_snippet_folds.proofs.label_extents.label_extent.Goals as goal

pub returns-clause-lines : goal.returns-clause-lines
returns-clause-lines c = λ source h.
    label_lines c.args.context source c.args.labels.now c.args.read.now _ h
    c.offset-first.ensures c.in_ok-last.ensures (c.offset.ensures ∙ ap (λ s. s.offset) c.span.ensures)
    c.in_ok-line_from_front.ensures c.in_ok-line_from_back.ensures c.line.ensures
