use Rattle.std.proofs.Common.{map}
use Rattle.miette_lines.specs.views.Walking.{line_of_text}
use Rattle.miette_snippet_folds.specs.views.ExtentIndex.{extent_view}
use Rattle.miette_snippet_folds.specs.views.LeftOut.{lines_of_bytes}
use Rattle.miette_snippet_folds.proofs.HiddenLines.{beside_after, beside_before}
use Rattle.miette_snippet_folds.proofs.left_out.is_beside_hidden.Goals as goal

pub returns-then-gap : goal.returns-then-gap
returns-then-gap c = λ labels among before own.
    let it = c.args.lines.now in
    beside_before c.args.limit (lines_of_bytes it) _ (map extent_view labels) c.args.place (line_of_text c.args.line.now) c.args.gap
    c.requires.there before own c.if-gap.true

pub returns : goal.returns
returns c = λ labels among before own.
    let it = c.args.lines.now in
    beside_after c.args.limit (lines_of_bytes it) _ (map extent_view labels) c.args.place (line_of_text c.args.line.now) c.args.gap
    c.is_next_hidden.result c.requires.there before own c.if-gap.false (c.is_next_hidden.ensures labels among)
