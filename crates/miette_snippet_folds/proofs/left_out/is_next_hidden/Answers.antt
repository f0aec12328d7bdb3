use Rattle.std.proofs.Common.{◌+◌, ◌∙◌, ap, map, sym}
use Rattle.miette_lines.specs.views.Walking.{line_of_text}
use Rattle.miette_snippet_rules.specs.rules.FoldedLabels.{is_hidden}
use Rattle.miette_snippet_folds.specs.views.ExtentIndex.{extent_view}
use Rattle.miette_snippet_folds.specs.views.LeftOut.{lines_of_bytes}
use Rattle.miette_snippet_rules.proofs.NeverHidden.{none_hidden}
use Rattle.miette_snippet_folds.proofs.HiddenLines.{next_is, none_is}
use Rattle.miette_snippet_folds.proofs.left_out.is_next_hidden.Goals as goal

pub returns-then-after-lines : goal.returns-then-after-lines
returns-then-after-lines c = λ labels among.
    let it = c.args.lines.now in
    c.is_hidden.ensures it.start it.bytes.now labels among
    ∙ ap (is_hidden c.args.limit (lines_of_bytes it) (map extent_view labels) (c.args.place + 1))
    (sym (next_is it.start it.bytes.now c.args.place (line_of_text c.args.line.now) (line_of_text c.line_at-next.result) _
    c.requires.low c.requires.there c.line_at-next.ensures.parted))

pub returns : goal.returns
returns c = λ labels among.
    let it = c.args.lines.now in
    sym (ap (is_hidden c.args.limit (lines_of_bytes it) (map extent_view labels) (c.args.place + 1))
    (none_is it.start it.bytes.now c.args.place (line_of_text c.args.line.now) c.if-after-lines.false c.requires.there)
    ∙ none_hidden c.args.limit (lines_of_bytes it) (map extent_view labels) (c.args.place + 1))
