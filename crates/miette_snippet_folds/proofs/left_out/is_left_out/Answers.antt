use Rattle.std.proofs.Common.{◌≡◌, ◌&&◌, ◌∙◌, true, false, List, ap, map, sym}
use Rattle.miette_lines.specs.views.Walking.{line_of_text}
use Rattle.miette_snippet_rules.specs.rules.FoldedLabels.{LabelExtent, is_beside_hidden, is_hidden}
use Rattle.miette_snippet_folds.specs.views.ExtentIndex.{extent_view}
use Rattle.miette_snippet_folds.specs.views.LeftOut.{lines_of_bytes}
use Rattle.miette_snippet_folds.proofs.left_out.is_left_out.Goals as goal

pub returns-then-is_hidden : goal.returns-then-is_hidden
returns-then-is_hidden c = λ labels among before.
    let it = c.args.lines.now in
    let label_extents : List LabelExtent = map extent_view labels in
    let own : is_hidden c.args.limit (lines_of_bytes it) (map extent_view labels) c.args.place (line_of_text c.args.line.now) ≡ true
    =
    sym (c.is_hidden.ensures it.start it.bytes.now labels among) ∙ c.if-is_hidden.true in
    c.is_beside_hidden.ensures labels among before own
    ∙ sym (ap (λ b. b && is_beside_hidden c.args.limit (lines_of_bytes it) label_extents c.args.place) own)

pub returns : goal.returns
returns c = λ labels among before.
    let it = c.args.lines.now in
    let label_extents : List LabelExtent = map extent_view labels in
    let own : is_hidden c.args.limit (lines_of_bytes it) (map extent_view labels) c.args.place (line_of_text c.args.line.now) ≡
    false =
    sym (c.is_hidden.ensures it.start it.bytes.now labels among) ∙ c.if-is_hidden.false in
    sym (ap (λ b. b && is_beside_hidden c.args.limit (lines_of_bytes it) label_extents c.args.place) own)
