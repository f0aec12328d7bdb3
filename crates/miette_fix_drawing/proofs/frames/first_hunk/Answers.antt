use Rattle.std.proofs.Common.{ap, ◌∙◌, ◌++◌, ◌-◌, length, drop, take}
use Rattle.miette_fix_rows.specs.rules.Blocks.{line_texts}
use Rattle.miette_fix_rows.specs.rules.DiffFrames.{changed_lines, kept_lines, left_before}
use Rattle.miette_fix_drawing.specs.views.Hunks.{hunk_of}
use Rattle.miette_fix_drawing.specs.views.ShownLines.{lines_of_segments}
use Rattle.miette_fix_drawing.proofs.Framing.{front_texts, rest_texts}
use Rattle.miette_fix_drawing.proofs.frames.first_hunk.Goals as goal

pub returns-clause-at : goal.returns-clause-at
returns-clause-at g c =
    let bytes = c.args.hunk.now.kept.now in
    let n = c.last_lines_start-left.result in
    let k = left_before c.args.drawing.now.settings.layout.now.context_lines (hunk_of c.args.hunk.now) in
    c.in_ok-from.ensures (take k (line_texts bytes))
    (c.count_lines-lines_left.ensures.count ∙ ap length (front_texts bytes n k c.last_lines_start-left.ensures.size))
    c.last_lines_start-left.ensures.size

pub returns-clause-lines : goal.returns-clause-lines
returns-clause-lines g c =
    let bytes = c.args.hunk.now.kept.now in
    let changed = changed_lines c.args.hunk.now.changes.now in
    let n = c.last_lines_start-left.result in
    let k = left_before c.args.drawing.now.settings.layout.now.context_lines (hunk_of c.args.hunk.now) in
    c.in_ok-push_hunk.ensures
    ∙ ap (λ items. lines_of_segments items ++
    (kept_lines (line_texts (take (length bytes - n) (drop n bytes))) ++ changed))
    c.new-lines.ensures.items
    ∙ ap (λ ls. kept_lines ls ++ changed) (rest_texts bytes n k c.last_lines_start-left.ensures.size)
