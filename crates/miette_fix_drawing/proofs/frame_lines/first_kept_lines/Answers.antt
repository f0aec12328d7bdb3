use Rattle.std.proofs.Common.{ap, ◌∙◌}
use Rattle.miette_fix_rows.specs.rules.DiffFrames.{kept_lines}
use Rattle.miette_fix_drawing.proofs.Framing.{front_texts}
use Rattle.miette_fix_drawing.proofs.frame_lines.first_kept_lines.Goals as goal

pub returns : goal.returns
returns c =
    c.kept.ensures
    ∙ ap kept_lines (front_texts c.args.lines.now c.len_of_first_lines.result c.args.context
    c.len_of_first_lines.ensures.size)
