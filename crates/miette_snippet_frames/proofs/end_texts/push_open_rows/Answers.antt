use Rattle.std.proofs.Common.{◌∙◌, ap}
use Rattle.std.specs.Prelude.{chars}
use Rattle.std.specs.Option.{option_copied}
use Rattle.miette_labels.specs.rules.Labels.{parts_of}
use Rattle.miette_labels.specs.views.ProgramLabels.{drawn_of}
use Rattle.miette_snippet_frames.specs.views.LineContexts.{open_line}
use Rattle.miette_snippet_frames.proofs.TextRows.{part_more}
use Rattle.miette_snippet_frames.proofs.end_texts.push_open_rows.Goals as goal

pub loop-left-preserved : goal.loop-left-preserved
loop-left-preserved g c =
    part_more (open_line c.args.context.now c.args.columns (drawn_of c.args.label.now))
    (parts_of (option_copied c.loop-left.left)) (parts_of (option_copied c.first_part.result.1))
    (chars c.first_part.result.0.now)
    c.loop-left.page c.push_part_row.new.page _
    (ap (λ o. parts_of (option_copied o)) c.in-Some.is ∙ c.first_part.ensures.cut) c.in_ok-push_part_row.ensures
    c.loop-left.invariant
