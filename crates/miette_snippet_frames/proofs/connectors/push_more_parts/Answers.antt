use Rattle.std.proofs.Common.{◌∙◌, ap, map}
use Rattle.std.specs.Prelude.{chars}
use Rattle.std.specs.Option.{option_copied}
use Rattle.miette_labels.specs.rules.Labels.{parts_of}
use Rattle.miette_snippet_rules.specs.rules.LabelRows.{beside}
use Rattle.miette_snippet_rules.specs.views.MadeUnderlines.{underline_of}
use Rattle.miette_snippet_frames.specs.views.LineContexts.{settings, text_line}
use Rattle.miette_snippet_frames.proofs.TextRows.{part_more}
use Rattle.miette_snippet_frames.proofs.connectors.push_more_parts.Goals as goal

pub loop-left-preserved : goal.loop-left-preserved
loop-left-preserved g c =
    part_more (text_line c.args.hung.now.context.now (map underline_of c.args.hung.now.earlier.now)
    (underline_of c.args.hung.now.mark.now) (beside (settings c.args.hung.now.context.now).theme.characters))
    (parts_of (option_copied c.loop-left.left)) (parts_of (option_copied c.first_part.result.1))
    (chars c.first_part.result.0.now)
    c.loop-left.page c.push_text_row.new.page _
    (ap (λ o. parts_of (option_copied o)) c.in-Some.is ∙ c.first_part.ensures.cut) c.in_ok-push_text_row.ensures
    c.loop-left.invariant
