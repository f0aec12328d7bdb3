use Rattle.std.specs.Prelude.{chars}
use Rattle.std.proofs.lemmas.Result.{on_ok_weaker}
use Rattle.miette_snippet_rules.specs.rules.Frames.{other_start}
use Rattle.miette_labels.specs.views.ProgramLabels.{drawn_of}
use Rattle.miette_snippet_frames.specs.views.GutterEnds.{gutter_with}
use Rattle.miette_snippet_frames.specs.views.LineContexts.{settings, multi_labels}
use Rattle.miette_lines.specs.views.Walking.{line_of_text}
use Rattle.miette_snippet_frames.proofs.ClosingRows.{part_row_put}
use Rattle.miette_snippet_frames.proofs.end_texts.push_part_row.Goals as goal

pub returns : goal.returns
returns g c =
    let context = c.args.context.now in
    let part = c.args.part.now in
    on_ok_weaker c.push_part.result (λ h.
    part_row_put (settings context) (other_start (settings context) context.frame.number_width)
    (gutter_with part.end (settings context) (line_of_text context.line) part.columns (multi_labels context))
    (drawn_of c.args.label.now) part.bar (chars part.text.now)
    c.args.page.now c.push_other_start.new.page c.push_gutter.new.page c.push_part.new.page
    c.in_ok-push_other_start.ensures c.in_ok-push_gutter.ensures h) c.push_part.ensures
