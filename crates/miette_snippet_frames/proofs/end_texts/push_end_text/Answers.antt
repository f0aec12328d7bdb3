use Rattle.std.proofs.Common.{◌∙◌, ◌∷◌, ap}
use Rattle.std.specs.Prelude.{chars, option_copied}
use Rattle.std.proofs.lemmas.Result.{on_ok_weaker}
use Rattle.miette_labels.specs.rules.Labels.{parts_of}
use Rattle.miette_snippet_rules.specs.rules.Frames.{other_start}
use Rattle.miette_labels.specs.views.ProgramLabels.{drawn_of}
use Rattle.miette_snippet_frames.specs.views.LineContexts.{settings, multi_labels}
use Rattle.miette_lines.specs.views.Walking.{line_of_text}
use Rattle.miette_snippet_frames.proofs.ClosingRows.{several_closing}
use Rattle.miette_snippet_frames.proofs.end_texts.push_end_text.Goals as goal

pub returns : goal.returns
returns g c =
    let context = c.args.context.now in
    let first = chars c.first_part.result.0.now in
    on_ok_weaker c.push_open_rows.result (λ h.
    several_closing (settings context) (line_of_text context.line) context.gutter c.saturating_sub-columns.result
    (multi_labels context) (drawn_of c.args.label.now) (other_start (settings context) context.frame.number_width) _
    first (chars c.in-Some-rest.rest.now)
    c.args.page.now c.push_part_row-2.new.page c.push_open_rows.new.page c.saturating_sub-columns.ensures
    (ap (λ o. parts_of (option_copied o)) c.in-Some.is ∙ c.first_part.ensures.cut
    ∙ ap (λ o. first ∷ parts_of (option_copied o)) c.in-Some-rest.is)
    c.in_ok-push_part_row.ensures h) c.push_open_rows.ensures
