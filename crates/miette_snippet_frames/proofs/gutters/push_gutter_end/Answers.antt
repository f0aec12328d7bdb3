use Rattle.std.proofs.Common.{◌∙◌, ap, sym}
use Rattle.std.proofs.lemmas.Result.{on_ok_weaker}
use Rattle.miette_style.specs.views.Printouts.{◌⊕◌}
use Rattle.miette_labels.specs.views.ProgramLabels.{drawn_of}
use Rattle.miette_lines.specs.views.Walking.{line_of_text}
use Rattle.miette_snippet_rules.proofs.RowTokens.{blank_row}
use Rattle.miette_snippet_frames.specs.views.LineContexts.{settings}
use Rattle.miette_snippet_frames.proofs.GutterRows.{arrow_end, corner_end}
use Rattle.miette_snippet_frames.proofs.gutters.push_gutter_end.Goals as goal

pub returns-in-Arrow : goal.returns-in-Arrow
returns-in-Arrow g c =
    on_ok_weaker c.push_arrow.result (λ h. rw c.in-Arrow.is
    (arrow_end (settings c.args.context.now) (line_of_text c.args.context.now.line) c.args.left
    c.arrow_corner-corner.result (drawn_of c.args.label.now) c.args.page.now c.push_arrow.new.page
    c.arrow_corner-corner.ensures h)) c.push_arrow.ensures

pub returns-in-Corner : goal.returns-in-Corner
returns-in-Corner g c =
    on_ok_weaker c.push_line.result (λ h. rw c.in-Corner.is
    (corner_end (settings c.args.context.now) (line_of_text c.args.context.now.line) c.args.left
    c.saturating_sub-bars.result (drawn_of c.args.label.now) c.args.page.now c.push_line.new.self
    c.saturating_sub-bars.ensures h)) c.push_line.ensures

pub returns-in-Open : goal.returns-in-Open
returns-in-Open g c =
    on_ok_weaker c.push_blank.result (λ h. rw c.in-Open.is
    (h ∙ ap (λ x. c.args.page.now ⊕ x) (sym (blank_row (settings c.args.context.now) c.args.left))))
    c.push_blank.ensures
