use Rattle.std.proofs.Common.{map}
use Rattle.std.specs.Option.{option_map}
use Rattle.std.proofs.lemmas.Result.{on_ok_weaker}
use Rattle.miette_snippet_rules.specs.views.Cuts.{made_runs}
use Rattle.miette_snippet_rules.specs.rules.CutLines.{dots}
use Rattle.miette_snippet_rules.specs.rules.Frames.{number_start}
use Rattle.miette_snippet_rules.specs.rules.Gutters.{number_gutter}
use Rattle.miette_snippet_rules.specs.rules.Highlighting.{highlight_of}
use Rattle.miette_snippet_rules.specs.views.LineTexts.{text_cells}
use Rattle.miette_snippet_frames.specs.views.LineContexts.{settings, multi_labels}
use Rattle.miette_lines.specs.views.Walking.{line_of_text}
use Rattle.miette_layout.proofs.LineRows.{number_row_put}
use Rattle.miette_layout.proofs.line.push_number_row.Goals as goal

pub returns : goal.returns
returns g c =
    let context = c.args.context.now in
    on_ok_weaker c.end_row.result (λ h.
    number_row_put (number_start (settings context) context.frame.number_width context.number)
    (number_gutter (settings context) (line_of_text context.line) context.gutter
    (multi_labels context))
    (made_runs (dots (settings context).theme) (option_map (λ made. made.items) c.args.cut.now)
    (map highlight_of context.pieces.now) (text_cells c.args.text.now))
    c.args.page.now c.push_number_start.new.page c.push_gutter.new.page c.push_shown_text.new.page
    c.end_row.new.self
    c.in_ok-push_number_start.ensures c.in_ok-push_gutter.ensures c.in_ok-push_shown_text.ensures
    h) c.end_row.ensures
