use Rattle.std.proofs.lemmas.Result.{on_ok_weaker}
use Rattle.miette_snippet_frames.specs.steps.FrameParts.{corner_row}
use Rattle.miette_snippet_rules.specs.views.SnippetSettings.{settings_of}
use Rattle.miette_snippet_frames.proofs.TextRows.{row_done}
use Rattle.miette_snippet_frames.proofs.frame.push_frame_bottom.Goals as goal

pub returns : goal.returns
returns g c =
    on_ok_weaker c.end_row.result (λ h.
    row_done (corner_row (settings_of c.args.frame.now.settings) c.args.frame.now.number_width
    c.args.frame.now.settings.theme.now.characters.lbot 4)
    c.args.page.now c.push_corner.new.page c.end_row.new.self c.in_ok-push_corner.ensures h) c.end_row.ensures
