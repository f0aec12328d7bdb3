use Rattle.std.proofs.Common.{◌++◌}
use Rattle.std.specs.Option.{option_copied, option_map}
use Rattle.std.proofs.lemmas.Result.{on_ok_weaker}
use Rattle.miette_snippet_rules.specs.rules.Frames.{location_of}
use Rattle.miette_snippet_frames.specs.steps.FrameParts.{corner_row}
use Rattle.miette_snippet_frames.specs.views.Places.{place_at}
use Rattle.miette_snippet_rules.specs.views.SnippetSettings.{settings_of}
use Rattle.miette_snippet_frames.proofs.TextRows.{parts_then, row_done}
use Rattle.miette_snippet_frames.proofs.frame.push_frame_top.Goals as goal

pub returns : goal.returns
returns g c =
    let s = settings_of c.args.frame.now.settings in
    let corner = corner_row s c.args.frame.now.number_width c.args.frame.now.settings.theme.now.characters.ltop 1 in
    let heading = c.args.heading.now in
    let location = location_of s (option_copied heading.name) heading.several (option_map place_at heading.place) in
    on_ok_weaker c.end_row.result (λ h.
    row_done (corner ++ location) c.args.page.now c.push_location.new.page c.end_row.new.self
    (parts_then corner location c.args.page.now c.push_corner.new.page c.push_location.new.page
    c.in_ok-push_corner.ensures c.in_ok-push_location.ensures)
    h) c.end_row.ensures
