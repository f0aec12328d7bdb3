use Rattle.std.proofs.lemmas.Result.{on_ok_weaker}
use Rattle.miette_snippet_frames.proofs.GutterRows.{arrow_put}
use Rattle.miette_snippet_frames.proofs.gutters.push_arrow.Goals as goal
use Rattle.miette_style.specs.rules.Themes.{characters_of}

pub returns : goal.returns
returns g c =
    on_ok_weaker c.push_blank.result (λ h.
    arrow_put (characters_of c.args.context.now.frame.settings.theme.now.characters) c.args.style c.args.corner
    c.args.left
    c.saturating_sub.result c.args.page.now c.push_line.new.self c.push.new.self c.push_blank.new.self
    c.saturating_sub.ensures c.in_ok-push_line.ensures c.in_ok-push.ensures h) c.push_blank.ensures
