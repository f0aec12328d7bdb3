use Rattle.std.proofs.lemmas.Result.{on_ok_weaker}
use Rattle.miette_snippet_frames.specs.views.Places.{place_at}
use Rattle.miette_snippet_frames.proofs.FrameRows.{place_put}
use Rattle.miette_snippet_frames.proofs.frame.push_place.Goals as goal

pub returns : goal.returns
returns g c =
    on_ok_weaker c.push_number-2.result (λ h.
    place_put (place_at c.args.place) c.in_ok-line.line c.in_ok-column.column c.args.page.now c.push_number.new.self
    c.push.new.self c.push_number-2.new.self
    c.in_ok-line.ensures c.in_ok-column.ensures c.in_ok-push_number.ensures c.in_ok-push.ensures
    h) c.push_number-2.ensures
