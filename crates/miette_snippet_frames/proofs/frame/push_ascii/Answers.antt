use Rattle.std.proofs.lemmas.Result.{on_ok_weaker}
use Rattle.miette_snippet_frames.proofs.FrameRows.{ascii_put}
use Rattle.miette_snippet_frames.proofs.frame.push_ascii.Goals as goal

pub returns : goal.returns
returns g c =
    on_ok_weaker c.push_str.result (λ h.
    ascii_put c.args.style c.args.text.now c.args.page.now c.begin.new.self c.push_str.new.self c.requires
    c.in_ok-begin.ensures h) c.push_str.ensures
