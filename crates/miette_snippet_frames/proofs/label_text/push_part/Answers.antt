use Rattle.std.specs.Prelude.{chars}
use Rattle.std.proofs.Common.{[], false}
use Rattle.std.proofs.lemmas.Result.{on_ok_weaker}
use Rattle.miette_snippet_frames.proofs.ClosingRows.{part_put}
use Rattle.miette_snippet_frames.proofs.label_text.push_part.Goals as goal

pub returns : goal.returns
returns g c =
    on_ok_weaker c.end_row.result (λ h.
    part_put (record { start = 0; after = 0; style = c.args.style; parts = []; after_text = false }) c.args.bar
    (chars c.args.part.now) c.args.page.now c.push_line.new.self c.push_str.new.self c.end_row.new.self
    c.in_ok-push_line.ensures c.in_ok-push_str.ensures h) c.end_row.ensures
