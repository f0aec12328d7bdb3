use Rattle.std.proofs.Common.{map, refl}
use Rattle.std.specs.Prelude.{chars}
use Rattle.std.proofs.lemmas.Result.{on_ok_weaker}
use Rattle.miette_snippet_rules.specs.views.MadeUnderlines.{underline_of}
use Rattle.miette_snippet_frames.specs.views.LineContexts.{before_underlines}
use Rattle.miette_snippet_frames.proofs.TextRows.{text_put}
use Rattle.miette_snippet_frames.proofs.connectors.push_text_row.Goals as goal
use Rattle.miette_snippet_frames.specs.views.LineContexts.{settings}

pub returns : goal.returns
returns g c =
    let hung = c.args.hung.now in
    let mark = hung.mark.now in
    let leader = c.args.leader in
    on_ok_weaker c.end_row.result (λ h. text_put (settings hung.context.now) (before_underlines hung.context.now)
    (map underline_of hung.earlier.now) (underline_of mark) mark.pointer leader.corner leader.line leader.end
    (chars c.args.part.now)
    c.args.page.now c.push_before_underlines.new.page c.push_earlier_pointers.new.page c.push_line.new.self
    c.push.new.self
    c.push-2.new.self c.push_str.new.self c.end_row.new.self
    refl c.in_ok-push_before_underlines.ensures c.in_ok-push_earlier_pointers.ensures c.in_ok-push_line.ensures
    c.in_ok-push.ensures
    c.in_ok-push-2.ensures c.in_ok-push_str.ensures h) c.end_row.ensures
