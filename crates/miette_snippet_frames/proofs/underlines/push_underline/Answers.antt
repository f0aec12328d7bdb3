use Rattle.std.proofs.Common.{rules, refl, ◌-◌}
use Rattle.std.proofs.lemmas.Result.{on_ok_weaker}
use Rattle.miette_snippet_rules.specs.views.MadeUnderlines.{underline_of}
use Rattle.miette_snippet_frames.proofs.MarkRows.{mark_put}
use Rattle.miette_snippet_frames.proofs.underlines.push_underline.Goals as goal
use Rattle.miette_snippet_frames.specs.views.LineContexts.{settings}

pub returns : goal.returns
returns g c =
    on_ok_weaker c.push_copies-2.result (λ h. mark_put (settings c.args.context.now)
    (underline_of c.args.mark.now) c.args.mark.now.pointer
    (c.args.mark.now.pointer - c.args.mark.now.from) (c.args.mark.now.until - c.args.mark.now.pointer - 1)
    c.pointer_of.result
    c.args.page.now c.begin.new.self c.push_copies.new.self c.push.new.self c.push_copies-2.new.self
    refl c.requires.0 c.requires.1 (search rules) (search rules) c.pointer_of.ensures
    c.in_ok-begin.ensures c.in_ok-push_copies.ensures c.in_ok-push.ensures h) c.push_copies-2.ensures
