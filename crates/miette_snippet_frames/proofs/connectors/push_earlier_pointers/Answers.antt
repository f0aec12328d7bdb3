use Rattle.std.proofs.Common.{refl, ap, map, drop, ◌+◌, ◌∙◌}
use Rattle.std.proofs.lemmas.Result.{on_ok_weaker}
use Rattle.miette_style.specs.views.Printouts.{◌⊕◌}
use Rattle.miette_style.specs.views.Tokens.{row_tokens}
use Rattle.miette_snippet_rules.specs.rules.LabelRows.{connector_runs}
use Rattle.miette_snippet_rules.specs.views.MadeUnderlines.{underline_of}
use Rattle.miette_snippet_rules.specs.views.MadeUnderlines.{no_underline}
use Rattle.miette_snippet_frames.proofs.TextRows.{lead_more, lead_end}
use Rattle.miette_snippet_frames.proofs.connectors.push_earlier_pointers.Goals as goal
use Rattle.miette_snippet_frames.specs.views.LineContexts.{settings}

pub loop-mark-preserved : goal.loop-mark-preserved
loop-mark-preserved g c =
    ap (λ n. c.push_line.new.self ⊕ row_tokens (connector_runs (settings c.args.context.now)
    n (map underline_of (drop (c.loop-mark.mark-index + 1) c.args.earlier.now))
    c.args.column)) c.after_pointer-reached.ensures
    ∙ lead_more (settings c.args.context.now)
    c.args.earlier.now c.loop-mark.mark-index c.loop-mark.reached c.saturating_sub.result _ c.args.column no_underline
    c.loop-mark.page c.push_blank.new.self c.push_line.new.self _ c.loop-mark-test.true refl c.saturating_sub.ensures
    c.in_ok-push_blank.ensures c.in_ok-push_line.ensures c.loop-mark.invariant

pub returns : goal.returns
returns g c =
    on_ok_weaker c.push_blank-2.result (λ h. lead_end (settings c.args.context.now)
    c.args.earlier.now c.loop-mark.mark-index c.loop-mark.reached c.saturating_sub-2.result c.args.column
    c.loop-mark.page c.push_blank-2.new.self _ c.loop-mark-test.false c.saturating_sub-2.ensures
    h c.loop-mark.invariant) c.push_blank-2.ensures
