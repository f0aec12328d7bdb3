use Rattle.miette_style.specs.views.Printouts.{◌⊕◌}
use Rattle.std.proofs.Common.{◌∙◌, ◌<◌, ap, map, [], length, rules}
use Rattle.std.proofs.lemmas.Result.{on_ok_weaker}
use Rattle.miette_snippet_rules.specs.rules.LabelRows.{underline_runs, label_text_rows}
use Rattle.miette_style.specs.views.Tokens.{rows_tokens}
use Rattle.miette_snippet_rules.specs.rules.SnippetLayout.{before_each}
use Rattle.miette_snippet_rules.specs.views.MadeUnderlines.{underline_of}
use Rattle.miette_snippet_frames.specs.views.LineContexts.{before_underlines}
use Rattle.miette_layout.proofs.LineRows.{marked_put, marked_some}
use Rattle.miette_layout.proofs.line.push_underline_rows.Goals as goal
use Rattle.miette_snippet_frames.specs.views.LineContexts.{settings}

pub returns : goal.returns
returns g c =
    let some : 0 < length c.args.marks.now = search rules in
    on_ok_weaker c.push_label_texts.result (λ h.
    marked_put (before_underlines c.args.context.now) (underline_runs (settings c.args.context.now)
    0 (map underline_of c.args.marks.now))
    (label_text_rows (settings c.args.context.now) []
    (map underline_of c.args.marks.now))
    c.args.page.now c.push_before_underlines.new.page c.push_underlines.new.page c.end_row.new.self
    c.push_label_texts.new.page
    c.in_ok-push_before_underlines.ensures c.in_ok-push_underlines.ensures c.in_ok-end_row.ensures h
    ∙ ap (λ rows. c.args.page.now ⊕ rows_tokens (before_each (before_underlines c.args.context.now) rows))
    (marked_some (settings c.args.context.now) underline_of
    c.args.marks.now some)) c.push_label_texts.ensures
