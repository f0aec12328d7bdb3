use Rattle.std.proofs.Common.{◌∙◌, ◌∷◌, ap, map}
use Rattle.std.specs.Prelude.{chars, option_copied}
use Rattle.std.proofs.lemmas.Result.{on_ok_weaker}
use Rattle.miette_labels.specs.rules.Labels.{parts_of}
use Rattle.miette_snippet_rules.specs.views.MadeUnderlines.{underline_of}
use Rattle.miette_snippet_frames.specs.views.LineContexts.{before_underlines}
use Rattle.miette_snippet_frames.proofs.TextRows.{several_parts}
use Rattle.miette_snippet_frames.proofs.connectors.push_text.Goals as goal
use Rattle.miette_snippet_frames.specs.views.LineContexts.{settings}

pub returns : goal.returns
returns g c =
    on_ok_weaker c.push_more_parts.result (λ h.
    several_parts (settings c.args.hung.now.context.now) (before_underlines c.args.hung.now.context.now)
    (map underline_of c.args.hung.now.earlier.now)
    (underline_of c.args.hung.now.mark.now)
    _ (chars c.first_part.result.0.now) (chars c.in-Some-rest.rest.now) c.args.page.now c.push_text_row-2.new.page
    c.push_more_parts.new.page
    (ap (λ o. parts_of (option_copied o)) c.in-Some.is ∙ c.first_part.ensures.cut
    ∙ ap (λ o. chars c.first_part.result.0.now ∷ parts_of (option_copied o)) c.in-Some-rest.is)
    c.in_ok-push_text_row.ensures h) c.push_more_parts.ensures
