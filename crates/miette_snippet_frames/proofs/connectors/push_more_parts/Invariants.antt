use Rattle.miette_style.specs.views.Printouts.{◌⊕◌}
use Rattle.std.proofs.Common.{◌≡◌, ◌+◌, map, length}
use Rattle.std.specs.Prelude.{chars}
use Rattle.std.specs.Option.{option_map_or, option_copied}
use Rattle.miette_style.specs.views.Tokens.{rows_tokens}
use Rattle.miette_labels.specs.rules.Labels.{cut_at_lf, parts_of}
use Rattle.miette_snippet_rules.specs.rules.LabelRows.{beside}
use Rattle.miette_snippet_rules.specs.views.MadeUnderlines.{underline_of}
use Rattle.miette_snippet_frames.specs.views.LineContexts.{settings, text_line}
use Rattle.miette_snippet_frames.proofs.connectors.push_more_parts.Given as goal

abbrev pub invariant-loop-left : goal.invariant-loop-left
invariant-loop-left g l =
    l.page ⊕ rows_tokens (map (text_line l.fn.hung.context.now (map underline_of l.fn.hung.earlier.now)
    (underline_of l.fn.hung.mark.now) (beside (settings l.fn.hung.context.now).theme.characters))
    (parts_of (option_copied l.left)))
    ≡ l.fn.page ⊕ rows_tokens (map (text_line l.fn.hung.context.now (map underline_of l.fn.hung.earlier.now)
    (underline_of l.fn.hung.mark.now) (beside (settings l.fn.hung.context.now).theme.characters))
    (cut_at_lf (chars l.fn.text)))

abbrev pub decreases-loop-left : goal.decreases-loop-left
decreases-loop-left g l = option_map_or (λ text. length text.now + 1) l.left 0
