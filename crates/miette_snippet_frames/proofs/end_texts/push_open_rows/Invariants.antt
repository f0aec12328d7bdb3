use Rattle.miette_style.specs.views.Printouts.{◌⊕◌}
use Rattle.std.proofs.Common.{◌≡◌, ◌+◌, map, length}
use Rattle.std.specs.Prelude.{chars}
use Rattle.std.specs.Option.{option_map_or, option_copied}
use Rattle.miette_style.specs.views.Tokens.{rows_tokens}
use Rattle.miette_labels.specs.rules.Labels.{cut_at_lf, parts_of}
use Rattle.miette_labels.specs.views.ProgramLabels.{drawn_of}
use Rattle.miette_snippet_frames.specs.views.LineContexts.{open_line}
use Rattle.miette_snippet_frames.proofs.end_texts.push_open_rows.Given as goal

abbrev pub invariant-loop-left : goal.invariant-loop-left
invariant-loop-left g l =
    l.page ⊕ rows_tokens (map (open_line l.fn.context l.fn.columns (drawn_of l.fn.label))
    (parts_of (option_copied l.left)))
    ≡ l.fn.page ⊕ rows_tokens (map (open_line l.fn.context l.fn.columns (drawn_of l.fn.label))
    (cut_at_lf (chars l.fn.text)))

abbrev pub decreases-loop-left : goal.decreases-loop-left
decreases-loop-left g l = option_map_or (λ text. length text.now + 1) l.left 0
