use Rattle.miette_style.specs.views.Printouts.{◌⊕◌}
use Rattle.std.proofs.Common.{◌≡◌, map, drop}
use Rattle.miette_style.specs.views.Tokens.{row_tokens}
use Rattle.miette_labels.specs.views.ProgramLabels.{drawn_of}
use Rattle.miette_snippet_frames.specs.views.LineContexts.{settings, multi_labels}
use Rattle.miette_snippet_rules.specs.rules.Gutters.{bar}
use Rattle.miette_snippet_frames.proofs.gutters.push_bars.Given as goal

abbrev pub invariant-loop-label : goal.invariant-loop-label
invariant-loop-label g l =
    l.page ⊕ row_tokens (map (bar (settings l.fn.context))
    (map drawn_of (drop l.label-index l.fn.context.multi.now)))
    ≡ l.fn.page ⊕ row_tokens (map (bar (settings l.fn.context))
    (multi_labels l.fn.context))
