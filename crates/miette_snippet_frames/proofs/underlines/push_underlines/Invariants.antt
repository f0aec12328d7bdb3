use Rattle.miette_style.specs.views.Printouts.{◌⊕◌}
use Rattle.std.proofs.Common.{◌≡◌, map, drop}
use Rattle.miette_style.specs.views.Tokens.{row_tokens}
use Rattle.miette_snippet_rules.specs.rules.LabelRows.{underline_runs}
use Rattle.miette_snippet_rules.specs.views.MadeUnderlines.{underline_of}
use Rattle.miette_snippet_frames.specs.views.LineContexts.{settings}
use Rattle.miette_snippet_frames.proofs.underlines.push_underlines.Given as goal

abbrev pub invariant-loop-mark : goal.invariant-loop-mark
invariant-loop-mark g l =
    l.page ⊕ row_tokens (underline_runs (settings l.fn.context) l.reached
    (map underline_of (drop l.mark-index l.marks)))
    ≡ l.fn.page ⊕ row_tokens (underline_runs (settings l.fn.context) 0
    (map underline_of l.marks))
