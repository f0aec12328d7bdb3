use Rattle.miette_style.specs.views.Printouts.{◌⊕◌}
use Rattle.std.proofs.Common.{◌≡◌, map, drop}
use Rattle.miette_style.specs.views.Tokens.{row_tokens}
use Rattle.miette_labels.specs.views.ProgramLabels.{drawn_of}
use Rattle.miette_snippet_frames.specs.views.GutterEnds.{gutter_with}
use Rattle.miette_snippet_frames.specs.views.LineContexts.{settings, multi_labels}
use Rattle.miette_lines.specs.views.Walking.{line_of_text}
use Rattle.miette_snippet_frames.proofs.gutters.push_gutter.Given as goal

abbrev pub invariant-loop-label : goal.invariant-loop-label
invariant-loop-label g l =
    l.page ⊕ row_tokens (gutter_with l.fn.end (settings l.fn.context) (line_of_text l.fn.context.line) l.left
    (map drawn_of (drop l.label-index l.fn.context.multi.now)))
    ≡ l.fn.page ⊕ row_tokens (gutter_with l.fn.end (settings l.fn.context) (line_of_text l.fn.context.line)
    l.fn.columns (multi_labels l.fn.context))
