use Rattle.miette_style.specs.views.Printouts.{◌⊕◌}
use Rattle.std.proofs.Common.{◌≡◌, map, drop}
use Rattle.miette_labels.specs.views.ProgramLabels.{drawn_of}
use Rattle.miette_snippet_rules.specs.rules.Frames.{other_start}
use Rattle.miette_snippet_frames.specs.views.LineContexts.{settings, multi_labels}
use Rattle.miette_lines.specs.views.Walking.{line_of_text}
use Rattle.miette_snippet_frames.proofs.ClosingRows.{rest_of}
use Rattle.miette_snippet_frames.proofs.end_texts.push_end_texts.Given as goal

abbrev pub invariant-loop-label : goal.invariant-loop-label
invariant-loop-label g l =
    l.page ⊕ rest_of (settings l.fn.context) (line_of_text l.fn.context.line)
    l.fn.context.gutter (multi_labels l.fn.context) (other_start (settings l.fn.context)
    l.fn.context.frame.number_width)
    (map drawn_of (drop l.label-index l.fn.context.multi.now))
    ≡ l.fn.page ⊕ rest_of (settings l.fn.context) (line_of_text l.fn.context.line)
    l.fn.context.gutter (multi_labels l.fn.context) (other_start (settings l.fn.context)
    l.fn.context.frame.number_width)
    (multi_labels l.fn.context)
