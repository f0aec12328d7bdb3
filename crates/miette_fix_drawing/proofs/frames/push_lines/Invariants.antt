use Rattle.std.proofs.Common.{◌≡◌, drop}
use Rattle.miette_style.specs.views.Printouts.{◌⊕◌}
use Rattle.miette_style.specs.views.Tokens.{rows_tokens}
use Rattle.miette_fix_drawing.specs.steps.Passing.{rows_of_segments}
use Rattle.miette_fix_drawing.specs.views.Contexts.{context_with}
use Rattle.miette_fix_drawing.specs.views.DiffPositions.{diff_position_of}
use Rattle.miette_fix_drawing.proofs.frames.push_lines.Given as goal

abbrev pub invariant-loop-i : goal.invariant-loop-i
invariant-loop-i g l =
    l.page ⊕ rows_tokens (rows_of_segments (context_with l.drawing) (diff_position_of l.at) (drop l.i l.list))
    ≡ l.fn.page ⊕ rows_tokens (rows_of_segments (context_with l.drawing) (diff_position_of l.fn.at) l.list)
