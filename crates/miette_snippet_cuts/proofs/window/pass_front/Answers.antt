use Rattle.miette_snippet_cuts.proofs.WindowColumns.{both_passed}
use Rattle.miette_snippet_cuts.proofs.window.pass_front.Goals as goal

pub loop-window-preserved : goal.loop-window-preserved
loop-window-preserved c =
    both_passed c.args.end _ _ _ (both_passed c.args.end _ _ _ c.loop-window.invariant c.in_ok-pass_cell.ensures.passed)
    c.in_ok-pass_plain-2.ensures

pub returns : goal.returns
returns c = both_passed c.args.end _ _ _ c.loop-window.invariant c.in_ok-pass_cell.ensures.passed
