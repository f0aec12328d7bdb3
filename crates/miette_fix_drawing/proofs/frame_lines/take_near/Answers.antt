use Rattle.std.proofs.Common.{◌≡◌, ◌+◌, ap, subst, sym, ◌∙◌, ◌∷◌, ◌++◌, drop, true, false, arith}
use Rattle.miette_fix_rows.specs.rules.DiffFrames.{after_hunk, frames_from, is_near_hunk}
use Rattle.miette_fix_rows.specs.laws.Frames.{past_lines}
use Rattle.miette_fix_drawing.specs.steps.Framing.{IsFar}
use Rattle.miette_fix_drawing.specs.views.Hunks.{hunk_of, hunks_of}
use Rattle.miette_fix_drawing.specs.views.ShownLines.{lines_of_segments}
use Rattle.miette_fix_drawing.proofs.Framing.{item_first, near_lines, near_standing}
use Rattle.miette_fix_drawing.proofs.frame_lines.take_near.Goals as goal

pub loop-i-preserved : goal.loop-i-preserved
loop-i-preserved c =
    let context = c.args.context in
    let hunks = c.args.hunks.now in
    let hunk = hunk_of c.index-hunks-i.result in
    let more = hunks_of (drop (c.loop-i.i + 1) hunks) in
    let made = lines_of_segments c.loop-i.list.items in
    let next = lines_of_segments c.push_hunk.new.list.items in
    let near : is_near_hunk context hunk ≡ true = sym c.is_near_hunk.ensures ∙ c.if-not-is_near_hunk.false in
    let items : hunks_of (drop c.loop-i.i hunks) ≡ hunk ∷ more =
    ap hunks_of (item_first hunks c.loop-i.i c.index-hunks-i.result
    (omega (arith, c.loop-i-test.true, c.loop-i.auto.i-end))
    c.index-hunks-i.is) in
    record {
      lines = λ after. near_lines context after hunk more made next near c.in_ok-push_hunk.ensures
          ∙ ap (λ hs. made ++ after_hunk context after hs) (sym items) ∙ c.loop-i.invariant.lines after;
      frames = λ after at. near_standing context after at hunk more made next near c.in_ok-push_hunk.ensures
          ∙ ap (frames_from context after true (past_lines at made)) (sym items) ∙ c.loop-i.invariant.frames after at;
    }

pub returns-then-not-is_near_hunk-clause-lines : goal.returns-then-not-is_near_hunk-clause-lines
returns-then-not-is_near_hunk-clause-lines c = c.loop-i.invariant.lines

pub returns-then-not-is_near_hunk-clause-frames : goal.returns-then-not-is_near_hunk-clause-frames
returns-then-not-is_near_hunk-clause-frames c = c.loop-i.invariant.frames

pub returns-then-not-is_near_hunk-clause-far : goal.returns-then-not-is_near_hunk-clause-far
returns-then-not-is_near_hunk-clause-far c =
    let hunks = c.args.hunks.now in
    let hunk = hunk_of c.index-hunks-i.result in
    let near : is_near_hunk c.args.context hunk ≡ false = sym c.is_near_hunk.ensures ∙ c.if-not-is_near_hunk.true in
    let items : hunks_of (drop c.loop-i.i hunks) ≡ hunk ∷ hunks_of (drop (c.loop-i.i + 1) hunks) =
    ap hunks_of (item_first hunks c.loop-i.i c.index-hunks-i.result
    (omega (arith, c.loop-i-test.true, c.loop-i.auto.i-end))
    c.index-hunks-i.is) in
    subst (IsFar c.args.context) (sym items) near
