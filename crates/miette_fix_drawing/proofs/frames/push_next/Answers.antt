use Rattle.std.proofs.Common.{◌≡◌, ◌∷◌, ◌-◌, ◌+◌, ap, sym, ◌∙◌, subst, length, take, drop, arith, false}
use Rattle.std.specs.List.{AllByRecursion}
use Rattle.std.proofs.lemmas.List.{take_rest}
use Rattle.miette_fix_rows.specs.rules.Blocks.{line_texts}
use Rattle.miette_fix_rows.specs.rules.DiffFrames.{frames_from}
use Rattle.miette_fix_drawing.specs.steps.Places.{HunkIsIn}
use Rattle.miette_fix_drawing.specs.views.Frames.{frame_of}
use Rattle.miette_fix_drawing.specs.views.Hunks.{hunk_of, hunks_of}
use Rattle.miette_fix_drawing.specs.views.DiffPositions.{diff_position_of}
use Rattle.miette_fix_drawing.proofs.FrameRows.{frames_go_on}
use Rattle.miette_fix_drawing.proofs.Framing.{item_first, left_after}
use Rattle.miette_fix_drawing.proofs.frames.push_next.Goals as goal

pub returns-clause-rows : goal.returns-clause-rows
returns-clause-rows g c =
    let hunks = c.args.hunks.now in
    let taken = c.in_ok-frame.taken in
    let items : hunks_of hunks ≡ hunk_of c.index-hunks-0.result ∷ hunks_of (take (length hunks - 1) (drop 1 hunks)) =
    ap hunks_of (item_first hunks 0 c.index-hunks-0.result c.requires.some c.index-hunks-0.is
    ∙ ap (λ x. c.index-hunks-0.result ∷ x) (sym (take_rest hunks 1))) in
    let later : hunks_of (drop taken (take (length hunks - 1) (drop 1 hunks))) ≡ hunks_of (drop (taken + 1) hunks) =
    let sum : 1 + taken ≡ taken + 1 = omega arith in
    ap hunks_of (left_after hunks 1 taken ∙ ap (λ n. drop n hunks) sum) in
    frames_go_on c.args.drawing.now c.args.drawing.now.settings.layout.now.context_lines
    (line_texts c.args.kept_after.now) (diff_position_of c.args.progress.now.at)
    (diff_position_of c.next_frame.new.progress.at) (hunk_of c.index-hunks-0.result)
    (hunks_of (take (length hunks - 1) (drop 1 hunks))) (hunks_of (drop (taken + 1) hunks)) (hunks_of hunks)
    (frame_of c.in_ok-frame.frame) c.args.page.now c.push_frame.new.page items c.in_ok-frame.ensures.frame
    (c.in_ok-frame.ensures.rest
    ∙ ap (λ hs. frames_from c.args.drawing.now.settings.layout.now.context_lines (line_texts c.args.kept_after.now)
    false (diff_position_of c.next_frame.new.progress.at) hs) later) c.in_ok-push_frame.ensures

pub next_frame-requires-clause-stands : goal.next_frame-requires-clause-stands
next_frame-requires-clause-stands g c =
    let hunks = c.args.hunks.now in
    let stand = AllByRecursion (HunkIsIn c.args.drawing.now.source.now) in
    (subst stand (item_first hunks 0 c.index-hunks-0.result c.requires.some c.index-hunks-0.is) c.requires.stand).0
