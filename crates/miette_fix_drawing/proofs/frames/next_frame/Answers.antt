use Rattle.std.proofs.Common.{◌≡◌, ap, subst, sym, ◌∙◌, ◌++◌, true, drop}
use Rattle.std.proofs.lemmas.List.{take_rest}
use Rattle.miette_fix_rows.specs.rules.Blocks.{line_texts}
use Rattle.miette_fix_rows.specs.rules.DiffFrames.{after_hunk, changed_lines, frames_from, kept_lines, left_before}
use Rattle.miette_fix_rows.specs.rules.DiffFrames.{past_hunk}
use Rattle.miette_fix_rows.specs.rules.DiffRows.{largest_number}
use Rattle.miette_fix_rows.specs.laws.Frames.{past_lines}
use Rattle.miette_fix_drawing.specs.steps.Framing.{IsFar}
use Rattle.miette_fix_drawing.specs.views.Hunks.{hunk_of, hunks_of}
use Rattle.miette_fix_drawing.specs.views.ShownLines.{lines_of_segments}
use Rattle.miette_fix_drawing.specs.views.DiffPositions.{diff_position_of}
use Rattle.miette_fix_rows.proofs.Passing.{past_first}
use Rattle.miette_fix_drawing.proofs.Framing.{far_frames, frame_made, largest_pushed}
use Rattle.miette_fix_drawing.proofs.frames.next_frame.Goals as goal

pub lines_after-after-requires : goal.lines_after-after-requires
lines_after-after-requires g c =
    subst (IsFar c.args.drawing.now.settings.layout.now.context_lines)
    (sym (ap hunks_of (take_rest c.args.more.now c.in_ok-taken.taken))) c.in_ok-taken.ensures.far

pub returns-clause-frame : goal.returns-clause-frame
returns-clause-frame g c =
    let context = c.args.drawing.now.settings.layout.now.context_lines in
    let after = line_texts c.args.kept_after.now in
    let more = c.args.more.now in
    let taken = c.in_ok-taken.taken in
    frame_made context after (diff_position_of c.args.progress.now.at) (diff_position_of c.in_ok-from.from)
    (hunk_of c.args.hunk.now) (hunks_of (drop taken more)) (hunks_of more) c.place_in.result c.in_ok-from.lines.items
    c.take_near.new.list.items c.push.new.self.items c.lines_after-after.result c.in_ok-from.ensures.at
    c.in_ok-from.ensures.lines c.place_in.ensures (c.in_ok-taken.ensures.lines after)
    (c.lines_after-after.ensures ∙ ap (λ hs. after_hunk context after (hunks_of hs)) (take_rest more taken))
    c.in_ok-push.ensures.items

pub returns-clause-within : goal.returns-clause-within
returns-clause-within g c = c.in_ok-taken.ensures.within

pub returns-clause-cursor : goal.returns-clause-cursor
returns-clause-cursor g c = c.first_hunk.ensures.cursor

pub returns-clause-largest_number : goal.returns-clause-largest_number
returns-clause-largest_number g c =
    let from = diff_position_of c.in_ok-from.from in
    largest_pushed from (diff_position_of c.in_ok-end.end) c.take_near.new.list.items c.lines_after-after.result
    c.in_ok-end.most c.in_ok-most.field-0.1
    (c.in_ok-end.ensures.most ∙ ap (λ items. largest_number from (lines_of_segments items)) c.deref.ensures.value)
    (c.in_ok-end.ensures.behind ∙ ap (λ items. past_lines from (lines_of_segments items)) c.deref.ensures.value)
    c.in_ok-most.ensures.most
    ∙ ap (λ items. largest_number from (lines_of_segments items)) (sym c.in_ok-push.ensures.items)

pub returns-clause-rest : goal.returns-clause-rest
returns-clause-rest g c =
    let context = c.args.drawing.now.settings.layout.now.context_lines in
    let after = line_texts c.args.kept_after.now in
    let hunk = hunk_of c.args.hunk.now in
    let more = hunks_of c.args.more.now in
    let rest = hunks_of (drop c.in_ok-taken.taken c.args.more.now) in
    let from = diff_position_of c.in_ok-from.from in
    let first : past_lines from (lines_of_segments c.in_ok-from.lines.items)
    ≡ past_hunk (diff_position_of c.args.progress.now.at) hunk =
    ap (past_lines from) c.in_ok-from.ensures.lines
    ∙ ap (λ s. past_lines s (kept_lines (drop (left_before context hunk) hunk.kept) ++ changed_lines hunk.changes))
    c.in_ok-from.ensures.at
    ∙ past_first (diff_position_of c.args.progress.now.at) hunk (left_before context hunk) in
    ap (λ s. frames_from context after true s more) (sym first) ∙ sym (c.in_ok-taken.ensures.frames after from)
    ∙ ap (λ s. frames_from context after true s rest)
    (sym (c.in_ok-end.ensures.behind ∙ ap (λ items. past_lines from (lines_of_segments items)) c.deref.ensures.value))
    ∙ far_frames context after (diff_position_of c.in_ok-end.end) rest c.in_ok-taken.ensures.far
