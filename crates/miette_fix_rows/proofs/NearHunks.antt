-- What is shown of a hunk, and the frames from it on, if the next one is near.
use Rattle.std.proofs.Common.{ℕ, Bool, true, cond, List, ◌∷◌, ◌++◌, take}
use Rattle.miette_fix_rows.specs.rules.DiffFrames.{DiffFrame, DiffLine, DiffPosition, after_hunk, changed_lines}
use Rattle.miette_fix_rows.specs.rules.DiffFrames.{frame_at}
use Rattle.miette_fix_rows.specs.rules.DiffFrames.{frames_from, kept_lines, past_hunk}
use Rattle.miette_fix_rows.specs.rules.Hunks.{Hunk}

abbrev pub shown_if : Bool → ℕ → List (List ℕ) → Hunk → List Hunk → List DiffLine
shown_if b context after hunk hunks =
    cond b (kept_lines hunk.kept ++ (changed_lines hunk.changes ++ after_hunk context after hunks))
    (kept_lines (take context hunk.kept))

abbrev pub frames_if : Bool → ℕ → List (List ℕ) → DiffPosition → Hunk → List Hunk → List DiffFrame
frames_if b context after at hunk hunks =
    cond b (frames_from context after true (past_hunk at hunk) hunks)
    (frame_at context at hunk (after_hunk context after hunks)
    ∷ frames_from context after true (past_hunk at hunk) hunks)
