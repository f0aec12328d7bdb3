-- The rows of a frame.
use Rattle.std.proofs.Common.{ℕ, ◌≡◌, List, [], ◌∷◌, ◌++◌, length, decimal, Some, true, ap, ◌∙◌, option_copied}
use Rattle.std.proofs.Common.{refl, sym, false}
use Rattle.miette_style.specs.rules.Rows.{Row}
use Rattle.miette_style.specs.views.Printouts.{Printout, ◌⊕◌}
use Rattle.miette_style.specs.views.Tokens.{rows_tokens}
use Rattle.miette_lines.specs.rules.Lines.{column_of, line_of}
use Rattle.miette_snippet_rules.specs.rules.Frames.{Place, bottom_row, top_row_of}
use Rattle.miette_snippet_rules.specs.views.SnippetSettings.{settings_of}
use Rattle.miette_snippet_frames.proofs.TextRows.{rows_then}
use Rattle.miette_snippet_frames.specs.views.Places as made
use Rattle.miette_fix_rows.specs.rules.Hunks.{Hunk}
use Rattle.miette_fix_rows.specs.rules.DiffFrames.{DiffFrame, DiffPosition, after_hunk, frame_at, frames_from}
use Rattle.miette_fix_rows.specs.rules.DiffFrames.{past_hunk}
use Rattle.miette_fix_rows.specs.rules.DiffRows.{frame_width, largest_number, rows_of_diff_lines}
use Rattle.miette_fix_drawing.specs.declared.frames.FixDrawing.{FixDrawing}
use Rattle.miette_fix_drawing.specs.steps.Framing.{context_over, drawn_frame, drawn_frames}

-- the rows of a frame whose numbers have `w` columns
framed : FixDrawing → DiffFrame → ℕ → Place → List Row
framed d f w place =
    top_row_of (settings_of d.settings) w (option_copied d.name) true (Some place)
    ∷ rows_of_diff_lines (context_over d w) f.at f.lines ++ bottom_row (settings_of d.settings) w ∷ []

place_by : ℕ → ℕ → Place
place_by line column = record { line = line; column = column }

pub frame_put : (d : FixDrawing) (f : DiffFrame) (w : ℕ) (place : ℕ × ℕ) (p a b n : Printout) (most : ℕ)
    → w ≡ length (decimal most) → most ≡ largest_number f.at f.lines → place.0 ≡ line_of d.source.now f.place
    → place.1 ≡ column_of d.source.now f.place
    → a ≡ p ⊕ rows_tokens (top_row_of (settings_of d.settings) w (option_copied d.name) true
    (Some (made.place_at place)) ∷ [])
    → b ≡ a ⊕ rows_tokens (rows_of_diff_lines (context_over d w) f.at f.lines)
    → n ≡ b ⊕ rows_tokens (bottom_row (settings_of d.settings) w ∷ []) → n ≡ p ⊕ rows_tokens (drawn_frame d f)
unfolding framed place_by
frame_put d f w place p a b n most hw hm hl hc ha hb hn =
    let top : List Row = top_row_of (settings_of d.settings) w (option_copied d.name) true (Some (made.place_at place))
    ∷ [] in
    let rows : List Row = rows_of_diff_lines (context_over d w) f.at f.lines in
    let bottom : List Row = bottom_row (settings_of d.settings) w ∷ [] in
    let width : w ≡ frame_width f = hw ∙ ap (λ m. length (decimal m)) hm in
    rows_then top (rows ++ bottom) p a n ha (rows_then rows bottom a b n hb hn)
    ∙ ap (λ x. p ⊕ rows_tokens (framed d f w (place_by x place.1))) hl
    ∙ ap (λ x. p ⊕ rows_tokens (framed d f w (place_by (line_of d.source.now f.place) x))) hc
    ∙ ap (λ x. p ⊕ rows_tokens (framed d f x
    (place_by (line_of d.source.now f.place) (column_of d.source.now f.place)))) width

-- the rows of frames, once those of the first are put
pub frames_go_on : (d : FixDrawing) (context : ℕ) (after : List (List ℕ)) (at next : DiffPosition) (hunk : Hunk)
    (more later : List Hunk) (hunks : List Hunk) (f : DiffFrame) (p q : Printout) → hunks ≡ hunk ∷ more
    → f ≡ frame_at context at hunk (after_hunk context after more)
    → frames_from context after true (past_hunk at hunk) more ≡ frames_from context after false next later
    → q ≡ p ⊕ rows_tokens (drawn_frame d f)
    → q ⊕ rows_tokens (drawn_frames d (frames_from context after false next later))
    ≡ p ⊕ rows_tokens (drawn_frames d (frames_from context after false at hunks))
frames_go_on d context after at next hunk more later hunks f p q e hf rest hq =
    rows_then (drawn_frame d f) (drawn_frames d (frames_from context after false next later)) p q _ hq refl
    ∙ ap (λ x. p ⊕ rows_tokens (drawn_frame d f ++ drawn_frames d x)) (sym rest)
    ∙ ap (λ x. p ⊕ rows_tokens (drawn_frame d x ++ drawn_frames d
    (frames_from context after true (past_hunk at hunk) more))) hf
    ∙ ap (λ x. p ⊕ rows_tokens (drawn_frames d (frames_from context after false at x))) (sym e)
