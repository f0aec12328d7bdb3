-- Lines that are shown, one after the other.
use Rattle.std.proofs.Common.{ℕ, ◌≡◌, List, [], ◌∷◌, ◌++◌, Option, Some, None, option_map, refl, sym, ap, ◌∙◌}
use Rattle.miette_style.specs.views.Printouts.{Printout, ◌⊕◌}
use Rattle.miette_style.specs.views.Tokens.{rows_tokens}
use Rattle.miette_snippet_frames.proofs.TextRows.{rows_then}
use Rattle.miette_fix_rows.specs.rules.DiffFrames.{DiffLine, PairedLine, DiffPosition, added_with, paired_line}
use Rattle.miette_fix_rows.specs.rules.DiffFrames.{removed_with, removed, added}
use Rattle.miette_fix_rows.specs.rules.DiffRows.{DiffContext, past, rows_of_diff_line, rows_of_diff_lines}
use Rattle.miette_fix_drawing.specs.declared.segments.DiffLineKind.{DiffLineKind}
use Rattle.miette_fix_drawing.specs.declared.segments.DiffLineKind.TheVariants.{Kept, Removed, Added}
use Rattle.miette_fix_rows.specs.laws.Frames.{past_lines}
use Rattle.miette_fix_drawing.specs.views.ShownLines.{away_past, line_by, lines_by, text_before}

-- the first of lines, which goes with the first of others
abbrev beside : ℕ → Option (List ℕ) → Option PairedLine
beside n other = option_map (λ text. paired_line text n) other

pub first_shown : (kind : DiffLineKind) (n : ℕ) (text : List ℕ) (ls os more : List (List ℕ)) (other : Option (List ℕ))
    → os ≡ text_before other more → (other ≡ None → more ≡ []) → lines_by kind n (text ∷ ls) os
    ≡ line_by kind text (beside n other) ∷ lines_by kind (away_past kind n other) ls more
first_shown Kept n text ls os more other e h = refl
first_shown Removed n text ls os more None e h =
    ap (removed_with n (text ∷ ls)) e ∙ ap (λ ms. removed text None ∷ removed_with n ls ms) (sym (h refl))
first_shown Removed n text ls os more (Some other) e h = ap (removed_with n (text ∷ ls)) e
first_shown Added n text ls os more None e h =
    ap (added_with n (text ∷ ls)) e ∙ ap (λ ms. added text None ∷ added_with n ls ms) (sym (h refl))
first_shown Added n text ls os more (Some other) e h = ap (added_with n (text ∷ ls)) e

pub shown_first : (kind : DiffLineKind) (n next : ℕ) (text : List ℕ) (all ls os more : List (List ℕ))
    (other : Option (List ℕ)) (shown : Option PairedLine) → all ≡ text ∷ ls → os ≡ text_before other more
    → (other ≡ None → more ≡ []) → shown ≡ beside n other → next ≡ away_past kind n other →
    lines_by kind n all os ≡ line_by kind text shown ∷ lines_by kind next ls more
shown_first kind n next text all ls os more other shown k e h is after =
    ap (λ ts. lines_by kind n ts os) k ∙ first_shown kind n text ls os more other e h
    ∙ ap (λ o. line_by kind text o ∷ lines_by kind (away_past kind n other) ls more) (sym is)
    ∙ ap (λ m. line_by kind text shown ∷ lines_by kind m ls more) (sym after)

-- rows of lines, once those of the first are put
pub rows_go_on : (c : DiffContext) (at next : DiffPosition) (line : DiffLine) (all lines : List DiffLine)
    (p q r : Printout)
    → all ≡ line ∷ lines → next ≡ past at line → q ≡ p ⊕ rows_tokens (rows_of_diff_line c at line)
    → p ⊕ rows_tokens (rows_of_diff_lines c at all) ≡ r → q ⊕ rows_tokens (rows_of_diff_lines c next lines) ≡ r
rows_go_on c at next line all lines p q r e n put h =
    rows_then (rows_of_diff_line c at line) (rows_of_diff_lines c next lines) p q _ put refl
    ∙ ap (λ s. p ⊕ rows_tokens (rows_of_diff_line c at line ++ rows_of_diff_lines c s lines)) n
    ∙ ap (λ ls. p ⊕ rows_tokens (rows_of_diff_lines c at ls)) (sym e) ∙ h

pub past_goes_on : (at next end : DiffPosition) (line : DiffLine) (all lines : List DiffLine) → all ≡ line ∷ lines
    → next ≡ past at line → past_lines at all ≡ end → past_lines next lines ≡ end
past_goes_on at next end line all lines e n h =
    ap (λ s. past_lines s lines) n ∙ ap (past_lines at) (sym e) ∙ h
