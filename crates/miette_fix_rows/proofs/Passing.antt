-- Past lines, one after the other.
use Rattle.std.proofs.Common.{ℕ, ◌+◌, ◌-◌, ◌≡◌, List, [], ◌∷◌, ◌++◌, length, take, drop, arith, length-append, Option}
use Rattle.std.proofs.Common.{refl, sym, ap, ◌∙◌, append_assoc}
use Rattle.std.proofs.lemmas.List.{map-append, take-append-drop}
use Rattle.miette_fix_rows.specs.laws.Frames.{past_lines}
use Rattle.miette_fix_rows.specs.rules.Blocks.{bytes_of}
use Rattle.miette_fix_rows.specs.rules.Hunks.{Change, Hunk, added_lines, removed_lines}
use Rattle.miette_fix_rows.specs.rules.DiffFrames.{DiffLine, DiffPosition, added_from, added_with, changed_lines}
use Rattle.miette_fix_rows.specs.rules.DiffFrames.{kept_lines, paired_line, past_changes, past_hunk, past_kept}
use Rattle.miette_fix_rows.specs.rules.DiffFrames.{removed_from, removed_with}
use Rattle.miette_fix_rows.specs.rules.DiffRows.{past}
use Rattle.miette_fix_rows.proofs.Texts.{bytes_of-append}

pub past_append : (at : DiffPosition) (a b : List DiffLine) → past_lines at (a ++ b) ≡ past_lines (past_lines at a) b
past_append at [] b = refl
past_append at (l ∷ a) b = past_append (past at l) a b

-- ---- past lines that stay, and past changes

abbrev stand : ℕ → ℕ → ℕ → ℕ → DiffPosition
stand a b c d = record { old_line = a; new_line = b; old_offset = c; new_offset = d }

same_stand : (s t : DiffPosition) → s.old_line ≡ t.old_line → s.new_line ≡ t.new_line → s.old_offset ≡ t.old_offset
    → s.new_offset ≡ t.new_offset → s ≡ t
same_stand s t p q r w =
    ap (λ x. stand x s.new_line s.old_offset s.new_offset) p ∙ ap (λ x. stand t.old_line x s.old_offset s.new_offset) q
    ∙ ap (λ x. stand t.old_line t.new_line x s.new_offset) r
    ∙ ap (λ x. stand t.old_line t.new_line t.old_offset x) w

pub past_all_kept : (at : DiffPosition) (ls : List (List ℕ)) → past_lines at (kept_lines ls) ≡ past_kept at ls
past_all_kept at [] = same_stand _ _ (omega arith) (omega arith) (omega arith) (omega arith)
past_all_kept at (l ∷ ls) =
    past_all_kept (past at (DiffLine.kept l)) ls
    ∙ same_stand _ _ (omega arith) (omega arith) (omega arith) (omega arith)

-- past removed lines, and past added ones
abbrev past_removed : DiffPosition → List (List ℕ) → DiffPosition
past_removed at ls = record at { old_line = at.old_line + length ls; old_offset = at.old_offset + bytes_of ls }

abbrev past_added : DiffPosition → List (List ℕ) → DiffPosition
past_added at ls = record at { new_line = at.new_line + length ls; new_offset = at.new_offset + bytes_of ls }

removed_with_past : (n : ℕ) (at : DiffPosition) (ls os : List (List ℕ))
    → past_lines at (removed_with n ls os) ≡ past_removed at ls
removed_with_past n at [] os = same_stand _ _ (omega arith) refl (omega arith) refl
removed_with_past n at (l ∷ ls) [] =
    removed_with_past n (past at (DiffLine.removed l Option.None)) ls []
    ∙ same_stand _ _ (omega arith) refl (omega arith) refl
removed_with_past n at (l ∷ ls) (o ∷ os) =
    removed_with_past (n + length o) (past at (DiffLine.removed l (Option.Some (paired_line o n)))) ls os
    ∙ same_stand _ _ (omega arith) refl (omega arith) refl

added_with_past : (n : ℕ) (at : DiffPosition) (ls os : List (List ℕ))
    → past_lines at (added_with n ls os) ≡ past_added at ls
added_with_past n at [] os = same_stand _ _ refl (omega arith) refl (omega arith)
added_with_past n at (l ∷ ls) [] =
    added_with_past n (past at (DiffLine.added l Option.None)) ls []
    ∙ same_stand _ _ refl (omega arith) refl (omega arith)
added_with_past n at (l ∷ ls) (o ∷ os) =
    added_with_past (n - length o) (past at (DiffLine.added l (Option.Some (paired_line o n)))) ls os
    ∙ same_stand _ _ refl (omega arith) refl (omega arith)

all_removed : (n : ℕ) (at : DiffPosition) (cs : List Change)
    → past_lines at (removed_from n cs) ≡ past_removed at (removed_lines cs)
all_removed n at [] = same_stand _ _ (omega arith) refl (omega arith) refl
all_removed n at (c ∷ cs) =
    let more : List DiffLine = removed_from (n + bytes_of c.added) cs in
    past_append at (removed_with n c.removed c.added) more
    ∙ ap (λ s. past_lines s more) (removed_with_past n at c.removed c.added)
    ∙ all_removed (n + bytes_of c.added) (past_removed at c.removed) cs
    ∙ same_stand _ _ (omega (arith, length-append c.removed (removed_lines cs))) refl
    (omega (arith, bytes_of-append c.removed (removed_lines cs))) refl

all_added : (n : ℕ) (at : DiffPosition) (cs : List Change)
    → past_lines at (added_from n cs) ≡ past_added at (added_lines cs)
all_added n at [] = same_stand _ _ refl (omega arith) refl (omega arith)
all_added n at (c ∷ cs) =
    let more : List DiffLine = added_from (n - bytes_of c.removed) cs in
    past_append at (added_with n c.added c.removed) more
    ∙ ap (λ s. past_lines s more) (added_with_past n at c.added c.removed)
    ∙ all_added (n - bytes_of c.removed) (past_added at c.added) cs
    ∙ same_stand _ _ refl (omega (arith, length-append c.added (added_lines cs))) refl
    (omega (arith, bytes_of-append c.added (added_lines cs)))

pub past_all_changed : (at : DiffPosition) (cs : List Change) → past_lines at (changed_lines cs) ≡ past_changes at cs
past_all_changed at cs =
    let gone : List DiffLine = removed_from 0 cs in
    let come : List DiffLine = added_from (bytes_of (removed_lines cs)) cs in
    let parts : changed_lines cs ≡ gone ++ come = refl in
    ap (past_lines at) parts ∙ past_append at gone come ∙ ap (λ s. past_lines s come) (all_removed 0 at cs)
    ∙ all_added (bytes_of (removed_lines cs)) (past_removed at (removed_lines cs)) cs

pub past_whole_hunk : (at : DiffPosition) (hunk : Hunk)
    → past_lines at (kept_lines hunk.kept ++ changed_lines hunk.changes) ≡ past_hunk at hunk
past_whole_hunk at hunk =
    past_append at (kept_lines hunk.kept) (changed_lines hunk.changes)
    ∙ ap (λ s. past_lines s (changed_lines hunk.changes)) (past_all_kept at hunk.kept)
    ∙ past_all_changed (past_kept at hunk.kept) hunk.changes

pub past_first : (at : DiffPosition) (hunk : Hunk) (n : ℕ)
    → past_lines (past_kept at (take n hunk.kept)) (kept_lines (drop n hunk.kept) ++ changed_lines hunk.changes)
    ≡ past_hunk at hunk
past_first at hunk n =
    let changed : List DiffLine = changed_lines hunk.changes in
    let k : List (List ℕ) = hunk.kept in
    ap (λ s. past_lines s (kept_lines (drop n k) ++ changed)) (sym (past_all_kept at (take n k)))
    ∙ sym (past_append at (kept_lines (take n k)) (kept_lines (drop n k) ++ changed))
    ∙ ap (past_lines at) (sym (append_assoc (kept_lines (take n k)) (kept_lines (drop n k)) changed))
    ∙ ap (λ ls. past_lines at (ls ++ changed)) (sym (map-append DiffLine.kept (take n k) (drop n k)))
    ∙ ap (λ ls. past_lines at (kept_lines ls ++ changed)) (take-append-drop n k)
    ∙ past_whole_hunk at hunk
