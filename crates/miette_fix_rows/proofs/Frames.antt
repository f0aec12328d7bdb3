-- The frames of a diff stand among its lines.
use Rattle.std.proofs.Common.{ℕ, ◌+◌, ◌-◌, ◌<◌, ◌≡◌, Bool, true, false, List, [], ◌∷◌, ◌++◌, length, take, drop}
use Rattle.std.proofs.Common.{arith, refl, sym, ap, ◌∙◌, append_assoc, subst}
use Rattle.std.specs.List.{flat_map}
use Rattle.std.proofs.lemmas.Bool.{leb-false}
use Rattle.std.proofs.lemmas.List.{length-drop, length-take-le, map-append, take-append-drop, take-take}
use Rattle.miette_fix_rows.specs.laws.Frames.{StandAmong, all_lines, at_start, lines_with, new_texts, old_texts}
use Rattle.miette_fix_rows.specs.laws.Frames.{past_lines}
use Rattle.miette_fix_rows.specs.rules.Blocks.{bytes_of}
use Rattle.miette_fix_rows.specs.rules.DiffFrames.{DiffFrame, DiffLine, DiffPosition, added_from, added_with}
use Rattle.miette_fix_rows.specs.rules.DiffFrames.{after_hunk}
use Rattle.miette_fix_rows.specs.rules.DiffFrames.{changed_lines, frame_at, frames_from, frames_of, is_near_hunk}
use Rattle.miette_fix_rows.specs.rules.DiffFrames.{kept_lines}
use Rattle.miette_fix_rows.specs.rules.DiffFrames.{left_before, past_hunk, past_kept, removed_from, removed_with}
use Rattle.miette_fix_rows.specs.rules.Hunks.{Change, Diff, Hunk, added_lines, lines_after, lines_before, removed_lines}
use Rattle.miette_fix_rows.proofs.NearHunks.{frames_if, shown_if}
use Rattle.miette_fix_rows.proofs.Passing.{past_all_kept, past_append, past_first, past_whole_hunk}

-- ---- the lines before the edits

old_kept : (ls : List (List ℕ)) (x : List DiffLine) → old_texts (kept_lines ls ++ x) ≡ ls ++ old_texts x
old_kept [] x = refl
old_kept (l ∷ ls) x = ap (λ t. l ∷ t) (old_kept ls x)

old_removed : (n : ℕ) (ls os : List (List ℕ)) (x : List DiffLine)
    → old_texts (removed_with n ls os ++ x) ≡ ls ++ old_texts x
old_removed n [] os x = refl
old_removed n (l ∷ ls) [] x = ap (λ t. l ∷ t) (old_removed n ls [] x)
old_removed n (l ∷ ls) (o ∷ os) x = ap (λ t. l ∷ t) (old_removed (n + length o) ls os x)

old_added : (n : ℕ) (ls os : List (List ℕ)) (x : List DiffLine)
    → old_texts (added_with n ls os ++ x) ≡ old_texts x
old_added n [] os x = refl
old_added n (l ∷ ls) [] x = old_added n ls [] x
old_added n (l ∷ ls) (o ∷ os) x = old_added (n - length o) ls os x

old_gone : (n : ℕ) (cs : List Change) (x : List DiffLine)
    → old_texts (removed_from n cs ++ x) ≡ removed_lines cs ++ old_texts x
old_gone n [] x = refl
old_gone n (c ∷ cs) x =
    let more : List DiffLine = removed_from (n + bytes_of c.added) cs in
    ap old_texts (append_assoc (removed_with n c.removed c.added) more x)
    ∙ old_removed n c.removed c.added (more ++ x) ∙ ap (λ t. c.removed ++ t) (old_gone (n + bytes_of c.added) cs x)
    ∙ sym (append_assoc c.removed (removed_lines cs) (old_texts x))

old_come : (n : ℕ) (cs : List Change) (x : List DiffLine) → old_texts (added_from n cs ++ x) ≡ old_texts x
old_come n [] x = refl
old_come n (c ∷ cs) x =
    let more : List DiffLine = added_from (n - bytes_of c.removed) cs in
    ap old_texts (append_assoc (added_with n c.added c.removed) more x)
    ∙ old_added n c.added c.removed (more ++ x) ∙ old_come (n - bytes_of c.removed) cs x

old_changed : (cs : List Change) (x : List DiffLine)
    → old_texts (changed_lines cs ++ x) ≡ removed_lines cs ++ old_texts x
old_changed cs x =
    let all : ℕ = bytes_of (removed_lines cs) in
    ap old_texts (append_assoc (removed_from 0 cs) (added_from all cs) x) ∙ old_gone 0 cs (added_from all cs ++ x)
    ∙ ap (λ t. removed_lines cs ++ t) (old_come all cs x)

old_only_kept : (ls : List (List ℕ)) → old_texts (kept_lines ls) ≡ ls
old_only_kept [] = refl
old_only_kept (l ∷ ls) = ap (λ t. l ∷ t) (old_only_kept ls)

grouped : (a b c d : List (List ℕ)) → a ++ (b ++ (c ++ d)) ≡ ((a ++ b) ++ c) ++ d
grouped a b c d = sym (append_assoc (a ++ b) c d ∙ append_assoc a b (c ++ d))

-- those of hunks, of which each kept line is one, and of changed lines these
texts_with : (texts : List DiffLine → List (List ℕ)) (changed : List Change → List (List ℕ))
    → ((ls : List (List ℕ)) → texts (kept_lines ls) ≡ ls)
    → ((ls : List (List ℕ)) (x : List DiffLine) → texts (kept_lines ls ++ x) ≡ ls ++ texts x)
    → ((cs : List Change) (x : List DiffLine) → texts (changed_lines cs ++ x) ≡ changed cs ++ texts x)
    → (after : List (List ℕ)) (hunks : List Hunk) → texts (lines_with after hunks)
    ≡ flat_map (λ (hunk : Hunk). hunk.kept ++ changed hunk.changes) hunks ++ after
texts_with texts changed only kept changes after [] = only after
texts_with texts changed only kept changes after (h ∷ hunks) =
    let more : List (List ℕ) = flat_map (λ (hunk : Hunk). hunk.kept ++ changed hunk.changes) hunks in
    kept h.kept (changed_lines h.changes ++ lines_with after hunks)
    ∙ ap (λ t. h.kept ++ t) (changes h.changes (lines_with after hunks))
    ∙ ap (λ t. h.kept ++ (changed h.changes ++ t)) (texts_with texts changed only kept changes after hunks)
    ∙ grouped h.kept (changed h.changes) more after

pub old_lines : (diff : Diff) → old_texts (all_lines diff) ≡ lines_before diff
old_lines diff = texts_with old_texts removed_lines old_only_kept old_kept old_changed diff.after_hunks diff.hunks

-- ---- the lines after them

new_kept : (ls : List (List ℕ)) (x : List DiffLine) → new_texts (kept_lines ls ++ x) ≡ ls ++ new_texts x
new_kept [] x = refl
new_kept (l ∷ ls) x = ap (λ t. l ∷ t) (new_kept ls x)

new_removed : (n : ℕ) (ls os : List (List ℕ)) (x : List DiffLine)
    → new_texts (removed_with n ls os ++ x) ≡ new_texts x
new_removed n [] os x = refl
new_removed n (l ∷ ls) [] x = new_removed n ls [] x
new_removed n (l ∷ ls) (o ∷ os) x = new_removed (n + length o) ls os x

new_added : (n : ℕ) (ls os : List (List ℕ)) (x : List DiffLine)
    → new_texts (added_with n ls os ++ x) ≡ ls ++ new_texts x
new_added n [] os x = refl
new_added n (l ∷ ls) [] x = ap (λ t. l ∷ t) (new_added n ls [] x)
new_added n (l ∷ ls) (o ∷ os) x = ap (λ t. l ∷ t) (new_added (n - length o) ls os x)

new_gone : (n : ℕ) (cs : List Change) (x : List DiffLine) → new_texts (removed_from n cs ++ x) ≡ new_texts x
new_gone n [] x = refl
new_gone n (c ∷ cs) x =
    let more : List DiffLine = removed_from (n + bytes_of c.added) cs in
    ap new_texts (append_assoc (removed_with n c.removed c.added) more x)
    ∙ new_removed n c.removed c.added (more ++ x) ∙ new_gone (n + bytes_of c.added) cs x

new_come : (n : ℕ) (cs : List Change) (x : List DiffLine)
    → new_texts (added_from n cs ++ x) ≡ added_lines cs ++ new_texts x
new_come n [] x = refl
new_come n (c ∷ cs) x =
    let more : List DiffLine = added_from (n - bytes_of c.removed) cs in
    ap new_texts (append_assoc (added_with n c.added c.removed) more x)
    ∙ new_added n c.added c.removed (more ++ x) ∙ ap (λ t. c.added ++ t) (new_come (n - bytes_of c.removed) cs x)
    ∙ sym (append_assoc c.added (added_lines cs) (new_texts x))

new_changed : (cs : List Change) (x : List DiffLine)
    → new_texts (changed_lines cs ++ x) ≡ added_lines cs ++ new_texts x
new_changed cs x =
    let all : ℕ = bytes_of (removed_lines cs) in
    ap new_texts (append_assoc (removed_from 0 cs) (added_from all cs) x) ∙ new_gone 0 cs (added_from all cs ++ x)
    ∙ new_come all cs x

new_only_kept : (ls : List (List ℕ)) → new_texts (kept_lines ls) ≡ ls
new_only_kept [] = refl
new_only_kept (l ∷ ls) = ap (λ t. l ∷ t) (new_only_kept ls)

pub new_lines : (diff : Diff) → new_texts (all_lines diff) ≡ lines_after diff
new_lines diff = texts_with new_texts added_lines new_only_kept new_kept new_changed diff.after_hunks diff.hunks

-- ---- frames

-- Some of the lines that hunks have are shown at their front, and frames stand among the rest.
abbrev IsFollowed : List (List ℕ) → List Hunk → DiffPosition → List DiffLine → List DiffFrame → Type 0
IsFollowed after hunks at shown frames =
    (rest : List DiffLine) × (lines_with after hunks ≡ shown ++ rest)
    × StandAmong true (past_lines at shown) frames rest

near : (after : List (List ℕ)) (at : DiffPosition) (hunk : Hunk) (hunks : List Hunk) (shown : List DiffLine)
    (frames : List DiffFrame) → IsFollowed after hunks (past_hunk at hunk) shown frames
    → IsFollowed after (hunk ∷ hunks) at (kept_lines hunk.kept ++ (changed_lines hunk.changes ++ shown)) frames
near after at hunk hunks shown frames h =
    let k : List DiffLine = kept_lines hunk.kept in
    let c : List DiffLine = changed_lines hunk.changes in
    let stands : past_lines at (k ++ (c ++ shown)) ≡ past_lines (past_hunk at hunk) shown =
    ap (past_lines at) (sym (append_assoc k c shown)) ∙ past_append at (k ++ c) shown
    ∙ ap (λ s. past_lines s shown) (past_whole_hunk at hunk) in (
      h.0,
      ap (λ t. k ++ (c ++ t)) h.1 ∙ ap (λ t. k ++ t) (sym (append_assoc c shown h.0))
          ∙ sym (append_assoc k (c ++ shown) h.0),
      subst (λ s. StandAmong true s frames h.0) (sym stands) h.2,
    )

kept_parts : (ls : List (List ℕ)) (n : ℕ) → kept_lines ls ≡ kept_lines (take n ls) ++ kept_lines (drop n ls)
kept_parts ls n = ap kept_lines (sym (take-append-drop n ls)) ∙ map-append DiffLine.kept (take n ls) (drop n ls)

-- a frame with its hunk, among the lines after those that are left out
framed : (after : List (List ℕ)) (hunk : Hunk) (hunks : List Hunk) (n : ℕ) (shown rest : List DiffLine)
    → lines_with after hunks ≡ shown ++ rest
    → kept_lines (drop n hunk.kept) ++ (changed_lines hunk.changes ++ lines_with after hunks)
    ≡ (kept_lines (drop n hunk.kept) ++ (changed_lines hunk.changes ++ shown)) ++ rest
framed after hunk hunks n shown rest e =
    let d : List DiffLine = kept_lines (drop n hunk.kept) in
    let c : List DiffLine = changed_lines hunk.changes in
    ap (λ t. d ++ (c ++ t)) e ∙ ap (λ t. d ++ t) (sym (append_assoc c shown rest))
    ∙ sym (append_assoc d (c ++ shown) rest)

past_frame : (at : DiffPosition) (hunk : Hunk) (n : ℕ) (shown : List DiffLine)
    → past_lines (past_kept at (take n hunk.kept))
    (kept_lines (drop n hunk.kept) ++ (changed_lines hunk.changes ++ shown)) ≡ past_lines (past_hunk at hunk) shown
past_frame at hunk n shown =
    let s : DiffPosition = past_kept at (take n hunk.kept) in
    let d : List DiffLine = kept_lines (drop n hunk.kept) in
    let c : List DiffLine = changed_lines hunk.changes in
    ap (past_lines s) (sym (append_assoc d c shown)) ∙ past_append s (d ++ c) shown
    ∙ ap (λ t. past_lines t shown) (past_first at hunk n)

-- the lines between two hunks that are left out
abbrev left_out : ℕ → Hunk → List (List ℕ)
left_out context hunk = drop context (take (left_before context hunk) hunk.kept)

left_parts : (context : ℕ) (hunk : Hunk) → context + context < length hunk.kept
    → take (left_before context hunk) hunk.kept ≡ take context hunk.kept ++ left_out context hunk
left_parts context hunk lt =
    let n : ℕ = left_before context hunk in
    sym (take-append-drop context (take n hunk.kept))
    ∙ ap (λ t. t ++ left_out context hunk) (take-take context n hunk.kept (omega (arith, lt)))

left_some : (context : ℕ) (hunk : Hunk) → context + context < length hunk.kept → 0 < length (left_out context hunk)
left_some context hunk lt =
    let n : ℕ = left_before context hunk in
    let whole : length (take n hunk.kept) ≡ n = length-take-le n hunk.kept (omega arith) in
    omega (arith, lt, length-drop context (take n hunk.kept), whole)

far : (context : ℕ) (after : List (List ℕ)) (at : DiffPosition) (hunk : Hunk) (hunks : List Hunk)
    (shown : List DiffLine) (frames : List DiffFrame) → context + context < length hunk.kept
    → IsFollowed after hunks (past_hunk at hunk) shown frames
    → IsFollowed after (hunk ∷ hunks) at (kept_lines (take context hunk.kept))
    (frame_at context at hunk shown ∷ frames)
far context after at hunk hunks shown frames lt h =
    let n : ℕ = left_before context hunk in
    let front : List DiffLine = kept_lines (take context hunk.kept) in
    let left : List (List ℕ) = left_out context hunk in
    let frame : DiffFrame = frame_at context at hunk shown in
    let rest : List DiffLine = kept_lines left ++ (frame.lines ++ h.0) in
    let parts : kept_lines (take n hunk.kept) ≡ front ++ kept_lines left =
    ap kept_lines (left_parts context hunk lt) ∙ map-append DiffLine.kept (take context hunk.kept) left in
    let changed : List DiffLine = changed_lines hunk.changes ++ lines_with after hunks in
    let last : List DiffLine = kept_lines (drop n hunk.kept) in
    let all : lines_with after (hunk ∷ hunks) ≡ front ++ rest =
    ap (λ t. t ++ changed) (kept_parts hunk.kept n) ∙ ap (λ t. (t ++ last) ++ changed) parts
    ∙ append_assoc (front ++ kept_lines left) last changed
    ∙ append_assoc front (kept_lines left) (last ++ changed)
    ∙ ap (λ t. front ++ (kept_lines left ++ t)) (framed after hunk hunks n shown h.0 h.1) in
    let numbered : frame.at ≡ past_lines (past_lines at front) (kept_lines left) =
    sym (past_all_kept at (take n hunk.kept)) ∙ ap (past_lines at) parts
    ∙ past_append at front (kept_lines left) in (
      rest,
      all,
      (
        left,
        h.0,
        refl,
        numbered,
        λ on. left_some context hunk lt,
        subst (λ s. StandAmong true s frames h.0) (sym (past_frame at hunk n shown)) h.2,
      ),
    )

followed_if : (b : Bool) (context : ℕ) (after : List (List ℕ)) (at : DiffPosition) (hunk : Hunk) (hunks : List Hunk)
    → is_near_hunk context hunk ≡ b → IsFollowed after hunks (past_hunk at hunk) (after_hunk context after hunks)
    (frames_from context after true (past_hunk at hunk) hunks)
    → IsFollowed after (hunk ∷ hunks) at (shown_if b context after hunk hunks)
    (frames_if b context after at hunk hunks)
followed_if true context after at hunk hunks e h =
    near after at hunk hunks (after_hunk context after hunks)
    (frames_from context after true (past_hunk at hunk) hunks) h
followed_if false context after at hunk hunks e h =
    far context after at hunk hunks (after_hunk context after hunks)
    (frames_from context after true (past_hunk at hunk) hunks)
    (leb-false (length hunk.kept) (context + context) e) h

followed : (context : ℕ) (after : List (List ℕ)) (at : DiffPosition) (hunks : List Hunk)
    → IsFollowed after hunks at (after_hunk context after hunks) (frames_from context after true at hunks)
followed context after at [] =
    (kept_lines (drop context after), kept_parts after context, (drop context after, refl))
followed context after at (hunk ∷ hunks) =
    followed_if (is_near_hunk context hunk) context after at hunk hunks refl
    (followed context after (past_hunk at hunk) hunks)

stand_from : (context : ℕ) (after : List (List ℕ)) (at : DiffPosition) (hunks : List Hunk)
    → StandAmong false at (frames_from context after false at hunks) (lines_with after hunks)
stand_from context after at [] = (after, refl)
stand_from context after at (hunk ∷ hunks) =
    let n : ℕ = left_before context hunk in
    let shown : List DiffLine = after_hunk context after hunks in
    let frames : List DiffFrame = frames_from context after true (past_hunk at hunk) hunks in
    let h : IsFollowed after hunks (past_hunk at hunk) shown frames =
    followed context after (past_hunk at hunk) hunks in
    let front : List DiffLine = kept_lines (take n hunk.kept) in
    let last : List DiffLine = kept_lines (drop n hunk.kept) in
    let changed : List DiffLine = changed_lines hunk.changes ++ lines_with after hunks in (
      take n hunk.kept,
      h.0,
      ap (λ t. t ++ changed) (kept_parts hunk.kept n) ∙ append_assoc front last changed
          ∙ ap (λ t. front ++ t) (framed after hunk hunks n shown h.0 h.1),
      sym (past_all_kept at (take n hunk.kept)),
      λ on. (let no : false ≡ true = on in cc),
      subst (λ s. StandAmong true s frames h.0) (sym (past_frame at hunk n shown)) h.2,
    )

pub stand : (context : ℕ) (diff : Diff) → StandAmong false at_start (frames_of context diff) (all_lines diff)
stand context diff = stand_from context diff.after_hunks at_start diff.hunks
