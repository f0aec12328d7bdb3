-- Lines that hold no escape: those of clean bytes, what edits with clean texts make of them, and so all lines that are
-- shown of a fix.
use Rattle.std.proofs.Common.{ℕ, zero, suc, ◌+◌, ◌-◌, Bool, true, false, ◌&&◌, List, [], ◌∷◌}
use Rattle.std.proofs.Common.{◌++◌, take, drop, length, refl}
use Rattle.std.specs.Prelude.{nat_le, slice_index, slice_range}
use Rattle.std.specs.List.{AllByRecursion}
use Rattle.miette_lines.proofs.Cases.{by_cases}
use Rattle.miette_lines.specs.rules.Lines.{ends_line}
use Rattle.miette_fixes.specs.rules.Applying.{by_offset, put_edit, text_from}
use Rattle.miette_fixes.specs.rules.Edits.{Replacement, end_of, is_after}
use Rattle.miette_fix_rows.specs.rules.Blocks.{block_from, block_to, blocks, line_texts, new_lines, old_lines}
use Rattle.miette_fix_rows.specs.rules.Blocks.{bytes_of, onto_blocks}
use Rattle.miette_fix_rows.specs.rules.Blocks.{onto_line, edited_between}
use Rattle.miette_fix_rows.specs.rules.DiffFrames.{DiffFrame, DiffLine, DiffPosition, added, added_from, added_with}
use Rattle.miette_fix_rows.specs.rules.DiffFrames.{after_hunk, removed_from}
use Rattle.miette_fix_rows.specs.rules.DiffFrames.{changed_lines, frame_at, frames_from, frames_of, is_near_hunk, kept}
use Rattle.miette_fix_rows.specs.rules.DiffFrames.{kept_lines, left_before, past_hunk, removed, removed_with}
use Rattle.miette_fix_rows.specs.rules.Hunks.{Change, Diff, Hunk, change_of, changes, changes_of, common_before}
use Rattle.miette_fix_rows.specs.rules.Hunks.{common_after, diff, diff_from, has_no_lines, onto_changes, onto_hunks}
use Rattle.miette_fix_rows.specs.rules.Hunks.{onto_kept, removed_lines}
use Rattle.miette_snippet_laws.specs.laws.Clean.{IsClean, IsCleanCode}
use Rattle.miette_snippet_laws.proofs.CleanTexts.{clean_append, clean_cons, clean_drop, clean_first, clean_range}
use Rattle.miette_snippet_laws.proofs.CleanTexts.{clean_rest}
use Rattle.miette_snippet_laws.proofs.CleanTexts.{clean_take}
use Rattle.miette_snippet_laws.proofs.PlainRows.{all_append}

abbrev pub AreClean : List (List ℕ) → Type 0
AreClean lines = AllByRecursion IsClean lines

-- ---- parts of lists

all_take : {A : Type 0} (Q : A → Type 0) (n : ℕ) (xs : List A) → AllByRecursion Q xs → AllByRecursion Q (take n xs)
all_take Q zero xs h = tt
all_take Q (suc n) [] h = tt
all_take Q (suc n) (x ∷ xs) h = (h.0, all_take Q n xs h.1)

all_drop : {A : Type 0} (Q : A → Type 0) (n : ℕ) (xs : List A) → AllByRecursion Q xs → AllByRecursion Q (drop n xs)
all_drop Q zero xs h = h
all_drop Q (suc n) [] h = tt
all_drop Q (suc n) (x ∷ xs) h = all_drop Q n xs h.1

-- ---- the lines of bytes

onto_clean : (byte : ℕ) (lines : List (List ℕ)) → IsCleanCode byte → AreClean lines → AreClean (onto_line byte lines)
onto_clean byte [] h k = (clean_cons byte [] h refl, tt)
onto_clean byte (line ∷ lines) h k = (clean_cons byte line h k.0, k.1)

lines_clean : (bytes : List ℕ) → IsClean bytes → AreClean (line_texts bytes)
lines_clean [] h = tt
lines_clean (byte ∷ bytes) h =
    let first = clean_first byte bytes h in
    let rest = lines_clean bytes (clean_rest byte bytes h) in
    by_cases {C = AreClean (line_texts (byte ∷ bytes))} (ends_line byte (slice_index bytes 0))
    (λ y. rw y (clean_cons byte [] first refl, rest))
    (λ n. rw n (onto_clean byte (line_texts bytes) first rest))

-- ---- edits

abbrev pub AreCleanEdits : List Replacement → Type 0
AreCleanEdits edits = AllByRecursion (λ (edit : Replacement). IsClean edit.text) edits

put_clean : (edit : Replacement) (edits : List Replacement) → IsClean edit.text → AreCleanEdits edits
    → AreCleanEdits (put_edit edit edits)
put_clean edit [] h k = (h, tt)
put_clean edit (next ∷ edits) h k =
    by_cases {C = AreCleanEdits (put_edit edit (next ∷ edits))} (is_after edit next)
    (λ y. rw y (k.0, put_clean edit edits h k.1))
    (λ n. rw n (h, k))

ordered_clean : (edits : List Replacement) → AreCleanEdits edits → AreCleanEdits (by_offset edits)
ordered_clean [] h = tt
ordered_clean (edit ∷ edits) h = put_clean edit (by_offset edits) h.0 (ordered_clean edits h.1)

onto_blocks_clean : (source : List ℕ) (edit : Replacement) (bs : List (List Replacement)) → IsClean edit.text
    → AllByRecursion AreCleanEdits bs → AllByRecursion AreCleanEdits (onto_blocks source edit bs)
onto_blocks_clean source edit [] h k = ((h, tt), tt)
onto_blocks_clean source edit (block ∷ bs) h k =
    by_cases {C = AllByRecursion AreCleanEdits (onto_blocks source edit (block ∷ bs))}
    (nat_le (block_from source block) (end_of edit))
    (λ y. rw y ((h, k.0), k.1))
    (λ n. rw n ((h, tt), k))

blocks_clean : (source : List ℕ) (edits : List Replacement) → AreCleanEdits edits
    → AllByRecursion AreCleanEdits (blocks source edits)
blocks_clean source [] h = tt
blocks_clean source (edit ∷ edits) h =
    onto_blocks_clean source edit (blocks source edits) h.0 (blocks_clean source edits h.1)

text_clean : (source : List ℕ) (at : ℕ) (edits : List Replacement) → IsClean source → AreCleanEdits edits
    → IsClean (text_from source at edits)
text_clean source at [] h k = clean_drop at source h
text_clean source at (edit ∷ edits) h k =
    let kept : List ℕ = slice_range source at edit.span.offset in
    clean_append (kept ++ edit.text) (text_from source (end_of edit) edits)
    (clean_append kept edit.text (clean_range source at edit.span.offset h) k.0)
    (text_clean source (end_of edit) edits h k.1)

-- ---- changes

abbrev pub IsCleanChange : Change → Type 0
IsCleanChange change = AreClean change.removed × AreClean change.added

change_clean : (source : List ℕ) (block : List Replacement) → IsClean source → AreCleanEdits block
    → IsCleanChange (change_of source block)
change_clean source block h k =
    let olds = old_lines source block in
    let news = new_lines source block in
    let after = common_after olds news in
    let before = common_before olds news after in
    let from = block_from source block in
    let to = block_to source block in (
      all_drop IsClean before (take (length olds - after) olds) (all_take IsClean (length olds - after) olds
          (lines_clean (slice_range source from to) (clean_range source from to h))),
      all_drop IsClean before (take (length news - after) news) (all_take IsClean (length news - after) news
          (lines_clean (edited_between source from to block) (text_clean (take to source) from block
          (clean_take to source h) k))),
    )

onto_changes_clean : (change : Change) (cs : List Change) → IsCleanChange change → AllByRecursion IsCleanChange cs
    → AllByRecursion IsCleanChange (onto_changes change cs)
onto_changes_clean change cs h k =
    by_cases {C = AllByRecursion IsCleanChange (onto_changes change cs)}
    (has_no_lines change.removed && has_no_lines change.added) (λ y. rw y k) (λ n. rw n (h, k))

changes_of_clean : (source : List ℕ) (bs : List (List Replacement)) → IsClean source → AllByRecursion AreCleanEdits bs
    → AllByRecursion IsCleanChange (changes_of source bs)
changes_of_clean source [] h k = tt
changes_of_clean source (block ∷ bs) h k =
    onto_changes_clean (change_of source block) (changes_of source bs) (change_clean source block h k.0)
    (changes_of_clean source bs h k.1)

changes_clean : (source : List ℕ) (edits : List Replacement) → IsClean source → AreCleanEdits edits
    → AllByRecursion IsCleanChange (changes source edits)
changes_clean source edits h k =
    changes_of_clean source (blocks source (by_offset edits)) h
    (blocks_clean source (by_offset edits) (ordered_clean edits k))

-- ---- diffs

abbrev pub IsCleanHunk : Hunk → Type 0
IsCleanHunk hunk = AreClean hunk.kept × AllByRecursion IsCleanChange hunk.changes

abbrev pub IsCleanDiff : Diff → Type 0
IsCleanDiff it = AllByRecursion IsCleanHunk it.hunks × AreClean it.after_hunks

onto_kept_clean : (lines : List (List ℕ)) (hunks : List Hunk) (after : List (List ℕ)) → AreClean lines
    → AllByRecursion IsCleanHunk hunks → AreClean after → IsCleanDiff (onto_kept lines hunks after)
onto_kept_clean lines [] after h k j = (tt, all_append IsClean lines after h j)
onto_kept_clean lines (hunk ∷ hunks) after h k j =
    (((all_append IsClean lines hunk.kept h k.0.0, k.0.1), k.1), j)

onto_hunks_clean : (change : Change) (hunks : List Hunk) → IsCleanChange change → AllByRecursion IsCleanHunk hunks
    → AllByRecursion IsCleanHunk (onto_hunks change hunks)
onto_hunks_clean change [] h k = ((tt, (h, tt)), tt)
onto_hunks_clean change (hunk ∷ hunks) h k =
    by_cases {C = AllByRecursion IsCleanHunk (onto_hunks change (hunk ∷ hunks))} (has_no_lines hunk.kept)
    (λ y. rw y ((tt, (h, k.0.1)), k.1))
    (λ n. rw n ((tt, (h, tt)), k))

diff_from_clean : (source : List ℕ) (at : ℕ) (cs : List Change) → IsClean source → AllByRecursion IsCleanChange cs
    → IsCleanDiff (diff_from source at cs)
diff_from_clean source at [] h k = (tt, lines_clean (drop at source) (clean_drop at source h))
diff_from_clean source at (change ∷ cs) h k =
    let rest = diff_from source change.to cs in
    let clean = diff_from_clean source change.to cs h k.1 in
    onto_kept_clean (line_texts (slice_range source at change.from)) (onto_hunks change rest.hunks) rest.after_hunks
    (lines_clean (slice_range source at change.from) (clean_range source at change.from h))
    (onto_hunks_clean change rest.hunks k.0 clean.0) clean.1

-- ---- frames

abbrev pub IsCleanShown : DiffLine → Type 0
IsCleanShown (kept text) = IsClean text
IsCleanShown (removed text other) = IsClean text
IsCleanShown (added text other) = IsClean text

abbrev pub AreCleanShown : List DiffLine → Type 0
AreCleanShown lines = AllByRecursion IsCleanShown lines

kept_clean : (lines : List (List ℕ)) → AreClean lines → AreCleanShown (kept_lines lines)
kept_clean [] h = tt
kept_clean (line ∷ lines) h = (h.0, kept_clean lines h.1)

removed_clean : (n : ℕ) (lines others : List (List ℕ)) → AreClean lines → AreCleanShown (removed_with n lines others)
removed_clean n [] others h = tt
removed_clean n (line ∷ lines) [] h = (h.0, removed_clean n lines [] h.1)
removed_clean n (line ∷ lines) (other ∷ others) h = (h.0, removed_clean (n + length other) lines others h.1)

added_clean : (n : ℕ) (lines others : List (List ℕ)) → AreClean lines → AreCleanShown (added_with n lines others)
added_clean n [] others h = tt
added_clean n (line ∷ lines) [] h = (h.0, added_clean n lines [] h.1)
added_clean n (line ∷ lines) (other ∷ others) h = (h.0, added_clean (n - length other) lines others h.1)

all_removed_clean : (n : ℕ) (cs : List Change) → AllByRecursion IsCleanChange cs → AreCleanShown (removed_from n cs)
all_removed_clean n [] h = tt
all_removed_clean n (c ∷ cs) h =
    all_append IsCleanShown (removed_with n c.removed c.added) (removed_from (n + bytes_of c.added) cs)
    (removed_clean n c.removed c.added h.0.0) (all_removed_clean (n + bytes_of c.added) cs h.1)

all_added_clean : (n : ℕ) (cs : List Change) → AllByRecursion IsCleanChange cs → AreCleanShown (added_from n cs)
all_added_clean n [] h = tt
all_added_clean n (c ∷ cs) h =
    all_append IsCleanShown (added_with n c.added c.removed) (added_from (n - bytes_of c.removed) cs)
    (added_clean n c.added c.removed h.0.1) (all_added_clean (n - bytes_of c.removed) cs h.1)

changed_clean : (cs : List Change) → AllByRecursion IsCleanChange cs → AreCleanShown (changed_lines cs)
changed_clean cs h =
    let all : ℕ = bytes_of (removed_lines cs) in
    all_append IsCleanShown (removed_from 0 cs) (added_from all cs) (all_removed_clean 0 cs h)
    (all_added_clean all cs h)

after_clean : (context : ℕ) (after : List (List ℕ)) (hunks : List Hunk) → AreClean after
    → AllByRecursion IsCleanHunk hunks → AreCleanShown (after_hunk context after hunks)
after_clean context after [] h k = kept_clean (take context after) (all_take IsClean context after h)
after_clean context after (hunk ∷ hunks) h k =
    by_cases {C = AreCleanShown (after_hunk context after (hunk ∷ hunks))} (is_near_hunk context hunk)
    (λ y. rw y (all_append IsCleanShown (kept_lines hunk.kept)
    (changed_lines hunk.changes ++ after_hunk context after hunks) (kept_clean hunk.kept k.0.0)
    (all_append IsCleanShown (changed_lines hunk.changes) (after_hunk context after hunks)
    (changed_clean hunk.changes k.0.1) (after_clean context after hunks h k.1))))
    (λ n. rw n (kept_clean (take context hunk.kept) (all_take IsClean context hunk.kept k.0.0)))

abbrev pub IsCleanFrame : DiffFrame → Type 0
IsCleanFrame frame = AreCleanShown frame.lines

frame_clean : (context : ℕ) (at : DiffPosition) (hunk : Hunk) (later : List DiffLine) → IsCleanHunk hunk
    → AreCleanShown later → IsCleanFrame (frame_at context at hunk later)
frame_clean context at hunk later h k =
    let shown : List (List ℕ) = drop (left_before context hunk) hunk.kept in
    all_append IsCleanShown (kept_lines shown) (changed_lines hunk.changes ++ later)
    (kept_clean shown (all_drop IsClean (left_before context hunk) hunk.kept h.0))
    (all_append IsCleanShown (changed_lines hunk.changes) later (changed_clean hunk.changes h.1) k)

frames_from_clean : (context : ℕ) (after : List (List ℕ)) (goes_on : Bool) (at : DiffPosition) (hunks : List Hunk)
    → AreClean after → AllByRecursion IsCleanHunk hunks
    → AllByRecursion IsCleanFrame (frames_from context after goes_on at hunks)
frames_from_clean context after goes_on at [] h k = tt
frames_from_clean context after goes_on at (hunk ∷ hunks) h k =
    let rest = frames_from_clean context after true (past_hunk at hunk) hunks h k.1 in
    by_cases {C = AllByRecursion IsCleanFrame (frames_from context after goes_on at (hunk ∷ hunks))}
    (goes_on && is_near_hunk context hunk)
    (λ y. rw y rest)
    (λ n. rw n (
      frame_clean context at hunk (after_hunk context after hunks) k.0
          (after_clean context after hunks h k.1),
      rest,
    ))

-- the frames of a fix
pub frames_clean : (context : ℕ) (source : List ℕ) (edits : List Replacement) → IsClean source → AreCleanEdits edits
    → AllByRecursion IsCleanFrame (frames_of context (diff source edits))
frames_clean context source edits h k =
    let it = diff source edits in
    let clean = diff_from_clean source 0 (changes source edits) h (changes_clean source edits h k) in
    frames_from_clean context it.after_hunks false
    (record { old_line = 0; new_line = 0; old_offset = 0; new_offset = 0 }) it.hunks clean.1 clean.0
