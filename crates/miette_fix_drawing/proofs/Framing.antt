-- Frames, lines and segments one after the other.
use Rattle.std.proofs.Common.{ℕ, zero, suc, ◌+◌, ◌-◌, ◌<◌, ◌≤◌, ◌≡◌, get_or, subst, List, [], ◌∷◌, ◌++◌, length}
use Rattle.std.proofs.Common.{take, drop, max, arith, cond}
use Rattle.std.proofs.Common.{refl, sym, ap, ◌∙◌, append_assoc, append-nil, true, false}
use Rattle.std.specs.List.{AllByRecursion}
use Rattle.std.proofs.Math.Seq.{drop-cons}
use Rattle.std.proofs.lemmas.Grind.{flat_map-append}
use Rattle.std.proofs.lemmas.List.{drop-drop, length-drop, nil_from_length, take_rest}
use Rattle.miette_fix_rows.proofs.Texts.{bytes_of-append, bytes_of_texts, texts_drop, texts_take}
use Rattle.miette_style.specs.rules.Rows.{Row}
use Rattle.miette_style.specs.views.Printouts.{Printout, ◌⊕◌}
use Rattle.miette_style.specs.views.Tokens.{rows_tokens}
use Rattle.miette_snippet_frames.proofs.TextRows.{rows_then}
use Rattle.miette_fix_rows.specs.rules.Blocks.{bytes_of, line_texts}
use Rattle.miette_fix_rows.specs.rules.Hunks.{Change, Hunk, removed_lines}
use Rattle.miette_fix_rows.specs.rules.DiffFrames.{DiffFrame, DiffLine, DiffPosition, added_from, added_with}
use Rattle.miette_fix_rows.specs.rules.DiffFrames.{after_hunk, changed_lines, removed_from, removed_with}
use Rattle.miette_fix_rows.specs.rules.DiffFrames.{first_place, frame_at, frames_from, is_near_hunk, kept_lines}
use Rattle.miette_fix_rows.specs.rules.DiffFrames.{left_before, past_hunk, past_kept}
use Rattle.miette_fix_rows.specs.rules.DiffRows.{DiffContext, largest_number, number_of, past, rows_of_diff_line}
use Rattle.miette_fix_rows.specs.rules.DiffRows.{rows_of_diff_lines}
use Rattle.miette_fix_drawing.specs.declared.hunks.Hunk.{Hunk as MadeHunk}
use Rattle.miette_fix_drawing.specs.steps.Framing.{IsFar}
use Rattle.miette_fix_drawing.specs.views.Hunks.{hunks_of}
use Rattle.miette_fix_drawing.specs.declared.segments.Segment.{Segment}
use Rattle.miette_fix_rows.specs.laws.Frames.{past_lines}
use Rattle.miette_fix_rows.proofs.Passing.{past_append, past_whole_hunk}
use Rattle.miette_fix_drawing.specs.steps.Passing.{largest_segments, past_segments, rows_of_segments}
use Rattle.miette_fix_drawing.specs.views.ShownLines.{lines_of_segment, lines_of_segments}

-- ---- lines one after the other

pub rows_append : (c : DiffContext) (at : DiffPosition) (a b : List DiffLine)
    → rows_of_diff_lines c at (a ++ b) ≡ rows_of_diff_lines c at a ++ rows_of_diff_lines c (past_lines at a) b
rows_append c at [] b = refl
rows_append c at (l ∷ a) b =
    ap (λ rows. rows_of_diff_line c at l ++ rows) (rows_append c (past at l) a b)
    ∙ sym (append_assoc (rows_of_diff_line c at l) (rows_of_diff_lines c (past at l) a)
    (rows_of_diff_lines c (past_lines (past at l) a) b))

max_turned : (a b c : ℕ) → max a (max b c) ≡ max (max a b) c
max_turned a b c = omega arith

pub largest_append : (at : DiffPosition) (a b : List DiffLine)
    → largest_number at (a ++ b) ≡ max (largest_number at a) (largest_number (past_lines at a) b)
largest_append at [] b = omega arith
largest_append at (l ∷ a) b =
    ap (max (number_of at l)) (largest_append (past at l) a b)
    ∙ max_turned (number_of at l) (largest_number (past at l) a) (largest_number (past_lines (past at l) a) b)

-- the rows of lines after others, once those of the others are put
pub rows_on : (c : DiffContext) (at next : DiffPosition) (a b : List DiffLine) (p q : Printout) → next ≡ past_lines at a
    → q ≡ p ⊕ rows_tokens (rows_of_diff_lines c at a)
    → q ⊕ rows_tokens (rows_of_diff_lines c next b) ≡ p ⊕ rows_tokens (rows_of_diff_lines c at (a ++ b))
rows_on c at next a b p q e h =
    rows_then (rows_of_diff_lines c at a) (rows_of_diff_lines c next b) p q _ h refl
    ∙ ap (λ s. p ⊕ rows_tokens (rows_of_diff_lines c at a ++ rows_of_diff_lines c s b)) e
    ∙ ap (λ rows. p ⊕ rows_tokens rows) (sym (rows_append c at a b))

-- rows after others, once the others are put
pub rows_done : (rows more all : List Row) (p q r : Printout) → q ≡ p ⊕ rows_tokens rows → all ≡ rows ++ more
    → p ⊕ rows_tokens all ≡ r → q ⊕ rows_tokens more ≡ r
rows_done rows more all p q r h e g =
    rows_then rows more p q _ h refl ∙ ap (λ x. p ⊕ rows_tokens x) (sym e) ∙ g

-- ---- segments one after the other

pub past_of_segments : (at : DiffPosition) (ss : List Segment) → past_segments at ss
    ≡ past_lines at (lines_of_segments ss)
past_of_segments at [] = refl
past_of_segments at (s ∷ ss) =
    past_of_segments (past_lines at (lines_of_segment s)) ss
    ∙ sym (past_append at (lines_of_segment s) (lines_of_segments ss))

pub largest_of_segments : (at : DiffPosition) (ss : List Segment)
    → largest_segments at ss ≡ largest_number at (lines_of_segments ss)
largest_of_segments at [] = refl
largest_of_segments at (s ∷ ss) =
    ap (max (largest_number at (lines_of_segment s))) (largest_of_segments (past_lines at (lines_of_segment s)) ss)
    ∙ sym (largest_append at (lines_of_segment s) (lines_of_segments ss))

pub rows_of_all_segments : (c : DiffContext) (at : DiffPosition) (ss : List Segment)
    → rows_of_segments c at ss ≡ rows_of_diff_lines c at (lines_of_segments ss)
rows_of_all_segments c at [] = refl
rows_of_all_segments c at (s ∷ ss) =
    ap (λ rows. rows_of_diff_lines c at (lines_of_segment s) ++ rows)
    (rows_of_all_segments c (past_lines at (lines_of_segment s)) ss)
    ∙ sym (rows_append c at (lines_of_segment s) (lines_of_segments ss))

-- ---- parts of lines

pub front_texts : (bs : List ℕ) (n k : ℕ) → n ≡ bytes_of (take k (line_texts bs))
    → line_texts (take n bs) ≡ take k (line_texts bs)
front_texts bs n k e = ap (λ m. line_texts (take m bs)) e ∙ texts_take bs k

pub rest_texts : (bs : List ℕ) (n k : ℕ) → n ≡ bytes_of (take k (line_texts bs))
    → line_texts (take (length bs - n) (drop n bs)) ≡ drop k (line_texts bs)
rest_texts bs n k e =
    ap line_texts (take_rest bs n) ∙ ap (λ m. line_texts (drop m bs)) e ∙ texts_drop bs k

-- ---- hunks

near_frames : (context : ℕ) (after : List (List ℕ)) (at : DiffPosition) (hunk : Hunk) (more : List Hunk)
    → is_near_hunk context hunk ≡ true
    → frames_from context after true at (hunk ∷ more) ≡ frames_from context after true (past_hunk at hunk) more
near_frames context after at hunk more e =
    ap (λ b. cond b (frames_from context after true (past_hunk at hunk) more)
    (frame_at context at hunk (after_hunk context after more) ∷ frames_from context after true (past_hunk at hunk)
    more)) e

near_after : (context : ℕ) (after : List (List ℕ)) (hunk : Hunk) (more : List Hunk) → is_near_hunk context hunk ≡ true
    → after_hunk context after (hunk ∷ more)
    ≡ kept_lines hunk.kept ++ (changed_lines hunk.changes ++ after_hunk context after more)
near_after context after hunk more e =
    ap (λ b. cond b (kept_lines hunk.kept ++ (changed_lines hunk.changes ++ after_hunk context after more))
    (kept_lines (take context hunk.kept))) e

pub far_frames : (context : ℕ) (after : List (List ℕ)) (at : DiffPosition) (hunks : List Hunk) → IsFar context hunks
    → frames_from context after true at hunks ≡ frames_from context after false at hunks
far_frames context after at [] far = refl
far_frames context after at (hunk ∷ more) far =
    ap (λ b. cond b (frames_from context after true (past_hunk at hunk) more)
    (frame_at context at hunk (after_hunk context after more) ∷ frames_from context after true (past_hunk at hunk)
    more)) far

-- lines with those of a hunk that is near, and what goes on after it
pub near_lines : (context : ℕ) (after : List (List ℕ)) (hunk : Hunk) (more : List Hunk) (made next : List DiffLine)
    → is_near_hunk context hunk ≡ true → next ≡ made ++ (kept_lines hunk.kept ++ changed_lines hunk.changes)
    → next ++ after_hunk context after more ≡ made ++ after_hunk context after (hunk ∷ more)
near_lines context after hunk more made next e h =
    let kept : List DiffLine = kept_lines hunk.kept in
    let changed : List DiffLine = changed_lines hunk.changes in
    let rest : List DiffLine = after_hunk context after more in
    ap (λ ls. ls ++ rest) h ∙ append_assoc made (kept ++ changed) rest
    ∙ ap (λ ls. made ++ ls) (append_assoc kept changed rest) ∙ ap (λ ls. made ++ ls)
    (sym (near_after context after hunk more e))

pub near_standing : (context : ℕ) (after : List (List ℕ)) (at : DiffPosition) (hunk : Hunk) (more : List Hunk)
    (made next : List DiffLine) → is_near_hunk context hunk ≡ true
    → next ≡ made ++ (kept_lines hunk.kept ++ changed_lines hunk.changes)
    → frames_from context after true (past_lines at next) more
    ≡ frames_from context after true (past_lines at made) (hunk ∷ more)
near_standing context after at hunk more made next e h =
    ap (λ s. frames_from context after true s more)
    (ap (past_lines at) h ∙ past_append at made (kept_lines hunk.kept ++ changed_lines hunk.changes)
    ∙ past_whole_hunk (past_lines at made) hunk)
    ∙ sym (near_frames context after (past_lines at made) hunk more e)

-- ---- the ends of loops

pub item_first : {A : Type 0} (xs : List A) (i : ℕ) (x : A) → i < length xs → x ≡ get_or xs i x
    → drop i xs ≡ x ∷ drop (i + 1) xs
item_first xs i x lt e =
    let next : suc i ≡ i + 1 = omega arith in
    drop-cons xs i x lt ∙ ap (λ y. y ∷ drop (suc i) xs) (sym e) ∙ ap (λ k. x ∷ drop k xs) next

drop_none : {A : Type 0} (xs : List A) (i : ℕ) → length xs ≤ i → drop i xs ≡ []
drop_none xs i le = nil_from_length (drop i xs) (omega (arith, length-drop i xs, le))

pub past_end : (at end : DiffPosition) (ss : List Segment) (i : ℕ) → length ss ≤ i → past_segments at (drop i ss) ≡ end
    → at ≡ end
past_end at end ss i le h = ap (past_segments at) (sym (drop_none ss i le)) ∙ h

pub most_end : (at : DiffPosition) (ss : List Segment) (i most all : ℕ) → length ss ≤ i
    → max most (largest_segments at (drop i ss)) ≡ all → most ≡ all
most_end at ss i most all le h =
    let e : largest_segments at (drop i ss) ≡ 0 = ap (largest_segments at) (drop_none ss i le) in omega (arith, h, e)

pub rows_end : (c : DiffContext) (at : DiffPosition) (ss : List Segment) (i : ℕ) (p r : Printout) → length ss ≤ i
    → p ⊕ rows_tokens (rows_of_segments c at (drop i ss)) ≡ r → p ≡ r
rows_end c at ss i p r le h =
    ap (λ x. p ⊕ rows_tokens (rows_of_segments c at x)) (sym (drop_none ss i le)) ∙ h

-- ---- a whole frame

segments_pushed : (ss : List Segment) (s : Segment)
    → lines_of_segments (ss ++ s ∷ []) ≡ lines_of_segments ss ++ lines_of_segment s
segments_pushed ss s =
    flat_map-append lines_of_segment ss (s ∷ []) ∙ ap (λ x. lines_of_segments ss ++ x) (append-nil (lines_of_segment s))

-- the lines of changes, after a segment more
lines_more : (ss next : List Segment) (own : Segment) (lines more all : List DiffLine) → next ≡ ss ++ own ∷ []
    → lines_of_segment own ≡ lines → lines_of_segments ss ++ (lines ++ more) ≡ all
    → lines_of_segments next ++ more ≡ all
lines_more ss next own lines more all put is h =
    ap (λ x. lines_of_segments x ++ more) put ∙ ap (λ x. x ++ more) (segments_pushed ss own)
    ∙ append_assoc (lines_of_segments ss) (lines_of_segment own) more
    ∙ ap (λ x. lines_of_segments ss ++ (x ++ more)) is ∙ h

-- how many bytes the lines of bytes have
pub texts_size : (bs : List ℕ) (lines : List (List ℕ)) → line_texts bs ≡ lines → length bs ≡ bytes_of lines
texts_size bs lines e = sym (bytes_of_texts bs) ∙ ap bytes_of e

pub removed_more : (ss next : List Segment) (own : Segment) (cs : List Change) (i : ℕ) (change : Change)
    (away after : ℕ) (all : List DiffLine) → i < length cs → change ≡ get_or cs i change → next ≡ ss ++ own ∷ []
    → lines_of_segment own ≡ removed_with away change.removed change.added → after ≡ away + bytes_of change.added
    → lines_of_segments ss ++ removed_from away (drop i cs) ≡ all
    → lines_of_segments next ++ removed_from after (drop (i + 1) cs) ≡ all
removed_more ss next own cs i change away after all lt at put is past h =
    let lines : List DiffLine = removed_with away change.removed change.added in
    lines_more ss next own lines (removed_from after (drop (i + 1) cs)) all put is
    (ap (λ n. lines_of_segments ss ++ (lines ++ removed_from n (drop (i + 1) cs))) past
    ∙ ap (λ xs. lines_of_segments ss ++ removed_from away xs) (sym (item_first cs i change lt at)) ∙ h)

pub added_more : (ss next : List Segment) (own : Segment) (cs : List Change) (i : ℕ) (change : Change)
    (away after : ℕ) (all : List DiffLine) → i < length cs → change ≡ get_or cs i change → next ≡ ss ++ own ∷ []
    → lines_of_segment own ≡ added_with away change.added change.removed → after ≡ away - bytes_of change.removed
    → lines_of_segments ss ++ added_from away (drop i cs) ≡ all
    → lines_of_segments next ++ added_from after (drop (i + 1) cs) ≡ all
added_more ss next own cs i change away after all lt at put is past h =
    let lines : List DiffLine = added_with away change.added change.removed in
    lines_more ss next own lines (added_from after (drop (i + 1) cs)) all put is
    (ap (λ n. lines_of_segments ss ++ (lines ++ added_from n (drop (i + 1) cs))) past
    ∙ ap (λ xs. lines_of_segments ss ++ added_from away xs) (sym (item_first cs i change lt at)) ∙ h)

-- the bytes of the removed lines of changes, counted one by one
pub bytes_more : (cs : List Change) (i size next all : ℕ) (change : Change) → i < length cs
    → change ≡ get_or cs i change → next ≡ size + bytes_of change.removed
    → size + bytes_of (removed_lines (drop i cs)) ≡ all → next + bytes_of (removed_lines (drop (i + 1) cs)) ≡ all
bytes_more cs i size next all change lt at past h =
    let rest : List (List ℕ) = removed_lines (drop (i + 1) cs) in
    let items : bytes_of (removed_lines (drop i cs)) ≡ bytes_of (change.removed ++ rest) =
    ap (λ xs. bytes_of (removed_lines xs)) (item_first cs i change lt at) in
    omega (arith, past, h, items, bytes_of-append change.removed rest)

pub bytes_end : (cs : List Change) (i size all : ℕ) → length cs ≤ i
    → size + bytes_of (removed_lines (drop i cs)) ≡ all → size ≡ all
bytes_end cs i size all le h =
    let none : bytes_of (removed_lines (drop i cs)) ≡ 0 =
    ap (λ xs. bytes_of (removed_lines xs)) (drop_none cs i le) in
    omega (arith, h, none)

pub largest_pushed : (at next : DiffPosition) (ss : List Segment) (s : Segment) (m n : ℕ)
    → m ≡ largest_number at (lines_of_segments ss) → next ≡ past_lines at (lines_of_segments ss)
    → n ≡ max m (largest_number next (lines_of_segment s)) → n ≡ largest_number at (lines_of_segments (ss ++ s ∷ []))
largest_pushed at next ss s m n hm hn h =
    h ∙ ap (λ k. max k (largest_number next (lines_of_segment s))) hm
    ∙ ap (λ x. max (largest_number at (lines_of_segments ss)) (largest_number x (lines_of_segment s))) hn
    ∙ sym (largest_append at (lines_of_segments ss) (lines_of_segment s))
    ∙ ap (largest_number at) (sym (segments_pushed ss s))

-- a frame from its parts: where it begins, the offset that it points to, and its lines in three steps
abbrev framed : DiffPosition → ℕ → List DiffLine → DiffFrame
framed at place lines = record { at = at; place = place; lines = lines }

pub frame_made : (context : ℕ) (after : List (List ℕ)) (at from : DiffPosition) (hunk : Hunk) (rest more : List Hunk)
    (place : ℕ) (first made all : List Segment) (last : Segment)
    → from ≡ past_kept at (take (left_before context hunk) hunk.kept)
    → lines_of_segments first
    ≡ kept_lines (drop (left_before context hunk) hunk.kept) ++ changed_lines hunk.changes
    → place ≡ first_place hunk.changes
    → lines_of_segments made ++ after_hunk context after rest
    ≡ lines_of_segments first ++ after_hunk context after more
    → lines_of_segment last ≡ after_hunk context after rest → all ≡ made ++ last ∷ []
    → framed from place (lines_of_segments all) ≡ frame_at context at hunk (after_hunk context after more)
frame_made context after at from hunk rest more place first made all last begins firsts points goes ends pushed =
    let later : List DiffLine = after_hunk context after more in
    let own : List DiffLine = kept_lines (drop (left_before context hunk) hunk.kept) in
    let changed : List DiffLine = changed_lines hunk.changes in
    let lines : lines_of_segments all ≡ own ++ (changed ++ later) =
    ap lines_of_segments pushed ∙ segments_pushed made last ∙ ap (λ ls. lines_of_segments made ++ ls) ends ∙ goes
    ∙ ap (λ ls. ls ++ later) firsts ∙ append_assoc own changed later in
    ap (λ s. framed s place (lines_of_segments all)) begins
    ∙ ap (λ n. framed (past_kept at (take (left_before context hunk) hunk.kept)) n (lines_of_segments all)) points
    ∙ ap (framed (past_kept at (take (left_before context hunk) hunk.kept)) (first_place hunk.changes)) lines

-- ---- the items of a loop

pub all_more : (P : Hunk → Type 0) (xs ys : List Hunk) (x : Hunk) → xs ≡ x ∷ ys → AllByRecursion P xs
    → AllByRecursion P ys
all_more P xs ys x e h = let k : AllByRecursion P (x ∷ ys) = subst (λ l. AllByRecursion P l) e h in k.1

pub rows_next : (c : DiffContext) (at next : DiffPosition) (ss more : List Segment) (s : Segment) (p q r : Printout)
    → ss ≡ s ∷ more → next ≡ past_lines at (lines_of_segment s)
    → q ≡ p ⊕ rows_tokens (rows_of_diff_lines c at (lines_of_segment s))
    → p ⊕ rows_tokens (rows_of_segments c at ss) ≡ r → q ⊕ rows_tokens (rows_of_segments c next more) ≡ r
rows_next c at next ss more s p q r e n h g =
    ap (λ x. q ⊕ rows_tokens (rows_of_segments c x more)) n
    ∙ rows_done (rows_of_diff_lines c at (lines_of_segment s))
    (rows_of_segments c (past_lines at (lines_of_segment s)) more) (rows_of_segments c at ss) p q r h
    (ap (rows_of_segments c at) e) g

pub all_drop : {A : Type 0} (P : A → Type 0) (n : ℕ) (xs : List A) → AllByRecursion P xs → AllByRecursion P (drop n xs)
all_drop P zero xs h = h
all_drop P (suc n) [] h = h
all_drop P (suc n) (x ∷ xs) h = all_drop P n xs h.1

pub hunks_drop : (n : ℕ) (xs : List MadeHunk) → hunks_of (drop n xs) ≡ drop n (hunks_of xs)
hunks_drop zero xs = refl
hunks_drop (suc n) [] = refl
hunks_drop (suc n) (x ∷ xs) = hunks_drop n xs

-- what is left after some of what is left
pub left_after : {A : Type 0} (xs : List A) (at n : ℕ)
    → drop n (take (length xs - at) (drop at xs)) ≡ drop (at + n) xs
left_after xs at n = ap (drop n) (take_rest xs at) ∙ drop-drop n at xs
