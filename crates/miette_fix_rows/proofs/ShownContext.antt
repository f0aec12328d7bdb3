-- Frames show exactly the lines around changes.
use Rattle.std.proofs.Common.{ℕ, zero, suc, ◌+◌, ◌-◌, ◌<◌, ◌≤◌, ◌≡◌, Bool, true, false, cond, ◌&&◌, List, [], ◌∷◌, ◌++◌}
use Rattle.std.proofs.Common.{length, take, drop, max, inl, inr, ◌⊎◌, refl, sym, ap, ap₂, ◌∙◌, arith, append_assoc}
use Rattle.std.proofs.Common.{append-nil}
use Rattle.std.specs.Prelude.{◌||◌, nat_lt, slice_range}
use Rattle.std.specs.List.{AllByRecursion, list_any}
use Rattle.std.proofs.lemmas.Bool.{cases_lt, le-ltb, leb-false, leb-true, lt-ltb}
use Rattle.std.proofs.lemmas.List.{length-append, map-append, take-append-drop}
use Rattle.miette_lines.proofs.Cases.{by_cases}
use Rattle.miette_fixes.specs.rules.Edits.{Replacement}
use Rattle.miette_fixes.specs.rules.Applying.{by_offset}
use Rattle.miette_fix_rows.specs.laws.Frames.{all_lines, at_start, lines_with}
use Rattle.miette_fix_rows.specs.rules.Blocks.{blocks, bytes_of, line_texts}
use Rattle.miette_fix_rows.specs.rules.DiffFrames.{DiffLine, DiffPosition, added_from, added_with}
use Rattle.miette_fix_rows.specs.rules.DiffFrames.{after_hunk, removed_from}
use Rattle.miette_fix_rows.specs.rules.DiffFrames.{changed_lines, frames_from, frames_of, is_near_hunk}
use Rattle.miette_fix_rows.specs.rules.DiffFrames.{kept_lines, left_before}
use Rattle.miette_fix_rows.specs.rules.DiffFrames.{past_hunk, removed_with, kept, removed, added}
use Rattle.miette_fix_rows.specs.rules.Hunks.{Change, Diff, Hunk, change_of, changes, changes_of, diff, diff_from}
use Rattle.miette_fix_rows.specs.rules.Hunks.{has_no_lines, onto_hunks, onto_kept, removed_lines}
use Rattle.miette_fix_rows.proofs.NearHunks.{frames_if, shown_if}
use Rattle.miette_fix_rows.specs.laws.Context.{is_changed, lines_of_frames, shown_after, shown_lines}

-- ---- how many lines are still shown after a change

-- of lines before, from the last one back, by the number of context lines
abbrev left_over : ℕ → List DiffLine → ℕ
left_over zero before = 0
left_over (suc n) [] = 0
left_over (suc n) (line ∷ before) = cond (is_changed line) (suc n) (left_over n before)

any_left : (n : ℕ) (before : List DiffLine) → list_any is_changed (take n before) ≡ nat_lt 0 (left_over n before)
any_left zero before = refl
any_left (suc n) [] = refl
any_left (suc n) (kept text ∷ before) = any_left n before
any_left (suc n) (removed text other ∷ before) = sym (lt-ltb 0 (suc n) (omega arith))
any_left (suc n) (added text other ∷ before) = sym (lt-ltb 0 (suc n) (omega arith))

no_lines : (n : ℕ) → left_over n [] ≡ 0
no_lines zero = refl
no_lines (suc n) = refl

down : (n : ℕ) (before : List DiffLine) → left_over n before ≡ left_over (suc n) before - 1
down zero [] = omega arith
down zero (kept text ∷ before) = omega arith
down zero (removed text other ∷ before) = omega arith
down zero (added text other ∷ before) = omega arith
down (suc n) [] = omega arith
down (suc n) (kept text ∷ before) = down n before
down (suc n) (removed text other ∷ before) = omega arith
down (suc n) (added text other ∷ before) = omega arith

after_kept : (n : ℕ) (text : List ℕ) (before : List DiffLine)
    → left_over n (kept text ∷ before) ≡ left_over n before - 1
after_kept zero text before = omega arith
after_kept (suc n) text before = down n before

after_changed : (n : ℕ) (line : DiffLine) (before : List DiffLine) → is_changed line ≡ true
    → left_over n (line ∷ before) ≡ n
after_changed zero line before e = refl
after_changed (suc n) line before e = ap (λ b. cond b (suc n) (left_over n before)) e

-- the lines that are shown, of which `left` are still shown after a change
abbrev shown_with : ℕ → ℕ → List DiffLine → List DiffLine
shown_with context left [] = []
shown_with context left (line ∷ lines) =
    cond (is_changed line) (line ∷ shown_with context context lines)
    (cond (nat_lt 0 left || list_any is_changed (take context lines)) (line ∷ shown_with context (left - 1) lines)
    (shown_with context (left - 1) lines))

shown_same : (context : ℕ) (before lines : List DiffLine)
    → shown_after context before lines ≡ shown_with context (left_over context before) lines
shown_same context before [] = refl
shown_same context before (kept text ∷ lines) =
    let line : DiffLine = kept text in
    let left : ℕ = left_over context before in
    let soon : Bool = list_any is_changed (take context lines) in
    let rest : List DiffLine = shown_after context (line ∷ before) lines in
    ap (λ b. cond (b || soon) (line ∷ rest) rest) (any_left context before)
    ∙ ap (λ ls. cond (nat_lt 0 left || soon) (line ∷ ls) ls)
    (shown_same context (line ∷ before) lines
    ∙ ap (λ n. shown_with context n lines) (after_kept context text before))
shown_same context before (removed text other ∷ lines) =
    let line : DiffLine = removed text other in
    ap (λ ls. line ∷ ls) (shown_same context (line ∷ before) lines
    ∙ ap (λ n. shown_with context n lines) (after_changed context line before refl))
shown_same context before (added text other ∷ lines) =
    let line : DiffLine = added text other in
    ap (λ ls. line ∷ ls) (shown_same context (line ∷ before) lines
    ∙ ap (λ n. shown_with context n lines) (after_changed context line before refl))

-- ---- unchanged lines

ahead_near : (m : ℕ) (ls : List (List ℕ)) (c : DiffLine) (rest : List DiffLine) → is_changed c ≡ true
    → length ls < m → list_any is_changed (take m (kept_lines ls ++ (c ∷ rest))) ≡ true
ahead_near zero ls c rest e lt = absurd (omega (arith, lt))
ahead_near (suc m) [] c rest e lt = ap (λ b. b || list_any is_changed (take m rest)) e
ahead_near (suc m) (l ∷ ls) c rest e lt = ahead_near m ls c rest e (omega (arith, lt))

ahead_far : (m : ℕ) (ls : List (List ℕ)) (c : DiffLine) (rest : List DiffLine) → m ≤ length ls
    → list_any is_changed (take m (kept_lines ls ++ (c ∷ rest))) ≡ false
ahead_far zero ls c rest le = refl
ahead_far (suc m) [] c rest le = absurd (omega (arith, le))
ahead_far (suc m) (l ∷ ls) c rest le = ahead_far m ls c rest (omega (arith, le))

ahead_none : (m : ℕ) (ls : List (List ℕ)) → list_any is_changed (take m (kept_lines ls)) ≡ false
ahead_none zero ls = refl
ahead_none (suc m) [] = refl
ahead_none (suc m) (l ∷ ls) = ahead_none m ls

-- of unchanged lines between two changes those that are shown, of which `left` are still shown after the first
abbrev part : ℕ → ℕ → List (List ℕ) → List (List ℕ)
part context left ls = take left ls ++ drop (max left (length ls - context)) ls

drop_nothing : (n : ℕ) → drop {A = List ℕ} n [] ≡ []
drop_nothing zero = refl
drop_nothing (suc n) = refl

part_nothing : (context left : ℕ) → part context left [] ≡ []
part_nothing context zero = drop_nothing (max 0 (0 - context))
part_nothing context (suc left) = drop_nothing (max (suc left) (0 - context))

part_one : (context m : ℕ) (l : List ℕ) (ls : List (List ℕ)) → part context (suc m) (l ∷ ls) ≡ l ∷ part context m ls
part_one context m l ls =
    let n : max (suc m) (length (l ∷ ls) - context) ≡ suc (max m (length ls - context)) = omega arith in
    ap (λ k. (l ∷ take m ls) ++ drop k (l ∷ ls)) n

part_near : (context : ℕ) (l : List ℕ) (ls : List (List ℕ)) → length ls < context
    → part context 0 (l ∷ ls) ≡ l ∷ part context 0 ls
part_near context l ls lt =
    let n : max 0 (length (l ∷ ls) - context) ≡ 0 = omega (arith, lt) in
    let m : 0 ≡ max 0 (length ls - context) = omega (arith, lt) in
    ap (λ k. drop k (l ∷ ls)) n ∙ ap (λ k. l ∷ drop k ls) m

part_far : (context : ℕ) (l : List ℕ) (ls : List (List ℕ)) → context ≤ length ls
    → part context 0 (l ∷ ls) ≡ part context 0 ls
part_far context l ls le =
    let n : max 0 (length (l ∷ ls) - context) ≡ suc (max 0 (length ls - context)) = omega (arith, le) in
    ap (λ k. drop k (l ∷ ls)) n

some_left : (m : ℕ) → nat_lt 0 (suc m) ≡ true
some_left m = lt-ltb 0 (suc m) (omega arith)

none_left : nat_lt 0 0 ≡ false
none_left = le-ltb 0 0 (omega arith)

-- an unchanged line in front of others
abbrev kept_with : ℕ → ℕ → List ℕ → List DiffLine → Bool → Bool → List DiffLine
kept_with context left l lines a b =
    cond (a || b) (kept l ∷ shown_with context (left - 1) lines) (shown_with context (left - 1) lines)

-- where none is still shown after a change
next_run : (context : ℕ) (l : List ℕ) (ls : List (List ℕ)) (c : DiffLine) (rest : List DiffLine)
    → is_changed c ≡ true
    → shown_with context 0 (kept_lines ls ++ (c ∷ rest))
    ≡ kept_lines (part context 0 ls) ++ (c ∷ shown_with context context rest)
    → (length ls < context) ⊎ (context ≤ length ls)
    → kept_with context 0 l (kept_lines ls ++ (c ∷ rest)) false
    (list_any is_changed (take context (kept_lines ls ++ (c ∷ rest))))
    ≡ kept_lines (part context 0 (l ∷ ls)) ++ (c ∷ shown_with context context rest)
next_run context l ls c rest e h (inl lt) =
    let lines : List DiffLine = kept_lines ls ++ (c ∷ rest) in
    let less : 0 - 1 ≡ 0 = omega arith in
    ap (λ b. kept_with context 0 l lines false b) (ahead_near context ls c rest e lt)
    ∙ ap (λ n. kept l ∷ shown_with context n lines) less ∙ ap (λ t. kept l ∷ t) h
    ∙ ap (λ t. kept_lines t ++ (c ∷ shown_with context context rest)) (sym (part_near context l ls lt))
next_run context l ls c rest e h (inr le) =
    let lines : List DiffLine = kept_lines ls ++ (c ∷ rest) in
    let less : 0 - 1 ≡ 0 = omega arith in
    ap (λ b. kept_with context 0 l lines false b) (ahead_far context ls c rest le)
    ∙ ap (λ n. shown_with context n lines) less ∙ h
    ∙ ap (λ t. kept_lines t ++ (c ∷ shown_with context context rest)) (sym (part_far context l ls le))

kept_run : (context left : ℕ) (ls : List (List ℕ)) (c : DiffLine) (rest : List DiffLine) → is_changed c ≡ true
    → shown_with context left (kept_lines ls ++ (c ∷ rest))
    ≡ kept_lines (part context left ls) ++ (c ∷ shown_with context context rest)
kept_run context left [] c rest e =
    ap (λ b. cond b (c ∷ shown_with context context rest)
    (cond (nat_lt 0 left || list_any is_changed (take context rest)) (c ∷ shown_with context (left - 1) rest)
    (shown_with context (left - 1) rest))) e
    ∙ ap (λ ls. kept_lines ls ++ (c ∷ shown_with context context rest)) (sym (part_nothing context left))
kept_run context (suc m) (l ∷ ls) c rest e =
    let lines : List DiffLine = kept_lines ls ++ (c ∷ rest) in
    let soon : Bool = list_any is_changed (take context lines) in
    let less : suc m - 1 ≡ m = omega arith in
    ap (λ b. kept_with context (suc m) l lines b soon) (some_left m)
    ∙ ap (λ n. kept l ∷ shown_with context n lines) less
    ∙ ap (λ ls. kept l ∷ ls) (kept_run context m ls c rest e)
    ∙ ap (λ ls. kept_lines ls ++ (c ∷ shown_with context context rest)) (sym (part_one context m l ls))
kept_run context zero (l ∷ ls) c rest e =
    let lines : List DiffLine = kept_lines ls ++ (c ∷ rest) in
    ap (λ b. kept_with context 0 l lines b (list_any is_changed (take context lines))) none_left
    ∙ next_run context l ls c rest e (kept_run context 0 ls c rest e) (cases_lt (length ls) context)

take_nothing : (n : ℕ) → take {A = List ℕ} n [] ≡ []
take_nothing zero = refl
take_nothing (suc n) = refl

kept_end : (context left : ℕ) (ls : List (List ℕ))
    → shown_with context left (kept_lines ls) ≡ kept_lines (take left ls)
kept_end context left [] = ap kept_lines (sym (take_nothing left))
kept_end context (suc m) (l ∷ ls) =
    let lines : List DiffLine = kept_lines ls in
    let soon : Bool = list_any is_changed (take context lines) in
    let less : suc m - 1 ≡ m = omega arith in
    ap (λ b. kept_with context (suc m) l lines b soon) (some_left m)
    ∙ ap (λ n. kept l ∷ shown_with context n lines) less
    ∙ ap (λ ls. kept l ∷ ls) (kept_end context m ls)
kept_end context zero (l ∷ ls) =
    let lines : List DiffLine = kept_lines ls in
    let soon : Bool = list_any is_changed (take context lines) in
    let less : 0 - 1 ≡ 0 = omega arith in
    ap (λ b. kept_with context 0 l lines b soon) none_left
    ∙ ap (λ b. kept_with context 0 l lines false b) (ahead_none context ls)
    ∙ ap (λ n. shown_with context n lines) less ∙ kept_end context 0 ls

-- ---- changed lines

abbrev AreChanged : List DiffLine → Type 0
AreChanged lines = AllByRecursion (λ line. is_changed line ≡ true) lines

changed_run : (context : ℕ) (cs rest : List DiffLine) → AreChanged cs
    → shown_with context context (cs ++ rest) ≡ cs ++ shown_with context context rest
changed_run context [] rest h = refl
changed_run context (c ∷ cs) rest h =
    let lines : List DiffLine = cs ++ rest in
    ap (λ b. cond b (c ∷ shown_with context context lines)
    (cond (nat_lt 0 context || list_any is_changed (take context lines)) (c ∷ shown_with context (context - 1) lines)
    (shown_with context (context - 1) lines))) h.0
    ∙ ap (λ ls. c ∷ ls) (changed_run context cs rest h.1)

hunk_run : (context left : ℕ) (ls : List (List ℕ)) (cs rest : List DiffLine) → AreChanged cs → 0 < length cs
    → shown_with context left (kept_lines ls ++ (cs ++ rest))
    ≡ kept_lines (part context left ls) ++ (cs ++ shown_with context context rest)
hunk_run context left ls [] rest h some = absurd (omega (arith, some))
hunk_run context left ls (c ∷ cs) rest h some =
    kept_run context left ls c (cs ++ rest) h.0
    ∙ ap (λ lines. kept_lines (part context left ls) ++ (c ∷ lines)) (changed_run context cs rest h.1)

both_changed : (a b : List DiffLine) → AreChanged a → AreChanged b → AreChanged (a ++ b)
both_changed [] b h k = k
both_changed (c ∷ a) b h k = (h.0, both_changed a b h.1 k)

removed_changed : (n : ℕ) (ls os : List (List ℕ)) → AreChanged (removed_with n ls os)
removed_changed n [] os = tt
removed_changed n (l ∷ ls) [] = (refl, removed_changed n ls [])
removed_changed n (l ∷ ls) (o ∷ os) = (refl, removed_changed (n + length o) ls os)

added_changed : (n : ℕ) (ls os : List (List ℕ)) → AreChanged (added_with n ls os)
added_changed n [] os = tt
added_changed n (l ∷ ls) [] = (refl, added_changed n ls [])
added_changed n (l ∷ ls) (o ∷ os) = (refl, added_changed (n - length o) ls os)

gone_changed : (n : ℕ) (cs : List Change) → AreChanged (removed_from n cs)
gone_changed n [] = tt
gone_changed n (c ∷ cs) =
    both_changed (removed_with n c.removed c.added) (removed_from (n + bytes_of c.added) cs)
    (removed_changed n c.removed c.added) (gone_changed (n + bytes_of c.added) cs)

come_changed : (n : ℕ) (cs : List Change) → AreChanged (added_from n cs)
come_changed n [] = tt
come_changed n (c ∷ cs) =
    both_changed (added_with n c.added c.removed) (added_from (n - bytes_of c.removed) cs)
    (added_changed n c.added c.removed) (come_changed (n - bytes_of c.removed) cs)

all_changed : (cs : List Change) → AreChanged (changed_lines cs)
all_changed cs =
    let all : ℕ = bytes_of (removed_lines cs) in
    both_changed (removed_from 0 cs) (added_from all cs) (gone_changed 0 cs) (come_changed all cs)

-- ---- frames

-- a hunk changes something
abbrev IsChanging : Hunk → Type 0
IsChanging hunk = 0 < length (changed_lines hunk.changes)

part_whole : (context : ℕ) (ls : List (List ℕ)) → length ls ≤ context + context → part context context ls ≡ ls
part_whole context ls le =
    let n : max context (length ls - context) ≡ context = omega (arith, le) in
    ap (λ k. take context ls ++ drop k ls) n ∙ take-append-drop context ls

part_apart : (context : ℕ) (ls : List (List ℕ)) → context + context < length ls
    → kept_lines (part context context ls) ≡ kept_lines (take context ls) ++ kept_lines (drop (length ls - context) ls)
part_apart context ls lt =
    let n : max context (length ls - context) ≡ length ls - context = omega (arith, lt) in
    ap (λ k. kept_lines (take context ls ++ drop k ls)) n
    ∙ map-append kept (take context ls) (drop (length ls - context) ls)

part_first : (context : ℕ) (ls : List (List ℕ)) → part context 0 ls ≡ drop (length ls - context) ls
part_first context ls =
    let n : max 0 (length ls - context) ≡ length ls - context = omega arith in ap (λ k. drop k ls) n

-- what stands in a frame from a hunk on, and the frames after it
framed : (a b shown more rest : List DiffLine) → shown ++ more ≡ rest
    → (a ++ (b ++ shown)) ++ more ≡ a ++ (b ++ rest)
framed a b shown more rest e =
    append_assoc a (b ++ shown) more ∙ ap (λ t. a ++ t) (append_assoc b shown more) ∙ ap (λ t. a ++ (b ++ t)) e

next_shown : (b : Bool) (context : ℕ) (after : List (List ℕ)) (at : DiffPosition) (hunk : Hunk) (hunks : List Hunk)
    → is_near_hunk context hunk ≡ b → IsChanging hunk
    → after_hunk context after hunks ++ lines_of_frames (frames_from context after true (past_hunk at hunk) hunks)
    ≡ shown_with context context (lines_with after hunks)
    → shown_if b context after hunk hunks ++ lines_of_frames (frames_if b context after at hunk hunks)
    ≡ shown_with context context (lines_with after (hunk ∷ hunks))
next_shown true context after at hunk hunks near some e =
    let changed : List DiffLine = changed_lines hunk.changes in
    let rest : List DiffLine = shown_with context context (lines_with after hunks) in
    framed (kept_lines hunk.kept) changed (after_hunk context after hunks)
    (lines_of_frames (frames_from context after true (past_hunk at hunk) hunks)) rest e
    ∙ ap (λ ls. kept_lines ls ++ (changed ++ rest))
    (sym (part_whole context hunk.kept (leb-true (length hunk.kept) (context + context) near)))
    ∙ sym (hunk_run context context hunk.kept changed (lines_with after hunks) (all_changed hunk.changes) some)
next_shown false context after at hunk hunks near some e =
    let changed : List DiffLine = changed_lines hunk.changes in
    let rest : List DiffLine = shown_with context context (lines_with after hunks) in
    let front : List DiffLine = kept_lines (take context hunk.kept) in
    let last : List DiffLine = kept_lines (drop (left_before context hunk) hunk.kept) in
    let lt : context + context < length hunk.kept = leb-false (length hunk.kept) (context + context) near in
    ap (λ t. front ++ t) (framed last changed (after_hunk context after hunks)
    (lines_of_frames (frames_from context after true (past_hunk at hunk) hunks)) rest e)
    ∙ sym (append_assoc front last (changed ++ rest))
    ∙ ap (λ t. t ++ (changed ++ rest)) (sym (part_apart context hunk.kept lt))
    ∙ sym (hunk_run context context hunk.kept changed (lines_with after hunks) (all_changed hunk.changes) some)

after_shown : (context : ℕ) (after : List (List ℕ)) (at : DiffPosition) (hunks : List Hunk)
    → AllByRecursion IsChanging hunks
    → after_hunk context after hunks ++ lines_of_frames (frames_from context after true at hunks)
    ≡ shown_with context context (lines_with after hunks)
after_shown context after at [] h =
    append-nil (kept_lines (take context after)) ∙ sym (kept_end context context after)
after_shown context after at (hunk ∷ hunks) h =
    next_shown (is_near_hunk context hunk) context after at hunk hunks refl h.0
    (after_shown context after (past_hunk at hunk) hunks h.1)

all_shown : (context : ℕ) (after : List (List ℕ)) (at : DiffPosition) (hunks : List Hunk)
    → AllByRecursion IsChanging hunks
    → lines_of_frames (frames_from context after false at hunks) ≡ shown_with context 0 (lines_with after hunks)
all_shown context after at [] h = sym (kept_end context 0 after)
all_shown context after at (hunk ∷ hunks) h =
    let changed : List DiffLine = changed_lines hunk.changes in
    let rest : List DiffLine = shown_with context context (lines_with after hunks) in
    framed (kept_lines (drop (left_before context hunk) hunk.kept)) changed (after_hunk context after hunks)
    (lines_of_frames (frames_from context after true (past_hunk at hunk) hunks)) rest
    (after_shown context after (past_hunk at hunk) hunks h.1)
    ∙ ap (λ ls. kept_lines ls ++ (changed ++ rest)) (sym (part_first context hunk.kept))
    ∙ sym (hunk_run context 0 hunk.kept changed (lines_with after hunks) (all_changed hunk.changes) h.0)

-- ---- the hunks of edits change something

-- a line is removed or added
abbrev HasLines : Change → Type 0
HasLines change = (has_no_lines change.removed && has_no_lines change.added) ≡ false

removed_many : (n : ℕ) (ls os : List (List ℕ)) → length (removed_with n ls os) ≡ length ls
removed_many n [] os = refl
removed_many n (l ∷ ls) [] = ap suc (removed_many n ls [])
removed_many n (l ∷ ls) (o ∷ os) = ap suc (removed_many (n + length o) ls os)

added_many : (n : ℕ) (ls os : List (List ℕ)) → length (added_with n ls os) ≡ length ls
added_many n [] os = refl
added_many n (l ∷ ls) [] = ap suc (added_many n ls [])
added_many n (l ∷ ls) (o ∷ os) = ap suc (added_many (n - length o) ls os)

either_some : (ls ms : List (List ℕ)) → (has_no_lines ls && has_no_lines ms) ≡ false → 0 < length ls + length ms
either_some [] [] h = absurd (cc)
either_some [] (m ∷ ms) h = omega arith
either_some (l ∷ ls) ms h = omega arith

one_changing : (change : Change) (more : List Change) (front : List (List ℕ)) → HasLines change
    → IsChanging (record { kept = front; changes = change ∷ more })
one_changing change more front h =
    let whole : ℕ = bytes_of (removed_lines (change ∷ more)) in
    let r : List DiffLine = removed_with 0 change.removed change.added in
    let a : List DiffLine = added_with whole change.added change.removed in
    let gone : List DiffLine = removed_from (0 + bytes_of change.added) more in
    let come : List DiffLine = added_from (whole - bytes_of change.removed) more in
    let all : length (changed_lines (change ∷ more)) ≡ length r + length gone + (length a + length come) =
    length-append (r ++ gone) (a ++ come) ∙ ap₂ (λ m n. m + n) (length-append r gone) (length-append a come) in
    let some : 0 < length change.removed + length change.added = either_some change.removed change.added h in
    omega (
      arith,
      all,
      some,
      removed_many 0 change.removed change.added,
      added_many whole change.added change.removed,
    )

kept_changing : (lines : List (List ℕ)) (hunks : List Hunk) (after : List (List ℕ)) → AllByRecursion IsChanging hunks
    → AllByRecursion IsChanging (onto_kept lines hunks after).hunks
kept_changing lines [] after h = h
kept_changing lines (hunk ∷ hunks) after h = h

change_changing : (change : Change) (hunks : List Hunk) → HasLines change → AllByRecursion IsChanging hunks
    → AllByRecursion IsChanging (onto_hunks change hunks)
change_changing change [] c h = (one_changing change [] [] c, tt)
change_changing change (hunk ∷ hunks) c h =
    by_cases {C = AllByRecursion IsChanging (onto_hunks change (hunk ∷ hunks))} (has_no_lines hunk.kept)
    (λ t. rw t (one_changing change hunk.changes [] c, h.1)) (λ f. rw f (one_changing change [] [] c, h))

hunks_changing : (source : List ℕ) (at : ℕ) (cs : List Change) → AllByRecursion HasLines cs
    → AllByRecursion IsChanging (diff_from source at cs).hunks
hunks_changing source at [] h = tt
hunks_changing source at (c ∷ cs) h =
    let rest : Diff = diff_from source c.to cs in
    kept_changing (line_texts (slice_range source at c.from)) (onto_hunks c rest.hunks) rest.after_hunks
    (change_changing c rest.hunks h.0 (hunks_changing source c.to cs h.1))

changes_have_lines : (source : List ℕ) (bs : List (List Replacement)) → AllByRecursion HasLines (changes_of source bs)
changes_have_lines source [] = tt
changes_have_lines source (block ∷ bs) =
    let c : Change = change_of source block in
    by_cases {C = AllByRecursion HasLines (changes_of source (block ∷ bs))}
    (has_no_lines c.removed && has_no_lines c.added)
    (λ t. rw t (changes_have_lines source bs)) (λ f. rw f (f, changes_have_lines source bs))

-- the lines in the frames of edits are those that are shown
pub frames_show : (context : ℕ) (source : List ℕ) (edits : List Replacement)
    → lines_of_frames (frames_of context (diff source edits))
    ≡ shown_lines context (all_lines (diff source edits))
frames_show context source edits =
    let d : Diff = diff source edits in
    all_shown context d.after_hunks at_start d.hunks
    (hunks_changing source 0 (changes source edits) (changes_have_lines source (blocks source (by_offset edits))))
    ∙ ap (λ n. shown_with context n (all_lines d)) (sym (no_lines context))
    ∙ sym (shown_same context [] (all_lines d))
