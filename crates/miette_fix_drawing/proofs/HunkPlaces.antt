-- Where hunks point to, and where they stand.
use Rattle.std.proofs.Common.{ℕ, ◌-◌, ◌≡◌, ◌≤◌, List, [], ◌∷◌, ◌++◌, length, take, drop, sym, ap, ap₂}
use Rattle.std.proofs.Common.{◌∙◌, subst, arith}
use Rattle.std.specs.Prelude.{slice_range}
use Rattle.std.specs.List.{AllByRecursion}
use Rattle.miette_lines.proofs.Cases.{by_cases}
use Rattle.miette_lines.proofs.Parts.{part_length}
use Rattle.miette_fix_rows.specs.rules.Blocks.{line_texts}
use Rattle.miette_fix_rows.specs.rules.Hunks.{Change, Diff, Hunk, diff_from, has_no_lines, onto_hunks, onto_kept}
use Rattle.miette_fix_drawing.specs.declared.hunks.Hunk.{Hunk as MadeHunk}
use Rattle.miette_fix_drawing.specs.steps.Framing.{PointsWithin}
use Rattle.miette_fix_drawing.specs.steps.Places.{HunkIsIn}
use Rattle.miette_fix_drawing.specs.steps.Rising.{AreRising}

kept_within : (size : ℕ) (lines : List (List ℕ)) (hunks : List Hunk) (after : List (List ℕ))
    → AllByRecursion (PointsWithin size) hunks
    → AllByRecursion (PointsWithin size) (onto_kept lines hunks after).hunks
kept_within size lines [] after h = h
kept_within size lines (hunk ∷ hunks) after h = h

change_within : (size : ℕ) (change : Change) (hunks : List Hunk) → change.place ≤ size
    → AllByRecursion (PointsWithin size) hunks → AllByRecursion (PointsWithin size) (onto_hunks change hunks)
change_within size change [] le h = (le, tt)
change_within size change (hunk ∷ hunks) le h =
    by_cases {C = AllByRecursion (PointsWithin size) (onto_hunks change (hunk ∷ hunks))} (has_no_lines hunk.kept)
    (λ t. rw t (le, h.1)) (λ f. rw f (le, h))

pub hunks_within : (source : List ℕ) (size at : ℕ) (changes : List Change) → AreRising size at changes
    → AllByRecursion (PointsWithin size) (diff_from source at changes).hunks
hunks_within source size at [] h = tt
hunks_within source size at (c ∷ cs) h =
    let rest : Diff = diff_from source c.to cs in
    kept_within size (line_texts (slice_range source at c.from)) (onto_hunks c rest.hunks) rest.after_hunks
    (change_within size c rest.hunks h.3 (hunks_within source size c.to cs h.4))

-- ---- where they stand

all_pushed : (P : MadeHunk → Type 0) (xs : List MadeHunk) (x : MadeHunk) → AllByRecursion P xs → P x
    → AllByRecursion P (xs ++ x ∷ [])
all_pushed P [] x h p = (p, tt)
all_pushed P (y ∷ xs) x h p = (h.0, all_pushed P xs x h.1 p)

-- one more that stands in the source
pub stand_put : (source : List ℕ) (at from : ℕ) (xs ys : List MadeHunk) (hunk : MadeHunk) → at ≤ from
    → from ≤ length source → hunk.at ≡ at → hunk.kept.now ≡ slice_range source at from
    → AllByRecursion (HunkIsIn source) xs → ys ≡ xs ++ hunk ∷ [] → AllByRecursion (HunkIsIn source) ys
stand_put source at from xs ys hunk le within a k h e =
    let long : length hunk.kept.now ≡ from - at = ap length k ∙ part_length source at from within in
    let stands : HunkIsIn source hunk = record {
      kept = k ∙ ap₂ (λ n o. take n (drop o source)) (sym long) (sym a);
      within = omega (arith, long, a, le, within);
    } in
    subst (AllByRecursion (HunkIsIn source)) (sym e) (all_pushed (HunkIsIn source) xs hunk h stands)
