-- The hunks of changes, one after the other.
use Rattle.std.proofs.Common.{ℕ, ◌-◌, ◌<◌, ◌≤◌, ◌≡◌, true, false, eqb, zero, suc, get_or, List, [], ◌∷◌, ◌++◌}
use Rattle.std.proofs.Common.{length, take, drop, refl, sym, ap, ap₂, ◌∙◌, subst, inl, inr, arith}
use Rattle.std.specs.Prelude.{slice_range}
use Rattle.std.proofs.lemmas.Bool.{cases_lt, eqb-true, eqb-false}
use Rattle.std.proofs.lemmas.Bool.Decides.{eqb_tells}
use Rattle.std.proofs.lemmas.List.{append-nil}
use Rattle.miette_lines.proofs.Cases.{by_cases}
use Rattle.miette_lines.proofs.Parts.{part_length}
use Rattle.miette_fix_rows.specs.rules.Blocks.{line_texts}
use Rattle.miette_fix_rows.specs.rules.Hunks.{Change, Diff, Hunk, diff_from, has_no_lines, with_change}
use Rattle.miette_fix_rows.specs.rules.Hunks.{with_kept}
use Rattle.miette_fix_rows.proofs.Texts.{some_lines}
use Rattle.miette_fix_drawing.specs.declared.hunks.Hunk.{Hunk as MadeHunk}
use Rattle.miette_fix_drawing.specs.steps.Rising.{AreRising, joined, joined_end}
use Rattle.miette_fix_drawing.specs.views.Hunks.{hunk_of, hunks_of}

apart_by : (at from : ℕ) → at ≤ from → eqb from at ≡ false → at < from
apart_by at from le f =
    elim (cases_lt at from) [
      | inl h ↦ omega (arith, h)
      | inr h ↦ (let e : from ≡ at = omega (arith, le, h) in absurd (eqb-false from at f e))
    ]

-- ---- a change before hunks

none_between : (source : List ℕ) (at : ℕ) → slice_range source at at ≡ []
none_between source at = let e : at - at ≡ 0 = omega arith in ap (λ n. take n (drop at source)) e

-- hunks of which the first has these changes
abbrev headed : List (List ℕ) → List Change → Diff → Diff
headed kept changes d =
    record { hunks = record { kept = kept; changes = changes } ∷ d.hunks; after_hunks = d.after_hunks }

joins : (change : Change) (kept : List (List ℕ)) (changes : List Change) (d : Diff) → has_no_lines kept ≡ true
    → with_change change (headed kept changes d) ≡ headed [] (change ∷ changes) d
joins change kept changes d t = rw t refl

stands_alone : (change : Change) (kept : List (List ℕ)) (changes : List Change) (d : Diff) → has_no_lines kept ≡ false
    → with_change change (headed kept changes d) ≡ headed [] (change ∷ []) (headed kept changes d)
stands_alone change kept changes d f = rw f refl

kept_before : (lines : List (List ℕ)) (changes : List Change) (d : Diff)
    → with_kept lines (headed [] changes d) ≡ headed lines changes d
kept_before lines changes d = ap (λ ls. headed ls changes d) (append-nil lines)

-- what stands after the first hunk of changes, where they begin with this one
abbrev pub after : List ℕ → ℕ → List Change → Diff
after source at changes = diff_from source (joined_end at changes) (drop (joined at changes) changes)

one_more : (source : List ℕ) (at : ℕ) (c d : Change) (ds : List Change) → eqb d.from at ≡ true
    → headed [] (c ∷ d ∷ take (joined d.to ds) ds) (after source d.to ds)
    ≡ headed [] (c ∷ take (joined at (d ∷ ds)) (d ∷ ds)) (after source at (d ∷ ds))
one_more source at c d ds t = rw t refl

no_more : (source : List ℕ) (at : ℕ) (c d : Change) (ds : List Change) → eqb d.from at ≡ false
    → headed [] (c ∷ []) (diff_from source at (d ∷ ds))
    ≡ headed [] (c ∷ take (joined at (d ∷ ds)) (d ∷ ds)) (after source at (d ∷ ds))
no_more source at c d ds f = rw f refl

pub first_hunk : (source : List ℕ) (at : ℕ) (c : Change) (cs : List Change) → AreRising (length source) at (c ∷ cs)
    → diff_from source at (c ∷ cs)
    ≡ headed (line_texts (slice_range source at c.from)) (c ∷ take (joined c.to cs) cs) (after source c.to cs)
first_hunk source at c [] h =
    kept_before (line_texts (slice_range source at c.from)) (c ∷ []) (diff_from source c.to [])
first_hunk source at c (d ∷ ds) h =
    let rest : AreRising (length source) c.to (d ∷ ds) = h.4 in
    let ls : List (List ℕ) = line_texts (slice_range source at c.from) in
    let kept : List (List ℕ) = line_texts (slice_range source c.to d.from) in
    let next = first_hunk source c.to d ds rest in
    ap (λ x. with_kept ls (with_change c x)) next
    ∙ by_cases {C = with_kept ls (with_change c (headed kept (d ∷ take (joined d.to ds) ds) (after source d.to ds)))
    ≡ headed ls (c ∷ take (joined c.to (d ∷ ds)) (d ∷ ds)) (after source c.to (d ∷ ds))} (eqb d.from c.to)
    (λ t. let same : d.from ≡ c.to = eqb-true d.from c.to t in
    let nil : has_no_lines kept ≡ true =
    ap (λ n. has_no_lines (line_texts (slice_range source c.to n))) same
    ∙ ap (λ bs. has_no_lines (line_texts bs)) (none_between source c.to) in
    ap (with_kept ls) (joins c kept (d ∷ take (joined d.to ds) ds) (after source d.to ds) nil
    ∙ one_more source c.to c d ds t)
    ∙ kept_before ls (c ∷ take (joined c.to (d ∷ ds)) (d ∷ ds)) (after source c.to (d ∷ ds)))
    (λ f. let long : length (slice_range source c.to d.from) ≡ d.from - c.to =
    part_length source c.to d.from (omega (arith, rest.1, rest.2)) in
    let some : has_no_lines kept ≡ false =
    some_lines (slice_range source c.to d.from) (omega (arith, long, rest.0, apart_by c.to d.from rest.0 f)) in
    ap (with_kept ls) (stands_alone c kept (d ∷ take (joined d.to ds) ds) (after source d.to ds) some
    ∙ ap (headed [] (c ∷ [])) (sym next)
    ∙ no_more source c.to c d ds f)
    ∙ kept_before ls (c ∷ take (joined c.to (d ∷ ds)) (d ∷ ds)) (after source c.to (d ∷ ds)))

-- ---- the first hunk of changes, and those after it

abbrev pub first_from : List Change → ℕ
first_from [] = 0
first_from (change ∷ changes) = change.from

pub from_first : (changes : List Change) (low : ℕ) (default : Change) → low < length changes
    → (get_or changes low default).from ≡ first_from (drop low changes)
from_first [] low default h = absurd (omega (arith, h))
from_first (c ∷ cs) zero default h = refl
from_first (c ∷ cs) (suc low) default h = from_first cs low default (omega (arith, h))

pub rising_first : (size at : ℕ) (changes : List Change) → AreRising size at changes → 0 < length changes
    → AreRising size (first_from changes) changes
rising_first size at [] h some = absurd (omega (arith, some))
rising_first size at (c ∷ cs) h some = (omega arith, h.1, h.2, h.3, h.4)

pub first_within : (size at : ℕ) (changes : List Change) → AreRising size at changes → 0 < length changes
    → (at ≤ first_from changes) × (first_from changes ≤ size)
first_within size at [] h some = absurd (omega (arith, some))
first_within size at (c ∷ cs) h some = (h.0, omega (arith, h.1, h.2))

pub rising_joined : (size at : ℕ) (changes : List Change) → AreRising size at changes
    → AreRising size (joined_end at changes) (drop (joined at changes) changes)
rising_joined size at [] h = h
rising_joined size at (c ∷ cs) h =
    by_cases {C = AreRising size (joined_end at (c ∷ cs)) (drop (joined at (c ∷ cs)) (c ∷ cs))} (eqb c.from at)
    (λ t. rw t (rising_joined size c.to cs h.4)) (λ f. rw f h)

same_number : (n : ℕ) → eqb n n ≡ true
same_number n =
    elim (eqb_tells n n) [
      | inl h ↦ h.0
      | inr h ↦ absurd (h.1 refl)
    ]

pub joined_some : (changes : List Change) → 0 < length changes → 0 < joined (first_from changes) changes
joined_some [] some = absurd (omega (arith, some))
joined_some (c ∷ cs) some = rw (same_number c.from) (omega arith)

pub hunk_then : (source : List ℕ) (at : ℕ) (changes : List Change) → AreRising (length source) at changes
    → 0 < length changes → diff_from source at changes
    ≡ headed (line_texts (slice_range source at (first_from changes)))
    (take (joined (first_from changes) changes) changes)
    (after source (first_from changes) changes)
hunk_then source at [] h some = absurd (omega (arith, some))
hunk_then source at (c ∷ cs) h some = rw (same_number c.from) (first_hunk source at c cs h)

-- hunks that are made, and those that are left
pub hunks_more : (made : List MadeHunk) (next : MadeHunk) (left : List Hunk)
    → hunks_of (made ++ next ∷ []) ++ left ≡ hunks_of made ++ (hunk_of next ∷ left)
hunks_more [] next left = refl
hunks_more (m ∷ made) next left = ap (λ hs. hunk_of m ∷ hs) (hunks_more made next left)

hunk_by : (source : List ℕ) (at from n end : ℕ) (xs : List Change) → AreRising (length source) at xs → 0 < length xs
    → from ≡ first_from xs → n ≡ joined from xs → end ≡ joined_end from xs → diff_from source at xs
    ≡ headed (line_texts (slice_range source at from)) (take n xs) (diff_from source end (drop n xs))
hunk_by source at from n end xs h some f many last =
    hunk_then source at xs h some
    ∙ ap (λ k. headed (line_texts (slice_range source at k)) (take (joined k xs) xs) (after source k xs)) (sym f)
    ∙ ap₂ (λ k l. headed (line_texts (slice_range source at from)) (take k xs) (diff_from source l (drop k xs)))
    (sym many) (sym last)

hunk_is : (source : List ℕ) (at from n : ℕ) (xs : List Change) (hunk : MadeHunk)
    → hunk.kept.now ≡ slice_range source at from → hunk.changes.now ≡ take n xs
    → hunk_of hunk ≡ record { kept = line_texts (slice_range source at from); changes = take n xs }
hunk_is source at from n xs hunk k e = ap₂ (λ bs cs. record { kept = line_texts bs; changes = cs }) k e

pub hunk_put : (source : List ℕ) (at from n end : ℕ) (xs : List Change) (made next : List MadeHunk) (hunk : MadeHunk)
    (d : Diff) → AreRising (length source) at xs → 0 < length xs
    → from ≡ first_from xs → n ≡ joined from xs → end ≡ joined_end from xs
    → hunk.kept.now ≡ slice_range source at from → hunk.changes.now ≡ take n xs → next ≡ made ++ hunk ∷ []
    → hunks_of made ++ (diff_from source at xs).hunks ≡ d.hunks
    → hunks_of next ++ (diff_from source end (drop n xs)).hunks ≡ d.hunks
hunk_put source at from n end xs made next hunk d h some f many last k cs put e =
    let left : List Hunk = (diff_from source end (drop n xs)).hunks in
    ap (λ m. hunks_of m ++ left) put ∙ hunks_more made hunk left
    ∙ ap (λ x. hunks_of made ++ (x ∷ left)) (hunk_is source at from n xs hunk k cs)
    ∙ ap (λ x. hunks_of made ++ x.hunks) (sym (hunk_by source at from n end xs h some f many last)) ∙ e

pub after_put : (source : List ℕ) (at from n end : ℕ) (xs : List Change) (d : Diff) → AreRising (length source) at xs
    → 0 < length xs → from ≡ first_from xs → n ≡ joined from xs → end ≡ joined_end from xs
    → (diff_from source at xs).after_hunks ≡ d.after_hunks → (diff_from source end (drop n xs)).after_hunks
    ≡ d.after_hunks
after_put source at from n end xs d h some f many last e =
    ap (λ x. x.after_hunks) (sym (hunk_by source at from n end xs h some f many last)) ∙ e

pub rising_put : (size at from n end : ℕ) (xs : List Change) → AreRising size at xs → 0 < length xs
    → from ≡ first_from xs → n ≡ joined from xs → end ≡ joined_end from xs → AreRising size end (drop n xs)
rising_put size at from n end xs h some f many last =
    let own : AreRising size from xs = subst (λ k. AreRising size k xs) (sym f) (rising_first size at xs h some) in
    subst (λ k. AreRising size end (drop k xs)) (sym many)
    (subst (λ k. AreRising size k (drop (joined from xs) xs)) (sym last) (rising_joined size from xs own))
