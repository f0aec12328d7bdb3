-- The lines of a diff in the making.
use Rattle.std.proofs.Common.{ℕ, ◌≡◌, true, List, [], ◌∷◌, ◌++◌, refl, sym, ap, ◌∙◌, append_assoc}
use Rattle.std.specs.List.{flat_map}
use Rattle.std.proofs.lemmas.List.{append-nil}
use Rattle.miette_lines.proofs.Cases.{by_cases}
use Rattle.miette_fix_rows.specs.rules.Hunks.{Change, Diff, Hunk, has_no_lines, onto_hunks, onto_kept, with_change}
use Rattle.miette_fix_rows.specs.rules.Hunks.{with_kept}

abbrev of_hunks : (Change → List (List ℕ)) → List Hunk → List (List ℕ)
of_hunks f hunks = flat_map (λ hunk. hunk.kept ++ flat_map f hunk.changes) hunks

-- the unchanged lines of a diff, and some of those of its changes
abbrev pub told : (Change → List (List ℕ)) → Diff → List (List ℕ)
told f d = of_hunks f d.hunks ++ d.after_hunks

kept_told : (f : Change → List (List ℕ)) (lines : List (List ℕ)) (hunks : List Hunk) (after : List (List ℕ))
    → of_hunks f (onto_kept lines hunks after).hunks ++ (onto_kept lines hunks after).after_hunks ≡ lines ++
    (of_hunks f hunks ++ after)
kept_told f lines [] after = refl
kept_told f lines (hunk ∷ hunks) after =
    ap (λ ls. (ls ++ of_hunks f hunks) ++ after) (append_assoc lines hunk.kept (flat_map f hunk.changes))
    ∙ ap (λ ls. ls ++ after)
    (append_assoc lines (hunk.kept ++ flat_map f hunk.changes) (of_hunks f hunks))
    ∙ append_assoc lines ((hunk.kept ++ flat_map f hunk.changes) ++ of_hunks f hunks) after

pub nil_of : (ls : List (List ℕ)) → has_no_lines ls ≡ true → ls ≡ []
nil_of [] h = refl
nil_of (l ∷ ls) h = absurd (cc)

change_told : (f : Change → List (List ℕ)) (change : Change) (hunks : List Hunk)
    → of_hunks f (onto_hunks change hunks) ≡ f change ++ of_hunks f hunks
change_told f change [] = append-nil (f change ++ [])
change_told f change (hunk ∷ hunks) =
    by_cases {C = of_hunks f (onto_hunks change (hunk ∷ hunks)) ≡ f change ++ of_hunks f (hunk ∷ hunks)}
    (has_no_lines hunk.kept)
    (λ t. rw t (append_assoc (f change) (flat_map f hunk.changes) (of_hunks f hunks)
    ∙ ap (λ ls. f change ++ ((ls ++ flat_map f hunk.changes) ++ of_hunks f hunks)) (sym (nil_of hunk.kept t))))
    (λ n. rw n (ap (λ ls. ls ++ of_hunks f (hunk ∷ hunks)) (append-nil (f change))))

-- a change after unchanged lines
pub told_more : (f : Change → List (List ℕ)) (lines : List (List ℕ)) (change : Change) (d : Diff)
    → told f (with_kept lines (with_change change d)) ≡ lines ++ (f change ++ told f d)
told_more f lines change d =
    kept_told f lines (onto_hunks change d.hunks) d.after_hunks
    ∙ ap (λ ls. lines ++ (ls ++ d.after_hunks)) (change_told f change d.hunks)
    ∙ ap (λ ls. lines ++ ls) (append_assoc (f change) (of_hunks f d.hunks) d.after_hunks)
