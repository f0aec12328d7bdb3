-- Fixes that are listed report by report.
use Rattle.std.proofs.Common.{◌≡◌, ℕ, ◌+◌, List, [], ◌∷◌, ◌++◌, map, drop, Option, None, Bor}
use Rattle.std.proofs.Common.{refl, sym, ap, ◌∙◌, append_assoc}
use Rattle.std.specs.Prelude.{Bool}
use Rattle.miette_fixes.specs.rules.ApplyingAll.{edit_lists}
use Rattle.miette_fixes.specs.rules.Edits.{FixModel}
use Rattle.miette_protocol.specs.rules.Reading.{Source}
use Rattle.miette_tree.specs.declared.tree.Cause as shown
use Rattle.miette_tree.specs.declared.tree.Cause.TheVariants as seen
use Rattle.miette_tree.specs.rules.Tree.{Tree, tree, trees, head, cause_of, related_of}
use Rattle.miette_report.specs.rules.AppliedFixes.{asked_edits, asked_fixes, fixes_of_causes, fixes_of_related}
use Rattle.miette_report.specs.rules.AppliedFixes.{fixes_over}
use Rattle.miette_report.specs.rules.AppliedFixes.{inheriting}
use Rattle.miette_report.specs.steps.FixLists.{fixes_in}

-- a report's own, those of its causes and those of its related reports
pub all_joined : (t : Tree) (old own caused new : List FixModel) → own ≡ old ++ (head t).fixes
    → caused ≡ own ++ fixes_of_causes (cause_of t) → new ≡ caused ++ fixes_of_related (related_of t)
    → new ≡ old ++ fixes_over t
all_joined (tree m s c r) old own caused new p q e =
    e ∙ ap (λ l. l ++ fixes_of_related r) (q ∙ ap (λ l. l ++ fixes_of_causes c) p)
    ∙ append_assoc (old ++ m.fixes) (fixes_of_causes c) (fixes_of_related r)
    ∙ append_assoc old m.fixes (fixes_of_causes c ++ fixes_of_related r)

-- and where it has none
pub all_inherited : (s : Option Source) (old new fixes : List FixModel) → s ≡ None → new ≡ old ++ fixes
    → new ≡ old ++ inheriting s fixes
all_inherited s old new fixes e p = p ∙ ap (λ o. old ++ inheriting o fixes) (sym e)

pub own_and_related : (t : Tree) (old own new : List FixModel) → own ≡ old ++ (head t).fixes
    → new ≡ own ++ fixes_of_related (related_of t) → new ≡ old ++ ((head t).fixes ++ fixes_of_related (related_of t))
own_and_related t old own new p e =
    e ∙ ap (λ l. l ++ fixes_of_related (related_of t)) p
    ∙ append_assoc old (head t).fixes (fixes_of_related (related_of t))

-- ---- through related reports

-- what is listed, and what is left to list, is all
abbrev pub ListedSoFar : {R : Type 0} → (R → Tree) → List R → ℕ → List FixModel → List FixModel → Type 0
ListedSoFar value rs i old now = now ++ fixes_of_related (trees (map value (drop i rs)))
    ≡ old ++ fixes_of_related (trees (map value rs))

-- ---- the edits of each

lists_same : (list : List (Bor FixModel)) → edit_lists list ≡ map (λ fix. fix.edits) (fixes_in list)
lists_same [] = refl
lists_same (fix ∷ list) = ap (λ l. fix.now.edits ∷ l) (lists_same list)

-- those of all that are asked for, by how they were found
pub asked_lists : (all : Bool) (t : Tree) (slice list found none : List (Bor FixModel)) → slice ≡ list
    → fixes_in list ≡ asked_fixes all (fixes_in found) → fixes_in found ≡ fixes_in none ++ fixes_over t → none ≡ []
    → edit_lists slice ≡ asked_edits all t
asked_lists all t slice list found none l a f n =
    ap edit_lists l ∙ lists_same list
    ∙ ap (map (λ fix. fix.edits)) (a ∙ ap (asked_fixes all) (f ∙ ap (λ x. fixes_in x ++ fixes_over t) n))
