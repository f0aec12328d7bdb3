-- A number that falls on the way down a tree.
use Rattle.std.proofs.Common.{◌≡◌, ℕ, suc, zero, ◌+◌, ◌<◌, List, [], ◌∷◌, length, get_or, map, arith, subst, sym}
use Rattle.miette_protocol.specs.rules.Reading.{Source}
use Rattle.miette_protocol.specs.views.Meaning.{Meaning}
use Rattle.miette_tree.specs.declared.tree.Report.{Report}
use Rattle.miette_tree.specs.rules.Tree.{Tree, tree, Cause, diagnostic, texts, Trees, no_trees, more_trees, trees}
use Rattle.miette_tree.specs.views.Report.{tree_of}

abbrev mutual
  pub tree_size : Tree → ℕ
  tree_size (tree m s c r) = suc (cause_size c + trees_size r)

  pub cause_size : Cause → ℕ
  cause_size (diagnostic t) = tree_size t
  cause_size (texts ts) = 0

  pub trees_size : Trees → ℕ
  trees_size no_trees = 0
  trees_size (more_trees t ts) = suc (tree_size t + trees_size ts)

-- one of several is smaller than all
pub one_falls : {R : Type 0} (value : R → Tree) (rs : List R) (i : ℕ) (d : R) → i < length rs
    → tree_size (value (get_or rs i d)) < trees_size (trees (map value rs))
one_falls value [] i d h = absurd (omega arith)
one_falls value (r ∷ rs) zero d h = omega arith
one_falls value (r ∷ rs) (suc i) d h = omega (arith, one_falls value rs i d (omega arith))

-- the one at an index is smaller than all
pub item_falls : {R : Type 0} (value : R → Tree) (rs : List R) (i : ℕ) (r : R) → i < length rs → r ≡ get_or rs i r
    → tree_size (value r) < trees_size (trees (map value rs))
item_falls value rs i r h is = subst (λ x. tree_size (value x) < trees_size (trees (map value rs))) (sym is)
    (one_falls value rs i r h)

abbrev pub reports_size : {D S : Type 0} → (D → Meaning) → (S → Source) → List (Report D S) → ℕ
reports_size means is rs = trees_size (trees (map (tree_of means is) rs))
