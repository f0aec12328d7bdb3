-- A number that falls on the way down a tree.
use Rattle.std.proofs.Common.{ℕ, suc, ◌+◌, ◌<◌, arith}
use Rattle.miette_tree.specs.rules.Tree.{Tree, tree, Cause, diagnostic, texts, Trees, no_trees, more_trees, cause_of}
use Rattle.miette_tree.specs.rules.Tree.{related_of}

abbrev mutual
  pub tree_size : Tree → ℕ
  tree_size (tree m s c r) = suc (suc (suc (suc (suc (cause_size c + trees_size r)))))

  pub cause_size : Cause → ℕ
  cause_size (diagnostic t) = tree_size t
  cause_size (texts ts) = 0

  pub trees_size : Trees → ℕ
  trees_size no_trees = 0
  trees_size (more_trees t ts) = suc (suc (tree_size t + trees_size ts))

pub cause_falls : (t : Tree) → cause_size (cause_of t) < tree_size t
cause_falls (tree m s c r) = omega arith

pub related_falls : (t : Tree) → suc (suc (suc (suc (trees_size (related_of t))))) < tree_size t
related_falls (tree m s c r) = omega arith
