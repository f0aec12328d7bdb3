-- The first part of a chain: the messages of a report and of its diagnostic causes. The cause texts of the last of them
-- follow.
use Rattle.std.specs.Prelude.{ℕ, List, [], ◌∷◌, Option, Some, None}
use Rattle.miette_tree.specs.rules.Tree.{Tree, tree, Cause, diagnostic, texts}

-- the messages of a report and of its diagnostic causes
abbrev mutual
  pub spine : Tree → List (List ℕ)
  spine (tree m s c r) = m.message ∷ spine_below c

  pub spine_below : Cause → List (List ℕ)
  spine_below (diagnostic t) = spine t
  spine_below (texts ts) = []

abbrev pub spine_from : Option Tree → List (List ℕ)
spine_from None = []
spine_from (Some t) = spine t

-- the texts of a cause that isn't a diagnostic
abbrev pub texts_below : Cause → List (List ℕ)
texts_below (diagnostic t) = []
texts_below (texts ts) = ts
