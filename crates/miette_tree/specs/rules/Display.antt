-- The display form of a report.
use Rattle.std.specs.Prelude.{ℕ, Bool, List, [], ◌∷◌, ◌++◌, if◌then◌else◌}
use Rattle.miette_tree.specs.rules.Tree.{Tree, head, cause_of, causes_of}

-- texts, each after `: `
abbrev pub after_colons : List (List ℕ) → List ℕ
after_colons [] = []
after_colons (t ∷ ts) = 58 ∷ 32 ∷ (t ++ after_colons ts)

-- the message, or the chain joined by `: `
abbrev pub display_text : Bool → Tree → List ℕ
display_text alternate t = (head t).message ++ (if alternate then after_colons (causes_of (cause_of t)) else [])
