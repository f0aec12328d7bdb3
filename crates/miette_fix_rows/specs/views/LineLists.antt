-- Lines in code.
use Rattle.std.specs.Prelude.{ℕ, List, map, reverse}
use Rattle.miette_fix_rows.specs.declared.line_lists.Side.{Side}
use Rattle.miette_fix_rows.specs.declared.line_lists.Side.TheVariants.{Front, Back}
use denote.Ref.{Bor}

-- the bytes behind references
abbrev pub borrowed_lines : List (Bor (List ℕ)) → List (List ℕ)
borrowed_lines lines = map (λ line. line.now) lines

-- lines in the order from one end
abbrev pub met_from : Side → List (List ℕ) → List (List ℕ)
met_from Front lines = lines
met_from Back lines = reverse lines
