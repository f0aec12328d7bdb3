-- Changes in order.
use Rattle.std.specs.Prelude.{ℕ, suc, ◌≤◌, List, [], ◌∷◌, ◌==◌, if◌then◌else◌}
use Rattle.miette_fix_rows.specs.rules.Hunks.{Change}

-- from an offset on, within a source of `size` bytes into which they point
abbrev pub AreRising : ℕ → ℕ → List Change → Type 0
AreRising size at [] = at ≤ size
AreRising size at (change ∷ changes) =
    (at ≤ change.from) × (change.from ≤ change.to) × (change.to ≤ size) × (change.place ≤ size)
    × AreRising size change.to changes

-- how many changes from the first on are adjacent, and where the last of them ends
abbrev pub joined : ℕ → List Change → ℕ
joined at [] = 0
joined at (change ∷ changes) = if change.from == at then suc (joined change.to changes) else 0

abbrev pub joined_end : ℕ → List Change → ℕ
joined_end at [] = at
joined_end at (change ∷ changes) = if change.from == at then joined_end change.to changes else at
