use Rattle.std.proofs.Common.{◌≡◌, ℕ, ◌+◌, ◌*◌, ◌≤◌, List, length}
use Rattle.json.specs.Json.{items, members, value, parse_map}
use Rattle.json.proofs.Trees.{items_before, members_before}
use Rattle.miette_description.proofs.reading.+read.Given as goal

abbrev pub decreases-read_value : goal.decreases-read_value
decreases-read_value l = 2 * l.depth

abbrev pub decreases-read_items : goal.decreases-read_items
decreases-read_items l = 2 * l.depth + 1

abbrev pub decreases-read_members : goal.decreases-read_members
decreases-read_members l = 2 * l.depth + 1

-- what the rest reads to, in front of which something was read, is what all reads to
abbrev IsRest : {T A : Type 0} → (ℕ → List T → A) → (A → A) → List T → List T → Type 0
IsRest parsed before all rest = (n : ℕ) × (length rest ≤ n) × (parsed (length all) all ≡ before (parsed n rest))
    × (length rest ≤ length all)

abbrev pub invariant-read_items-loop-alloc : goal.invariant-read_items-loop-alloc
invariant-read_items-loop-alloc l =
    IsRest (items (value l.depth)) (parse_map (items_before l.found.items)) l.initial.reader l.reader

abbrev pub decreases-read_items-loop-alloc : goal.decreases-read_items-loop-alloc
decreases-read_items-loop-alloc l = length l.reader

abbrev pub invariant-read_members-loop-found : goal.invariant-read_members-loop-found
invariant-read_members-loop-found l =
    IsRest (members (value l.depth)) (parse_map (members_before l.found.items)) l.initial.reader l.reader

abbrev pub decreases-read_members-loop-found : goal.decreases-read_members-loop-found
decreases-read_members-loop-found l = length l.reader
