-- Invariants of the pass over labels sorted by offset.
use Rattle.std.specs.Prelude.{ℕ, ◌≤◌, ◌≡◌, ⊤, List, [], ◌∷◌, take, max, Bool, nat_le, if◌then◌else◌}
use Rattle.std.specs.List.{filter}
use Rattle.miette_labels.specs.declared.placed.PlacedLabel.{PlacedLabel}
use Rattle.miette_narrated.specs.declared.label_sweep.LabelWalk.{LabelWalk}
use Rattle.miette_narrated.specs.rules.Labels.{SnippetLine}

-- whether a label ends at an offset or after it
abbrev pub reaches : ℕ → PlacedLabel → Bool
reaches place p = nat_le place p.after

-- `running` has those of the first `next` labels that end at the offset or after it
abbrev pub IsSweptTo : List PlacedLabel → ℕ → ℕ → List PlacedLabel → Type 0
IsSweptTo labels place next running = running ≡ filter (reaches place) (take next labels)

-- the pass of a walk is at its offset
abbrev pub IsUnderWay : LabelWalk → Type 0
IsUnderWay walk = IsSweptTo walk.order.placed.now walk.sweep.at walk.sweep.next walk.sweep.running.items

-- the first of the labels begins at an offset or after it
abbrev pub BeginsFrom : ℕ → List PlacedLabel → Type 0
BeginsFrom place [] = ⊤
BeginsFrom place (p ∷ ps) = place ≤ p.start

-- labels sorted by offset; none ends before it begins
abbrev pub AreOrdered : List PlacedLabel → Type 0
AreOrdered [] = ⊤
AreOrdered (p ∷ ps) = (p.start ≤ p.after) × BeginsFrom p.start ps × AreOrdered ps

-- the last offset at which a label described below a line may begin
abbrev pub last_start : SnippetLine → ℕ
last_start it = if it.is_last then max it.data_end it.line.text_end else it.line.text_end
