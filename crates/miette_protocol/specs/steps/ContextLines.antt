-- How the number of context lines of a label is serialized.
use Rattle.std.specs.Prelude.{◌≡◌, ◌⊎◌, ℕ, List, Option, Some, None}
use Rattle.serde.specs.Event.{Event, Log, Logs, WritesOption, unsigned, nothing}
use Rattle.serde.specs.Steps.{Gives, Stays}
use Rattle.serde.specs.declared.deserializer.Deserializer.{Deserializer}
use Rattle.miette_protocol.specs.views.Meaning.{context_count}

-- the number was written, or nothing
abbrev pub WritesLines : Option ℕ → Log → Log → Type 0
WritesLines = WritesOption (λ n old new. Logs old new (unsigned n))

-- nothing was read, or a number
abbrev pub ReadsLines : {F E M : Type 0} → (F → List ℕ → Event → F → Type 0) → (F → F → Type 0) → Deserializer F E M →
    Option ℕ → Deserializer F E M → Type 0
ReadsLines {F} {E} {M} gives stays old lines new =
    (Gives gives old nothing new × (lines ≡ None))
    ⊎ ((n : ℕ) × (looked : Deserializer F E M) × Stays stays old looked × Gives gives looked (unsigned n) new
    × (lines ≡ context_count (Some n)))
