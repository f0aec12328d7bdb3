-- Which labels may become the primary one.
use Rattle.std.specs.Prelude.{Bool, ◌||◌, not}
use Rattle.miette_protocol.specs.views.Meaning.{Label}

-- a label marked as primary, or any label
abbrev pub is_asked : Bool → Label → Bool
is_asked marked l = not marked || l.primary
