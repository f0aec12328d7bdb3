-- Where a link can end.
use Rattle.std.specs.Prelude.{ℕ, List, [], ◌∷◌, Bool, false, ◌&&◌, ◌||◌, ◌==◌, slice_index}

-- Whether some `]` is directly before a `(`.
abbrev pub has_link_end : List ℕ → Bool
has_link_end [] = false
has_link_end (b ∷ bs) = ((b == 93) && (slice_index bs 0 == 40)) || has_link_end bs
