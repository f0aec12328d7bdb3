-- Texts without an escape.
use Rattle.std.specs.Prelude.{ℕ, Bool, true, ◌&&◌, not, ◌==◌, List, [], ◌∷◌}

abbrev pub is_escape : ℕ → Bool
is_escape c = c == 27

abbrev pub no_escape : List ℕ → Bool
no_escape [] = true
no_escape (c ∷ cs) = not (is_escape c) && no_escape cs
