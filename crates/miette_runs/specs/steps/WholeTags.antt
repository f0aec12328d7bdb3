-- Tags whose sequences are complete.
use Rattle.std.specs.Prelude.{Bool, true, ◌&&◌, List, [], ◌∷◌}
use Rattle.miette_runs.specs.rules.Sequences.{is_whole}
use Rattle.miette_runs.specs.declared.runs.sign.Tag.{Tag}
use Rattle.miette_runs.specs.views.Interleaving.{tag_text}

-- each prints exactly one complete sequence
abbrev pub are_whole : List Tag → Bool
are_whole [] = true
are_whole (m ∷ ms) = is_whole (tag_text m) && are_whole ms
