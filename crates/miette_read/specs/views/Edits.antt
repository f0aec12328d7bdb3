-- The edits behind references.
use Rattle.std.specs.Prelude.{List, map}
use Rattle.miette_read.specs.rules.SuggestedFixes.{FileEdit}
use denote.Ref.{Bor}

abbrev pub edits_behind : List (Bor FileEdit) → List FileEdit
edits_behind edits = map (λ e. e.now) edits
