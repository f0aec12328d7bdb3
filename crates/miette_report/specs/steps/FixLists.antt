-- Fixes of the code, as the definitions represent them.
use Rattle.std.specs.Prelude.{List, map}
use Rattle.miette_fixes.specs.rules.Edits.{FixModel}
use denote.Ref.{Bor}

-- the fixes that the references point to
abbrev pub fixes_in : List (Bor FixModel) → List FixModel
fixes_in list = map (λ fix. fix.now) list
