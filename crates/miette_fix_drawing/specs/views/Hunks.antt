-- Hunks in code.
use Rattle.std.specs.Prelude.{List, map}
use Rattle.miette_fix_rows.specs.rules.Blocks.{line_texts}
use Rattle.miette_fix_rows.specs.rules.Hunks.{Hunk}
use Rattle.miette_fix_drawing.specs.declared.hunks.Hunk.{Hunk as MadeHunk}

abbrev pub hunk_of : MadeHunk → Hunk
hunk_of it = record { kept = line_texts it.kept.now; changes = it.changes.now }

abbrev pub hunks_of : List MadeHunk → List Hunk
hunks_of list = map hunk_of list
