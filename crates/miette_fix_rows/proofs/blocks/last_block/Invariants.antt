use Rattle.std.proofs.Common.{◌≡◌, ◌<◌, List, ◌∷◌, ◌++◌, drop, length}
use Rattle.miette_fixes.specs.rules.Edits.{Replacement}
use Rattle.miette_fixes.specs.views.Ordered.{edits_of}
use Rattle.miette_fix_rows.specs.rules.Blocks.{blocks}
use Rattle.miette_fix_rows.specs.steps.Sharing.{EndsApart, IsBlock}
use Rattle.miette_fix_rows.proofs.blocks.last_block.Given as goal

abbrev pub invariant-loop-low : goal.invariant-loop-low
invariant-loop-low l = record {
  low : l.low < length l.edits;
  block : IsBlock l.source l.start l.to (drop l.low (edits_of l.edits));
  whole : (later : List Replacement) → EndsApart l.source (edits_of l.edits) later
      → blocks l.source (drop l.low (edits_of l.edits) ++ later)
      ≡ drop l.low (edits_of l.edits) ∷ blocks l.source later;
}

abbrev pub decreases-loop-low : goal.decreases-loop-low
decreases-loop-low l = l.low
