use Rattle.std.proofs.Common.{◌≡◌, ◌++◌, false, length, string_bytes, drop}
use Rattle.std.specs.List.{list_any}
use Rattle.miette_fixes.specs.rules.Edits.{ends_after}
use Rattle.miette_fixes.specs.views.Ordered.{edits_of}
use Rattle.miette_narrated.specs.rules.Fixes.{edit_rows}
use Rattle.miette_narrated.specs.steps.EditPlaces.{IsCachedLine}
use Rattle.miette_narrated.proofs.fixes.push_edits.Given as goal

abbrev pub invariant-loop-edit : goal.invariant-loop-edit
invariant-loop-edit l = record {
  rows : string_bytes l.out ++ edit_rows l.source (edits_of (drop l.edit-index l.edits)) ≡ string_bytes l.fn.out
      ++ edit_rows l.source (edits_of l.edits);
  kept : IsCachedLine l.source l.kept;
  inside : list_any (ends_after (length l.source)) (edits_of (drop l.edit-index l.edits)) ≡ false;
}
