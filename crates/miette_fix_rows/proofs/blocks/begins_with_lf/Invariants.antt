use Rattle.std.proofs.Common.{◌≡◌, drop, length}
use Rattle.std.specs.Prelude.{◌==◌, slice_index}
use Rattle.miette_lines.specs.rules.Lines.{LF}
use Rattle.miette_fixes.specs.rules.Applying.{text_from}
use Rattle.miette_fixes.specs.views.Ordered.{FitFrom, edits_of}
use Rattle.miette_fix_rows.proofs.blocks.begins_with_lf.Given as goal

abbrev pub invariant-loop-edit : goal.invariant-loop-edit
invariant-loop-edit l = record {
  fit : FitFrom (length l.bytes) l.at (edits_of (drop l.edit-index l.edits));
  first : (slice_index (text_from l.bytes l.at (edits_of (drop l.edit-index l.edits))) 0 == LF)
      ≡ (slice_index (text_from l.bytes l.fn.from (edits_of l.edits)) 0 == LF);
}
