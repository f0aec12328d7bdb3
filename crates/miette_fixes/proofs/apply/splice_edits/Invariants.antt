use Rattle.std.proofs.Common.{◌≡◌, ◌++◌, drop, length}
use Rattle.miette_fixes.specs.rules.Applying.{text_from}
use Rattle.miette_fixes.specs.views.Ordered.{FitFrom, edits_of}
use Rattle.miette_fixes.proofs.apply.splice_edits.Given as goal

abbrev pub invariant-loop-edit : goal.invariant-loop-edit
invariant-loop-edit l = record {
  fit : FitFrom (length l.source) l.at (edits_of (drop l.edit-index l.edits));
  text : l.text.items ++ text_from l.source l.at (edits_of (drop l.edit-index l.edits))
      ≡ text_from l.source l.fn.from (edits_of l.edits);
}
