use Rattle.std.proofs.Common.{◌≡◌, ◌++◌, take}
use Rattle.miette_lint.proofs.combined.with_edits.Given as goal

abbrev pub invariant-loop-edit : goal.invariant-loop-edit
invariant-loop-edit l = l.joint ≡ record l.fn.fix { edits = l.fn.fix.edits ++ take l.edit-index l.edits }
