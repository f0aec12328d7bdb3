use Rattle.std.proofs.Common.{◌≡◌, ◌++◌, take}
use Rattle.miette_fixes.specs.views.Ordered.{edits_of}
use Rattle.miette_fixes.proofs.order.append_references.Given as goal

abbrev pub invariant-loop-edit : goal.invariant-loop-edit
invariant-loop-edit l =
    edits_of l.list.items ≡ edits_of l.initial.list.items ++ take l.edit-index l.edits
